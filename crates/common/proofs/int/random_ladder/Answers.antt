-- `random_ladder` meets its contract: the drawn position is from 0 to 7,936, and decodes as itself.
use Rattle.std.proofs.Common.{◌≡◌, pos, unsigned_abs, to_z, of_z, w64, arith}
use Rattle.std.proofs.lemmas.Int.{ints, to_z-of_z}
use Rattle.ladder.proofs.Firsts.{high-bound}
use Rattle.ladder.proofs.Inner.{low-bound}
use Rattle.ladder.specs.Rungs.{rung}
use Rattle.common.proofs.Ladders.{drawn, ladder-ordered, random-is}
use Rattle.common.proofs.int.random_ladder.Goals as goal

pub overflow_cast-from : goal.overflow_cast-from
overflow_cast-from c = grind (arith, ints, low-bound c.args.d.low)

pub overflow_cast-to : goal.overflow_cast-to
overflow_cast-to c = grind (arith, ints, high-bound c.args.d.high)

pub i64_between-p-requires : goal.i64_between-p-requires
i64_between-p-requires c =
    let d = c.args.d in
    let o = ladder-ordered d c.requires.valid c.requires.log in
    grind (arith, ints, to_z-of_z, low-bound d.low, high-bound d.high, o)

pub overflow_cast-p : goal.overflow_cast-p
overflow_cast-p c =
    let d = c.args.d in
    let p = drawn d c.args.output (ladder-ordered d c.requires.valid c.requires.log) in
    grind (arith, ints, to_z-of_z, low-bound d.low, high-bound d.high, p.is, p.to)

pub rung-requires : goal.rung-requires
rung-requires c =
    let d = c.args.d in
    let p = drawn d c.args.output (ladder-ordered d c.requires.valid c.requires.log) in
    grind (arith, ints, to_z-of_z, low-bound d.low, high-bound d.high, p.is, p.to)

pub returns : goal.returns
returns c =
    let d = c.args.d in
    let o = ladder-ordered d c.requires.valid c.requires.log in
    let p = drawn d c.args.output o in
    let at : unsigned_abs (to_z w64 (of_z w64 c.i64_between-p.result)) ≡ p.position = grind (arith, ints, to_z-of_z, low-bound d.low, high-bound d.high, p.is, p.to) in
    let r : c.from.result ≡ pos (rung p.position) = grind (arith, ints, to_z-of_z, at) in
    rw (random-is d c.requires.valid c.requires.log c.args.output) (grind (arith, to_z-of_z, r))
