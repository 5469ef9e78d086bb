-- `stepped` meets its contract: what it clamps may be cut (`stepped` of Steps).
use Rattle.std.proofs.Common.{w64, SFits, arith}
use borrow.Author.Rules.{rules}
use Rattle.std.proofs.lemmas.Int.{to_z-of_z}
use Rattle.rounding.specs.Round.{whole_z}
use Rattle.common.proofs.Steps.{stepped}
use Rattle.common.proofs.int.stepped.Goals as goal

pub returns : goal.returns
returns c =
    let a = c.args in
    let l : SFits w64 a.d.low = search rules in
    let h : SFits w64 a.d.high = search rules in
    let e = stepped a.from a.d.low a.d.high c.ranges.from l h (whole_z a.q) a.step c.ranges.step in
    grind (arith, to_z-of_z)
