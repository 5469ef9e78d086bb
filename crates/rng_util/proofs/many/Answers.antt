use Rattle.std.proofs.Common.{◌+◌, ◌≤◌, mul-le-mul_right, arith}
use Rattle.rng_util.proofs.Parts.{padded_none, padded_more}
use Rattle.rng_util.proofs.many.Goals as goal

pub loop-i-init : goal.loop-i-init
loop-i-init g c = (λ few. omega arith, λ f h. padded_none f g.row.N c.args.blank c.args.rng.now)

pub make-requires : goal.make-requires
make-requires g c =
    let few = c.requires.few in
    let next : c.loop-i.i + 1 ≤ c.args.n = omega (arith, c.loop-i-test.true) in
    few.takes c.loop-i.i _ c.loop-i-test.true (omega (arith, few.room, c.loop-i.invariant.0 few, mul-le-mul_right few.cost next))

pub loop-i-preserved : goal.loop-i-preserved
loop-i-preserved g c = (
  λ few. omega (arith, c.loop-i.invariant.0 few, few.draws c.loop-i.i _ _ _ c.loop-i-test.true c.make.ensures),
  λ f h. padded_more f g.row.N c.args.blank _ _ _ _ (c.loop-i.invariant.1 f h) _ _ (omega arith) (h c.loop-i.i _ _ _ c.loop-i-test.true c.make.ensures),
)
