use Rattle.std.proofs.Common.{arith, inl, length, ap}
use Rattle.std.proofs.lemmas.Grind.{common_steps}
use Rattle.edge.specs.Trial.{flat_trial}
use Rattle.metrics.proofs.Writes.{writes, filled-more}
use Rattle.files.proofs.read.read_into.Goals as goal

pub loop-i-init-derived : goal.loop-i-init-derived
loop-i-init-derived c = ((tt, tt, inl (grind (arith, common_steps, writes))), tt)

pub loop-i-preserved : goal.loop-i-preserved
loop-i-preserved c =
    let s = c.in-Some.ensures.steps in
    (omega (arith, ap length s.0), rw c.from.ensures (filled-more flat_trial _ _ _ _ _ _ _ _ s.0 s.1 s.2 c.loop-i.invariant.1))
