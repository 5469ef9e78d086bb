use Rattle.std.proofs.Common.{arith, inl, length, ap}
use Rattle.std.proofs.lemmas.Grind.{common_steps}
use Rattle.metrics.specs.Export.{number_of, value_of}
use Rattle.metrics.proofs.Writes.{writes, filled-more}
use Rattle.metrics.proofs.read_history_slices.Goals as goal

pub loop-i-init-derived : goal.loop-i-init-derived
loop-i-init-derived c = ((tt, tt, inl (grind (arith, common_steps, writes))), tt)

pub loop-i-preserved : goal.loop-i-preserved
loop-i-preserved c =
    let s = c.in-Some.ensures.steps in (
      omega (arith, ap length s.0),
      filled-more number_of _ _ _ _ _ _ _ _ s.0 s.1 s.2 c.loop-i.invariant.1,
      filled-more value_of _ _ _ _ _ _ _ _ s.0 s.1 s.2 c.loop-i.invariant.2,
    )
