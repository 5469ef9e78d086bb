use Rattle.std.proofs.Common.{◌∙◌}
use Rattle.sweep.specs.Sweep.{distribution_inside}
use Rattle.sweep.proofs.Gathering.{gathered-next}
use Rattle.sweep.proofs.gather.Goals as goal

pub loop-d-preserved : goal.loop-d-preserved
loop-d-preserved c = c.absorb.ensures ∙ rw c.loop-d.invariant (gathered-next distribution_inside c.args.dims.now c.loop-d.d-index _ c.loop-d-test.true)
