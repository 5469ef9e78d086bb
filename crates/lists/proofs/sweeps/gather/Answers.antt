use Rattle.std.proofs.Common.{sym, ◌∙◌}
use Rattle.edge.specs.Flat.{distribution_of}
use Rattle.edge.specs.Known.{known_distribution}
use Rattle.edge.proofs.Dims.{known, opened}
use Rattle.sweep.proofs.Gathering.{gathered-next}
use Rattle.lists.proofs.Opened.{known-next}
use Rattle.lists.proofs.sweeps.gather.Goals as goal

pub loop-d-preserved : goal.loop-d-preserved
loop-d-preserved c =
    let is = sym c.in_ok-try_from.was ∙ c.try_from.ensures in (
      c.loop-d.invariant.0 ∙ known-next known_distribution c.args.dims.now c.loop-d.d-index _ c.loop-d-test.true (known _ _ _ is),
      c.absorb.ensures ∙ rw (c.loop-d.invariant.1, opened _ _ _ is) (gathered-next distribution_of c.args.dims.now c.loop-d.d-index _ c.loop-d-test.true),
    )
