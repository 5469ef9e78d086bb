use Rattle.std.proofs.Common.{sym, ◌∙◌}
use Rattle.sweep.proofs.EachAxis.{one-more}
use Rattle.sweep.proofs.axis.axes_of.Goals as goal

pub loop-d-preserved : goal.loop-d-preserved
loop-d-preserved c =
    let axis = sym c.of.ensures ∙ c.in-Some.is in
    let valid = c.requires c.loop-d.d-index _ c.loop-d-test.true in
    rw c.push.ensures (one-more c.args.dims.now c.loop-d.axes c.loop-d.d-index c.loop-d.invariant _ _ c.loop-d-test.true axis valid)
