-- The dimensions so far have an axis each.
use Rattle.sweep.proofs.EachAxis.{AxesSoFar}
use Rattle.sweep.proofs.axis.axes_of.Given as goal

abbrev pub invariant-loop-d : goal.invariant-loop-d
invariant-loop-d l = AxesSoFar l.dims l.axes l.d-index
