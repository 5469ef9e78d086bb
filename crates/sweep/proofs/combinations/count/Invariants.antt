-- The product of the axes so far, as far as the machine's numbers go.
use Rattle.std.proofs.Common.{◌≡◌, ◌-◌, ◌^◌, min, take}
use Rattle.sweep.specs.Axes.{product}
use Rattle.sweep.proofs.combinations.count.Given as goal

abbrev pub invariant-loop-axis : goal.invariant-loop-axis
invariant-loop-axis l = l.count ≡ min (product (take l.axis-index l.axes)) (2 ^ 64 - 1)
