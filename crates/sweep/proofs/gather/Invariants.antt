-- What the dimensions so far come to.
use Rattle.std.proofs.Common.{◌≡◌, map, take}
use Rattle.sweep.specs.Sweep.{distribution_inside}
use Rattle.sweep.specs.Gathered.{gathered}
use Rattle.sweep.proofs.gather.Given as goal

abbrev pub invariant-loop-d : goal.invariant-loop-d
invariant-loop-d l = l.so_far ≡ gathered (map distribution_inside (take l.d-index l.dims))
