-- The dimensions so far name cases, and what they come to.
use Rattle.std.proofs.Common.{◌≡◌, map, take, drop}
use Rattle.std.specs.List.{list_all}
use Rattle.edge.specs.Flat.{distribution_of}
use Rattle.edge.specs.Known.{known_distribution}
use Rattle.sweep.specs.Gathered.{gathered}
use Rattle.lists.proofs.sweeps.gather.Given as goal

abbrev pub invariant-loop-d : goal.invariant-loop-d
invariant-loop-d l =
    (list_all known_distribution l.dims ≡ list_all known_distribution (drop l.d-index l.dims))
    × (l.so_far ≡ gathered (map distribution_of (take l.d-index l.dims)))
