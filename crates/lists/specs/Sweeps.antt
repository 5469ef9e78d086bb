-- The sweep call in numbers.
use Rattle.std.specs.Prelude.{ℕ, cond, List, map, ℤ, Result, Ok, Err}
use Rattle.std.specs.List.{list_all}
use Rattle.distribution.specs.declared.Distribution.{Distribution}
use Rattle.edge.specs.Flat.{distribution_of}
use Rattle.edge.specs.Known.{known_distribution}
use Rattle.edge.specs.declared.flat.DeDistribution.{DeDistribution}
use Rattle.sweep.specs.Sweep.{sweep_refusal_number, sweep_of, swept_in}
use Rattle.sweep.specs.declared.SweepRefusal.{SweepRefusal}
use Rattle.lists.specs.declared.sweeps.DeCount.{DeCount}

-- a number of a dimension names no case
abbrev pub unknown_count : DeCount
unknown_count = record { kind = 4; refusal = 0; count = 0 }

-- listed, with the count
abbrev pub listed_count : ℕ → DeCount
listed_count n = record { kind = 1; refusal = 0; count = n }

-- 1 listed; 0 refused
abbrev pub count_in : Result ℕ SweepRefusal → DeCount
count_in (Ok n) = listed_count n
count_in (Err why) = record { kind = 0; refusal = sweep_refusal_number why; count = 0 }

-- the distributions that the numbers stand for
abbrev pub stand_for : List DeDistribution → List Distribution
stand_for dims = map distribution_of dims

-- what goes out, places being the length of lent memory; a number that names no case is told before any check
abbrev pub sweep_answer : List DeDistribution → ℕ → DeCount
sweep_answer dims places = cond (list_all known_distribution dims) (count_in (sweep_of (stand_for dims) places)) unknown_count

-- what lent memory holds after the call
abbrev pub sweep_left : List DeDistribution → List ℤ → List ℤ
sweep_left dims lent = cond (list_all known_distribution dims) (swept_in (stand_for dims) lent) lent
