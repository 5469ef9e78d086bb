-- Request W10 of document 02 in small: the sweep of an Int -3 to 2 by 2, whose high no step meets, and a choice of 2; and which refusal comes first.
use Rattle.std.specs.Prelude.{ℕ, ◌≡◌, true, false, List, [], ◌∷◌, ◌++◌, map, replicate, ℤ, pos, negsuc, Option, Some, None, Result, Ok, Err}
use Rattle.std.specs.List.{list_any}
use Rattle.std.specs.Ordering.{int_eq}
use Rattle.distribution.specs.declared.IntDistribution.{IntDistribution}
use Rattle.distribution.specs.declared.Distribution.{Distribution}
use Rattle.distribution.specs.declared.Distribution.TheVariants as D
use Rattle.sweep.specs.declared.SweepRefusal.{SweepRefusal}
use Rattle.sweep.specs.Sweep.{combinations_of, sweep_refusal_number, sweep_of, swept_in}
use Rattle.common.specs.FromInternal.{from_int}
use Rattle.figures.specs.Leaves.{dec}
use Rattle.figures.specs.Ladder.{ladder}

unfoldable pub by_two : IntDistribution
by_two = record { low = negsuc 2; high = pos 2; log_scale = false; step = Some (pos 2) }

unfoldable pub choice : ℕ → Distribution
choice n = D.Categorical (record { n_choices = n })

unfoldable pub pair : List Distribution
pair = D.Int by_two ∷ choice 2 ∷ []

-- "list all settings, each combination once, the last dimension changing fastest"
abbrev pub Listed : Type 0
Listed =
    combinations_of pair
    ≡ (negsuc 2 ∷ pos 0 ∷ []) ∷ (negsuc 2 ∷ pos 1 ∷ []) ∷ (negsuc 0 ∷ pos 0 ∷ []) ∷ (negsuc 0 ∷ pos 1 ∷ []) ∷ (pos 1 ∷ pos 0 ∷ []) ∷ (pos 1 ∷ pos 1 ∷ []) ∷ []

-- "a high that no step meets is left out, though decoding can give it": 2 is in no combination, and the entry 2 is decoded to it
abbrev pub HighLeftOut : Type 0
HighLeftOut = (list_any (list_any (int_eq (pos 2))) (combinations_of pair) ≡ false) × (from_int (dec 2 0) by_two ≡ pos 2)

-- memory that is lent: 7 in each place
unfoldable pub sevens : ℕ → List ℤ
sevens places = replicate places (pos 7)

-- "The list goes into lent memory, its count is reported, and nothing past it is touched": 6 combinations, 12 numbers in 14 places
abbrev pub InMemory : Type 0
InMemory =
    (sweep_of pair 14 ≡ Ok 6)
    × (swept_in pair (sevens 14)
    ≡ negsuc 2 ∷ pos 0 ∷ negsuc 2 ∷ pos 1 ∷ negsuc 0 ∷ pos 0 ∷ negsuc 0 ∷ pos 1 ∷ pos 1 ∷ pos 0 ∷ pos 1 ∷ pos 1 ∷ pos 7 ∷ pos 7 ∷ [])

-- the number of the refusal, if there is one
abbrev pub refusal_in : Result ℕ SweepRefusal → Option ℕ
refusal_in (Ok count) = None
refusal_in (Err why) = Some (sweep_refusal_number why)

-- "17, more combinations .. than the lent memory holds": 12 places hold them, 11 do not, and stay as they were
abbrev pub Unheld : Type 0
Unheld = (map (λ places. refusal_in (sweep_of pair places)) (12 ∷ 11 ∷ 0 ∷ []) ≡ None ∷ Some 17 ∷ Some 17 ∷ []) × (swept_in pair (sevens 11) ≡ sevens 11)

-- the whole numbers 1 to n
unfoldable pub up_to : ℕ → Distribution
up_to n = D.Int (record { low = pos 1; high = pos n; log_scale = false; step = None })

-- "17, more combinations than 65,536 ..": as many are 16 dimensions of 2 choices, and one dimension of 65,536 numbers; with one number more it is refused
abbrev pub AtMost : Type 0
AtMost =
    map (λ ds. refusal_in (sweep_of ds 1048576)) (replicate 16 (choice 2) ∷ (up_to 65536 ∷ []) ∷ (up_to 65537 ∷ []) ∷ [])
    ≡ None ∷ None ∷ Some 17 ∷ []

-- Float 0..1, and Ints that 4, 5 and 6 refuse: low above high, log scale with a step, the step 0
unfoldable pub unit : Distribution
unfolding dec
unit = D.Float (record { low = dec 0 0; high = dec 1 0; log_scale = false; step = None })

unfoldable pub reversed : Distribution
reversed = D.Int (record { low = pos 2; high = pos 1; log_scale = false; step = None })

unfoldable pub log_with_step : Distribution
log_with_step = D.Int (record { low = pos 1; high = pos 64; log_scale = true; step = Some (pos 1) })

unfoldable pub still : Distribution
still = D.Int (record { low = pos 1; high = pos 2; log_scale = false; step = Some (pos 0) })

-- what is refused where no memory is lent: of 17 dimensions and of a ladder 17 applies too
abbrev pub refused : List Distribution → Option ℕ
refused ds = refusal_in (sweep_of ds 0)

-- "16, no dimension, more than 16, or a Float or ladder dimension, comes before 17"; of 16 dimensions it is 17
abbrev pub Unsweepables : Type 0
Unsweepables =
    map refused ([] ∷ replicate 17 (choice 1) ∷ (choice 2 ∷ unit ∷ []) ∷ (choice 2 ∷ D.Int (ladder 1 64) ∷ []) ∷ replicate 16 (choice 1) ∷ [])
    ≡ Some 16 ∷ Some 16 ∷ Some 16 ∷ Some 16 ∷ Some 17 ∷ []

-- "Checks, after 4 to 7 on each dimension in turn": past a Float, and past the 16th dimension; and of two the first
abbrev pub DimensionsFirst : Type 0
DimensionsFirst =
    map refused ((unit ∷ reversed ∷ []) ∷ (unit ∷ log_with_step ∷ []) ∷ (still ∷ reversed ∷ []) ∷ (replicate 17 (choice 1) ++ choice 0 ∷ []) ∷ [])
    ≡ Some 4 ∷ Some 5 ∷ Some 6 ∷ Some 7 ∷ []
