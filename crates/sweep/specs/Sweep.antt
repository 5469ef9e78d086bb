-- Full sweep of a small space (document 02, W10): which combinations there are and in which order, what is refused, and what is then in lent memory.
use Rattle.std.specs.Prelude.{ℕ, ◌+◌, ◌*◌, Bool, true, false, not, ◌||◌, cond, eqb, ltb, List, [], ◌∷◌, ◌++◌, map, flat_map, length, drop, ℤ, pos, nat_abs, ◌+ℤ◌, ◌-ℤ◌, ◌*ℤ◌, int_div, Option, unwrap_or, Result, Ok, Err, ⊤}
use Rattle.std.specs.List.{range_with_len, list_all}
use Rattle.std.specs.Result.{result_and}
use Rattle.distribution.specs.declared.DimensionInfo.{DimensionInfo}
use Rattle.distribution.specs.declared.Distribution.{Distribution}
use Rattle.distribution.specs.declared.Distribution.TheVariants.{Float as FloatD, Int as IntD, Categorical}
use Rattle.distribution.specs.declared.IntDistribution.{IntDistribution}
use Rattle.distribution.specs.declared.Refusal.{Refusal}
use Rattle.distribution.specs.Refusals.{refusal_number}
use Rattle.distribution.specs.Validate.{verdict_of}
use Rattle.sweep.specs.declared.SweepRefusal.{SweepRefusal}
use Rattle.sweep.specs.declared.SweepRefusal.TheVariants.{Dimension, Unsweepable, TooMany}

-- ---- one dimension

-- "by the step, or by 1 without one"
abbrev pub step_of : Option ℤ → ℤ
step_of step = unwrap_or step (pos 1)

-- value k: "Int values from low by the step"
abbrev pub int_value : IntDistribution → ℕ → ℤ
int_value d k = d.low +ℤ pos k *ℤ step_of d.step

-- "and never pass high": low, and one more for each whole step from low to high
abbrev pub int_count : IntDistribution → ℕ
int_count d = nat_abs (int_div (d.high -ℤ d.low) (step_of d.step)) + 1

-- "Choices rise from 0 and Int values from low"; a Float has no values to list
unfoldable pub values_of : Distribution → List ℤ
values_of (FloatD d) = []
values_of (IntD d) = map (int_value d) (range_with_len 0 (int_count d))
values_of (Categorical d) = map pos (range_with_len 0 d.n_choices)

-- "dimensions that are Categorical, or Int without log"
abbrev pub is_sweepable : Distribution → Bool
is_sweepable (FloatD d) = false
is_sweepable (IntD d) = not d.log_scale
is_sweepable (Categorical d) = true

-- ---- all dimensions

-- one value of each list, "each combination once, the last dimension changing fastest"
unfoldable pub combinations : List (List ℤ) → List (List ℤ)
combinations [] = [] ∷ []
combinations (vs ∷ vss) = flat_map (λ v. map (λ c. v ∷ c) (combinations vss)) vs

-- "every combination of these values and choices and no other"
abbrev pub combinations_of : List Distribution → List (List ℤ)
combinations_of ds = combinations (map values_of ds)

abbrev pub distribution_inside : DimensionInfo → Distribution
distribution_inside d = d.distribution

-- ---- the checks

-- the number of each refusal in documents 01 and 02
abbrev pub sweep_refusal_number : SweepRefusal → ℕ
sweep_refusal_number (Dimension why) = refusal_number why
sweep_refusal_number Unsweepable = 16
sweep_refusal_number TooMany = 17

-- "4 to 7 on each dimension in turn"
unfoldable pub first_verdict : List Distribution → Result ⊤ Refusal
first_verdict [] = Ok tt
first_verdict (d ∷ ds) = result_and (verdict_of d) (first_verdict ds)

-- "16, no dimension, more than 16, or a Float or ladder dimension": where 4 to 7 pass an Int with the log flag, it is a ladder
unfoldable pub is_unsweepable : List Distribution → Bool
is_unsweepable ds = eqb (length ds) 0 || ltb 16 (length ds) || not (list_all is_sweepable ds)

-- "17, more combinations than 65,536 or than the lent memory holds", which has this many places, one for a number
unfoldable pub is_too_many : List Distribution → ℕ → Bool
is_too_many ds places = ltb 65536 (length (combinations_of ds)) || ltb places (length (combinations_of ds) * length ds)

-- "16 .. comes before 17"; "its count is reported"
unfoldable pub counted : List Distribution → ℕ → Result ℕ SweepRefusal
counted ds places =
    cond (is_unsweepable ds) (Err Unsweepable)
    (cond (is_too_many ds places) (Err TooMany)
    (Ok (length (combinations_of ds))))

-- "Checks, after 4 to 7"
abbrev pub after_verdict : Result ⊤ Refusal → Result ℕ SweepRefusal → Result ℕ SweepRefusal
after_verdict (Ok tt) next = next
after_verdict (Err why) next = Err (Dimension why)

unfoldable pub sweep_of : List Distribution → ℕ → Result ℕ SweepRefusal
sweep_of ds places = after_verdict (first_verdict ds) (counted ds places)

-- ---- lent memory

-- "A combination is one signed 64-bit number a dimension": those of the first combination, then those of the next
unfoldable pub numbers_of : List Distribution → List ℤ
numbers_of ds = flat_map (λ c. c) (combinations_of ds)

-- "The list goes into lent memory .. and nothing past it is touched"; where the answer is a refusal nothing is touched
abbrev pub left_after : Result ℕ SweepRefusal → List ℤ → List ℤ → List ℤ
left_after (Ok n) numbers lent = numbers ++ drop (length numbers) lent
left_after (Err why) numbers lent = lent

unfoldable pub swept_in : List Distribution → List ℤ → List ℤ
swept_in ds lent = left_after (sweep_of ds (length lent)) (numbers_of ds) lent
