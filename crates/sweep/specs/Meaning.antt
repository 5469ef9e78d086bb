-- Document 02's words of a sweep, for what proofs/Meaning shows: which combinations are listed, in which order and where, and what is refused.
use Rattle.std.specs.Prelude.{◌≡◌, ◌⊎◌, ℕ, ◌*◌, ◌<◌, true, List, [], ◌∷◌, length, take, drop, HoldsAt, ℤ, pos, ◌≤ℤ◌, ◌<ℤ◌, Err, ⊤}
use Rattle.distribution.specs.declared.Distribution.{Distribution}
use Rattle.distribution.specs.declared.Distribution.TheVariants.{Float as FloatD, Int as IntD, Categorical}
use Rattle.distribution.specs.declared.Refusal.{Refusal}
use Rattle.distribution.specs.Validate.{verdict_of}
use Rattle.sweep.specs.Gathered.{AllValid}
use Rattle.sweep.specs.Sweep.{int_value, combinations_of}

-- One of "these values and choices": "Choices rise from 0 and Int values from low by the step, or by 1 without one, and never pass high". So "a high
-- that no step meets is left out".
abbrev pub IsValue : Distribution → ℤ → Type 0
IsValue (FloatD d) v = ⊥
IsValue (IntD d) v = ((k : ℕ) × (v ≡ int_value d k)) × (v ≤ℤ d.high)
IsValue (Categorical d) v = (k : ℕ) × (k < d.n_choices) × (v ≡ pos k)

-- a combination: one value or choice of each dimension, in their order
unfoldable pub IsCombination : List Distribution → List ℤ → Type 0
IsCombination [] [] = ⊤
IsCombination [] (v ∷ c) = ⊥
IsCombination (d ∷ ds) [] = ⊥
IsCombination (d ∷ ds) (v ∷ c) = IsValue d v × IsCombination ds c

-- "the last dimension changing fastest": at the first dimension in which the two differ the first of them has the smaller number
unfoldable pub Before : List ℤ → List ℤ → Type 0
Before [] e = ⊥
Before (v ∷ c) [] = ⊥
Before (v ∷ c) (w ∷ e) = (v <ℤ w) ⊎ ((v ≡ w) × Before c e)

-- ---- the checks

-- "4 to 7 on each dimension in turn": the first that has one, number k, and the refusal is its
abbrev pub IsFirst : List Distribution → Refusal → Type 0
IsFirst ds why = (k : ℕ) × (k < length ds) × AllValid (take k ds) × HoldsAt (λ d. verdict_of d ≡ Err why) ds k

-- "a Float or ladder dimension": an Int with the log flag that 4 to 7 pass is a ladder
abbrev pub IsFloatOrLadder : Distribution → Type 0
IsFloatOrLadder (FloatD d) = ⊤
IsFloatOrLadder (IntD d) = d.log_scale ≡ true
IsFloatOrLadder (Categorical d) = ⊥

-- "16, no dimension, more than 16, or a Float or ladder dimension"
abbrev pub Applies16 : List Distribution → Type 0
Applies16 ds = (length ds ≡ 0) ⊎ (16 < length ds) ⊎ ((k : ℕ) × (k < length ds) × HoldsAt IsFloatOrLadder ds k)

-- "17, more combinations than 65,536 or than the lent memory holds": a combination takes one place a dimension
abbrev pub Applies17 : List Distribution → ℕ → Type 0
Applies17 ds places = (65536 < length (combinations_of ds)) ⊎ (places < length (combinations_of ds) * length ds)

-- ---- lent memory

-- combination i in memory, where each has this many numbers: side by side, those of the first combination, then those of the next
abbrev pub standing : ℕ → List ℤ → ℕ → List ℤ
standing size memory i = take size (drop (i * size) memory)
