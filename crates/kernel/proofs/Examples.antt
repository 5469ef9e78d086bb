-- What the ledger's laws do not see of the kernel, on small inputs: which entry or choice a setting is decoded from, what does not fit, which dimensions N counts, the draws.
-- All by computation. Nothing cites them: each is false after a wrong edit that no law would see.
use Rattle.std.specs.Prelude.{Option, Some, None, ℤ}
use mathlib.Core.Path.{◌≡◌, refl}
use mathlib.Core.Bool.{true, false}
use mathlib.Core.List.{List, [], ◌∷◌, map}
use Prim.Native.Nat.{ℕ, ◌+◌, ◌*◌, ◌^◌}
use lib.IntN.{pos}
use lib.Ieee.{Float, nan, inf, neg, of_int, lt, of_bits, of_fields, odd}
use Rattle.rng_util.specs.SplitMix.{drawn}
use Rattle.rng_util.specs.Draws.{unit_of}
use Rattle.rng_util.specs.Gen.{draw_of}
use Rattle.rng_util.specs.Many.{many}
use Rattle.distribution.specs.declared.DimensionInfo.{DimensionInfo}
use Rattle.distribution.specs.declared.Distribution.TheVariants.{Float as FloatD, Int as IntD, Categorical as CategoricalD}
use Rattle.distribution.specs.declared.ParamValue.TheVariants.{Float as FloatV, Int as IntV, Categorical}
use Rattle.distribution.proofs.Examples.{dec, next}
use Rattle.rounding.specs.Clamp.{clamp_of}
use Rattle.common.specs.FromInternal.{from_internal}
use Rattle.common.specs.Random.{random_setting}
use Rattle.candidates.specs.Space.{continuous_dims, space_of}
use Rattle.candidates.specs.Candidate.{packed}
use Rattle.candidates.specs.Random.{random_choice, random_choices}
use Rattle.candidates.specs.declared.Candidate.{Candidate}
use Rattle.evolution.specs.Select.{is_free, select_from, indices_of}
use Rattle.evolution.specs.Mutant.{mutant_entry}
use Rattle.evolution.specs.Cross.{halfway, drawn_in, cross_entry, crossed}
use Rattle.evolution.specs.Trial.{trial_of, trial_vectors, next_candidates}
use Rattle.evolution.specs.declared.BoundsRule.{BoundsRule}
use Rattle.evolution.specs.declared.BoundsRule.TheVariants.{Clamp, Midpoint}
use Rattle.evolution.specs.declared.DEStrategy.{DEStrategy}
use Rattle.evolution.specs.declared.DEStrategy.TheVariants.{Rand1, Best1, CurrentToBest1}
use Rattle.evolution.specs.declared.Setup.{Setup}
use Rattle.ledger.specs.Words.{all}
use Rattle.ledger.specs.Kernel as L
use Rattle.kernel.specs.Fits.{fits, entry_fits, entries_fit, choices_fit}
use Rattle.kernel.specs.De.{population_size_of, random_of, decode_of, nexts_of}

-- ---- dimensions of every kind: a choice, Float 0..1 by 0.25, a choice, Int 1..11 by 4

abbrev one_of : ℕ → DimensionInfo
one_of n = record { distribution = CategoricalD (record { n_choices = n }) }

abbrev floats : Float → Float → Option Float → DimensionInfo
floats low high step = record { distribution = FloatD (record { low = low; high = high; log_scale = false; step = step }) }

abbrev ints : ℕ → ℕ → Option ℤ → DimensionInfo
ints low high step = record { distribution = IntD (record { low = pos low; high = pos high; log_scale = false; step = step }) }

abbrev mixed : List DimensionInfo
mixed = one_of 3 ∷ floats (dec 0 0) (dec 1 0) (Some (dec 25 2)) ∷ one_of 5 ∷ ints 1 11 (Some (pos 4)) ∷ []

abbrev vector : Candidate
vector = packed (dec 625 3 ∷ dec 8 0 ∷ []) (2 ∷ 0 ∷ 4 ∷ 0 ∷ [])

-- "a vector has entries for the second only": the Float dimension, of place 1, has entry 0, and the Int one, of place 3, entry 1
pub decoded : map (λ (k : ℕ). decode_of mixed k vector) (0 ∷ 1 ∷ 2 ∷ 3 ∷ []) ≡ Categorical 2 ∷ FloatV (dec 75 2) ∷ Categorical 4 ∷ IntV (pos 9) ∷ []
unfolding decode_of continuous_dims from_internal dec
decoded = refl

-- without steps: an entry as it is, a choice, an entry over its bound, and 2.5 to the nearest whole number, away from zero
abbrev plain : List DimensionInfo
plain = floats (dec 0 0) (dec 1 0) None ∷ one_of 2 ∷ floats (dec 0 0) (dec 1 0) None ∷ ints 1 9 None ∷ []

pub decoded-plain :
    map (λ (k : ℕ). decode_of plain k (packed (dec 3 1 ∷ dec 7 0 ∷ dec 25 1 ∷ []) (0 ∷ 1 ∷ 0 ∷ 0 ∷ []))) (0 ∷ 1 ∷ 2 ∷ 3 ∷ [])
    ≡ FloatV (dec 3 1) ∷ Categorical 1 ∷ FloatV (dec 1 0) ∷ IntV (pos 3) ∷ []
unfolding decode_of continuous_dims from_internal dec
decoded-plain = refl

-- ---- fitting

-- The vector fits. None of these does: a choice at its limit, a choice for the Float dimension, an entry that is NaN, one that is infinite, a third entry, be
-- it minus zero, a fifth choice, an entry too few.
pub fitting :
    map (fits mixed)
    (vector
    ∷ packed (dec 625 3 ∷ dec 8 0 ∷ []) (3 ∷ 0 ∷ 4 ∷ 0 ∷ [])
    ∷ packed (dec 625 3 ∷ dec 8 0 ∷ []) (2 ∷ 1 ∷ 4 ∷ 0 ∷ [])
    ∷ packed (dec 625 3 ∷ nan ∷ []) (2 ∷ 0 ∷ 4 ∷ 0 ∷ [])
    ∷ packed (inf true ∷ dec 8 0 ∷ []) (2 ∷ 0 ∷ 4 ∷ 0 ∷ [])
    ∷ packed (dec 625 3 ∷ dec 8 0 ∷ dec 8 0 ∷ []) (2 ∷ 0 ∷ 4 ∷ 0 ∷ [])
    ∷ packed (dec 625 3 ∷ dec 8 0 ∷ neg (dec 0 0) ∷ []) (2 ∷ 0 ∷ 4 ∷ 0 ∷ [])
    ∷ packed (dec 625 3 ∷ dec 8 0 ∷ []) (2 ∷ 0 ∷ 4 ∷ 0 ∷ 1 ∷ [])
    ∷ record { x = dec 625 3 ∷ []; choices = 2 ∷ 0 ∷ 4 ∷ 0 ∷ [] }
    ∷ [])
    ≡ true ∷ false ∷ false ∷ false ∷ false ∷ false ∷ false ∷ false ∷ false ∷ []
unfolding fits entry_fits entries_fit choices_fit continuous_dims all of_bits of_fields odd neg dec
fitting = refl

-- k × 10 ^ 300
abbrev big : ℕ → Float
big k = dec (k * 10 ^ 300) 0

-- An entry may be 4e300 or -4e300, and whatever is smaller in size, as 3e300 and minus zero. Not the next double beyond either, nor NaN, nor an infinity.
pub fitting-entry :
    map entry_fits (big 4 ∷ neg (big 4) ∷ big 3 ∷ neg (dec 0 0) ∷ next (big 4) ∷ neg (next (big 4)) ∷ nan ∷ inf false ∷ inf true ∷ [])
    ≡ true ∷ true ∷ true ∷ true ∷ false ∷ false ∷ false ∷ false ∷ false ∷ []
unfolding entry_fits next neg dec
fitting-entry = refl

-- ---- N counts continuous dimensions, two of the four: 10 × 2, and the user's raised to 4

abbrev by_rule : BoundsRule → Option ℕ → DEStrategy → Float → Setup
by_rule rule size strategy F = record { mutation_factor = F; crossover_rate = dec 5 1; strategy = strategy; population_size = size; seed = 0; bounds_rule = rule }

abbrev setup : Option ℕ → DEStrategy → Float → Setup
setup = by_rule Clamp

pub sizes : map (λ (size : Option ℕ). population_size_of (setup size Rand1 (dec 5 1)) mixed) (None ∷ Some 3 ∷ Some 5 ∷ []) ≡ 20 ∷ 4 ∷ 5 ∷ []
unfolding continuous_dims
sizes = refl

-- ---- the generator goes on by one draw for a random setting

pub one-draw : (d : DimensionInfo) (g : L.Gen ℕ) → (random_of d g).gen ≡ record { word = (drawn g.word).word; draws = g.draws + 1 }
unfolding random_setting draw_of
one-draw d g = refl

-- ---- a later generation

abbrev parent : Float → Float → L.Parent Candidate
parent a b = record { candidate = packed (a ∷ b ∷ []) (0 ∷ 0 ∷ 0 ∷ 0 ∷ []); value = dec 0 0 }

abbrev parents : List (L.Parent Candidate)
parents = parent (dec 0 0) (dec 2 0) ∷ parent (dec 25 2) (dec 4 0) ∷ parent (dec 5 1) (dec 8 0) ∷ parent (dec 1 0) (dec 10 0) ∷ []

abbrev start : L.Gen ℕ
start = record { word = 7; draws = 0 }

abbrev later : List Candidate → ℕ → ℕ → L.Made ℕ (List Candidate)
later out word draws = record { out = out; gen = record { word = word; draws = draws } }

-- steps 3 and 4 whole, by each strategy from the same word, with best slot 2 and F = CR = 0.5: entries, choices, the word after them and the count of draws
pub generations :
    map (λ (strategy : DEStrategy). nexts_of (setup None strategy (dec 5 1)) mixed parents 2 start) (Rand1 ∷ Best1 ∷ CurrentToBest1 ∷ [])
    ≡ later
    (packed (dec 1 0 ∷ dec 11 0 ∷ []) (2 ∷ 0 ∷ 0 ∷ 0 ∷ [])
    ∷ packed (dec 75 2 ∷ dec 4 0 ∷ []) (0 ∷ 0 ∷ 2 ∷ 0 ∷ [])
    ∷ packed (dec 1 0 ∷ dec 11 0 ∷ []) (2 ∷ 0 ∷ 0 ∷ 0 ∷ [])
    ∷ packed (dec 1 0 ∷ dec 1 0 ∷ []) (2 ∷ 0 ∷ 2 ∷ 0 ∷ [])
    ∷ []) 2934021998537672338 31
    ∷ later
    (packed (dec 75 2 ∷ dec 9 0 ∷ []) (0 ∷ 0 ∷ 3 ∷ 0 ∷ [])
    ∷ packed (dec 25 2 ∷ dec 4 0 ∷ []) (1 ∷ 0 ∷ 0 ∷ 0 ∷ [])
    ∷ packed (dec 5 1 ∷ dec 4 0 ∷ []) (1 ∷ 0 ∷ 3 ∷ 0 ∷ [])
    ∷ packed (dec 625 3 ∷ dec 9 0 ∷ []) (0 ∷ 0 ∷ 0 ∷ 0 ∷ [])
    ∷ []) 17026080507310378600 29
    ∷ later
    (packed (dec 5 1 ∷ dec 6 0 ∷ []) (0 ∷ 0 ∷ 3 ∷ 0 ∷ [])
    ∷ packed (dec 125 3 ∷ dec 4 0 ∷ []) (1 ∷ 0 ∷ 0 ∷ 0 ∷ [])
    ∷ packed (dec 5 1 ∷ dec 4 0 ∷ []) (1 ∷ 0 ∷ 3 ∷ 0 ∷ [])
    ∷ packed (dec 875 3 ∷ dec 10 0 ∷ []) (0 ∷ 0 ∷ 0 ∷ 0 ∷ [])
    ∷ []) 17026080507310378600 29
    ∷ []
unfolding nexts_of next_candidates trial_vectors trial_of crossed cross_entry drawn_in mutant_entry indices_of select_from is_free random_choices random_choice many space_of continuous_dims draw_of drawn unit_of clamp_of lt of_int of_bits of_fields odd dec
generations = refl

-- Rand1 under midpoint (document 02, W7): four entries beyond a bound are half the sum of the parent's and that bound, one that is exactly 11 stays, and the draws are the same
pub midpoints :
    nexts_of (by_rule Midpoint None Rand1 (dec 5 1)) mixed parents 2 start
    ≡ later
    (packed (dec 5 1 ∷ dec 65 1 ∷ []) (2 ∷ 0 ∷ 0 ∷ 0 ∷ [])
    ∷ packed (dec 75 2 ∷ dec 4 0 ∷ []) (0 ∷ 0 ∷ 2 ∷ 0 ∷ [])
    ∷ packed (dec 75 2 ∷ dec 11 0 ∷ []) (2 ∷ 0 ∷ 0 ∷ 0 ∷ [])
    ∷ packed (dec 1 0 ∷ dec 55 1 ∷ []) (2 ∷ 0 ∷ 2 ∷ 0 ∷ [])
    ∷ []) 2934021998537672338 31
unfolding nexts_of next_candidates trial_vectors trial_of crossed cross_entry drawn_in halfway mutant_entry indices_of select_from is_free random_choices random_choice many space_of continuous_dims draw_of drawn unit_of clamp_of lt of_int of_bits of_fields odd dec
midpoints = refl
