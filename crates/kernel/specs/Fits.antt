-- When a candidate is sound: "choices are below their dimension's number; entries are finite, .. unused places are as in a fresh state". And "a state with an
-- entry over 4e300 in size is no longer sound" (02, W8).
use Rattle.std.specs.Prelude.{ℕ, zero, suc, ◌*◌, ◌^◌, Bool, true, false, ◌&&◌, cond, List, [], ◌∷◌, eqb, ltb, pos, negsuc, Float}
use Rattle.std.specs.Float.{nan, inf, fin, binary64}
use Rattle.std.specs.Float.Ieee.{round, neg, le}
use Rattle.ledger.specs.Words.{all}
use Rattle.distribution.specs.Dims.{is_continuous, choices_of}
use Rattle.distribution.specs.declared.DimensionInfo.{DimensionInfo}
use Rattle.candidates.specs.Space.{continuous_count}
use Rattle.candidates.specs.declared.Candidate.{Candidate}

-- an unused entry: plus zero, and no other double
abbrev pub is_zero : Float → Bool
is_zero nan = false
is_zero (inf s) = false
is_zero (fin true m e) = false
is_zero (fin false (suc m) e) = false
is_zero (fin false zero (negsuc e)) = false
is_zero (fin false zero (pos (suc e))) = false
is_zero (fin false zero (pos zero)) = true

-- 4e300: the double nearest to 4 × 10 ^ 300
unfoldable pub entry_limit : Float
unfolding round
entry_limit = round binary64 false (4 * 10 ^ 300) 1

-- an entry is finite, and not over 4e300 in size: NaN and the infinities do not lie between the two limits
unfoldable pub entry_fits : Float → Bool
unfolding entry_limit le neg
entry_fits x = le (neg entry_limit) x && le x entry_limit

-- n entries that fit, and unused ones after them
unfoldable pub entries_fit : ℕ → List Float → Bool
entries_fit zero xs = all is_zero xs
entries_fit (suc n) [] = false
entries_fit (suc n) (x ∷ xs) = entry_fits x && entries_fit n xs

-- what a dimension's choice stays below: its number of choices; a continuous dimension has none, and 0 stands there
abbrev pub choice_limit : DimensionInfo → ℕ
choice_limit d = cond (is_continuous d) 1 (choices_of d)

-- a choice for each dimension, and unused ones after them
unfoldable pub choices_fit : List DimensionInfo → List ℕ → Bool
choices_fit [] cs = all (eqb 0) cs
choices_fit (d ∷ ds) [] = false
choices_fit (d ∷ ds) (c ∷ cs) = ltb c (choice_limit d) && choices_fit ds cs

unfoldable pub fits : List DimensionInfo → Candidate → Bool
fits ds y = entries_fit (continuous_count ds) y.x && choices_fit ds y.choices
