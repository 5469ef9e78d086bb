-- The starred bench figures of the generator, rounding, mapping and history (document 01, "Bench figures").
use Rattle.std.specs.Prelude.{ℕ, ◌-◌, ◌+◌, ◌^◌, ◌≡◌, true, false, List, [], ◌∷◌, map, pos, negsuc, Float, Some, None}
use Rattle.std.specs.Float.{fin, binary64}
use Rattle.std.specs.Float.Ieee.{round}
use Rattle.rng_util.specs.Draws.{unit_of, usize_of, range_of}
use Rattle.rounding.specs.Round.{round_away}
use Rattle.distribution.specs.declared.Distribution.{Distribution}
use Rattle.distribution.specs.declared.Distribution.TheVariants as D
use Rattle.distribution.specs.declared.ParamValue.TheVariants as P
use Rattle.common.specs.FromInternal.{from_internal}
use Rattle.history.specs.History.{last_value}
use Rattle.history.specs.declared.CompletedTrial.{CompletedTrial}
use Rattle.history.specs.declared.TrialState.TheVariants.{Complete}
use Rattle.ledger.specs.Closing.{scan}
use Rattle.kernel.specs.De.{de}

-- a decimal literal, n / 10 ^ k or its negative: the double that is nearest to it
unfoldable pub dec : ℕ → ℕ → Float
unfolding round
dec n k = round binary64 false n (10 ^ k)

unfoldable pub minus : ℕ → ℕ → Float
unfolding round
minus n k = round binary64 true n (10 ^ k)

-- "unit: output 0 gives 0; output 2^64 - 1 gives 1 - 2^-53"
abbrev pub Units : Type 0
Units = map unit_of (0 ∷ (2 ^ 64 - 1) ∷ []) ≡ fin false 0 (pos 0) ∷ fin false (2 ^ 53 - 1) (negsuc 52) ∷ []

-- "`usize(0..5)` of output 13 is 3"
abbrev pub Usize : Type 0
Usize = usize_of 13 5 ≡ 3

-- "round: -2.5 to -3; 2.5 to 3; 0.49999999999999994 to 0"
abbrev pub Rounds : Type 0
Rounds = map round_away (minus 25 1 ∷ dec 25 1 ∷ dec 49999999999999994 17 ∷ []) ≡ minus 3 0 ∷ dec 3 0 ∷ dec 0 0 ∷ []

-- 1 + 2^-52, the next double after 1
abbrev pub after_one : Float
after_one = fin false (2 ^ 52 + 1) (negsuc 51)

-- "Range 1..1 + 2^-52, unit 0.75: 1 + 2^-52"
abbrev pub Range : Type 0
Range = range_of (fin false 1 (pos 0)) after_one (fin false 3 (negsuc 1)) ≡ after_one

-- Float 0..1 step 0.25, and Int 1..11 step 4
unfoldable pub quarters : Distribution
unfolding dec
quarters = D.Float (record { low = dec 0 0; high = dec 1 0; log_scale = false; step = Some (dec 25 2) })

unfoldable pub fours : Distribution
fours = D.Int (record { low = pos 1; high = pos 11; log_scale = false; step = Some (pos 4) })

-- "Float 0..1 step 0.25: 0.625 gives 0.75. Int 1..11 step 4: 11 gives 11, 8 gives 9."
abbrev pub Steps : Type 0
Steps =
    (from_internal (dec 625 3) quarters ≡ P.Float (dec 75 2))
    × (map (λ v. from_internal v fours) (dec 11 0 ∷ dec 8 0 ∷ []) ≡ P.Int (pos 11) ∷ P.Int (pos 9) ∷ [])

-- "History (7, 5), (7, 2): 7 has 2"
unfoldable pub twice : List CompletedTrial
unfolding dec
twice = record { number = 7; value = dec 5 0; state = Complete } ∷ record { number = 7; value = dec 2 0; state = Complete } ∷ []

-- as the code's history says it, and as demand 2's definition reads it
abbrev pub History : Type 0
History = (last_value 7 twice ≡ Some (dec 2 0)) × (scan de twice 7 None ≡ Some (dec 2 0))
