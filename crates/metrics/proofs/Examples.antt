-- Worked examples of document 02's W3, each by computing.
use Prim.Native.Nat.{ℕ, ◌-◌, ◌^◌}
use Prim.Native.Char.{code}
use Prim.Native.String.{String, [] as []ˢ, ◌∷◌ as ◌∷ˢ◌}
use mathlib.Core.Path.{◌≡◌, refl}
use mathlib.Core.Bool.{true, false}
use mathlib.Core.List.{List, [], ◌∷◌, map}
use lib.IntN.{pos, negsuc}
use lib.ListN.{replicate}
use lib.Ieee.{Float, fin, binary64, round}
use Rattle.history.specs.declared.CompletedTrial.{CompletedTrial}
use Rattle.history.specs.declared.TrialState.TheVariants.{Complete}
use Rattle.std.specs.Prelude.{Option, Some, None, Ok, Err}
use Rattle.numbers.specs.Numbers.{digit_of, all_digits, spelt_after}
use Rattle.metrics.specs.Pieces.{cut_at, split_at}
use Rattle.metrics.specs.Value.{decimal_of, unsigned_of, value_word}
use Rattle.metrics.specs.Line.{trial_number, line_of}
use Rattle.metrics.specs.Export.{Export, well, malformed, lines_from, export_of, answer_of, left_in, entry_of}
use Rattle.metrics.specs.declared.ExportRefusal.TheVariants.{MalformedLine, ShortHistory}

abbrev bytes : String → List ℕ
bytes []ˢ = []
bytes (c ∷ˢ text) = code c ∷ bytes text

abbrev value : String → Option Float
value text = value_word (bytes text)

abbrev trial : ℕ → Float → CompletedTrial
trial n x = record { number = n; value = x; state = Complete }

abbrev one : Float
one = fin false 1 (pos 0)

abbrev minus_zero : Float
minus_zero = fin true 0 (pos 0)

-- 1.5 is 3 / 2; leading zeros; fifteen digits; zero keeps its minus
accepted :
    (value "1.5" ≡ Some (fin false 3 (negsuc 0)))
    × (value "007" ≡ Some (fin false 7 (pos 0)))
    × (value "999999999999999" ≡ Some (fin false 999999999999999 (pos 0)))
    × (value "0" ≡ Some (fin false 0 (pos 0)))
    × (value "-0" ≡ Some minus_zero)
    × (value "-0.0" ≡ Some minus_zero)
unfolding value_word unsigned_of split_at decimal_of all_digits spelt_after digit_of round
accepted = (refl, refl, refl, refl, refl, refl)

-- 1 / 10^14 has fifteen digits, 1 / 10^15 sixteen
smallest : (value "0.00000000000001" ≡ Some (round binary64 false 1 (10 ^ 14))) × (value "0.000000000000001" ≡ None)
unfolding value_word unsigned_of split_at decimal_of all_digits spelt_after digit_of round
smallest = (refl, refl)

refused : map value ("" ∷ "-" ∷ ".5" ∷ "5." ∷ "1.2.3" ∷ "+1" ∷ "1e5" ∷ " 1" ∷ "--1" ∷ "1234567890123456" ∷ []) ≡ replicate 10 None
unfolding value_word unsigned_of split_at decimal_of all_digits spelt_after digit_of
refused = refl

abbrev export : String → Export
export text = export_of (bytes text)

-- no entries; two in the file's order; the largest number
read :
    (export "" ≡ well [])
    × (export "7,1.5\n3,2\n" ≡ well (trial 7 (fin false 3 (negsuc 0)) ∷ trial 3 (fin false 1 (pos 1)) ∷ []))
    × (export "18446744073709551615,1\n" ≡ well (trial (2 ^ 64 - 1) one ∷ []))
unfolding export_of lines_from cut_at line_of trial_number value_word unsigned_of split_at decimal_of all_digits spelt_after digit_of round
read = (refl, refl, refl)

-- no line feed behind the last line; a carriage return; an empty line; 2^64; a second comma
not-read :
    (export "7,1.5\n3,2" ≡ malformed 2)
    × (export "7,1.5\r\n" ≡ malformed 1)
    × (export "7,1.5\n\n" ≡ malformed 2)
    × (export "1,1\n18446744073709551616,1\n" ≡ malformed 2)
    × (export "1,2,3\n" ≡ malformed 1)
unfolding export_of lines_from cut_at line_of trial_number value_word unsigned_of split_at decimal_of all_digits spelt_after digit_of round
not-read = (refl, refl, refl, refl, refl)

-- 14 before 15
answers :
    (answer_of 0 (export "7,1\nx\n") ≡ Err (MalformedLine 2))
    × (answer_of 0 (export "7,1\n") ≡ Err ShortHistory)
    × (answer_of 2 (export "7,1\n") ≡ Ok 1)
unfolding answer_of export_of lines_from cut_at line_of trial_number value_word unsigned_of split_at decimal_of all_digits spelt_after digit_of round
answers = (refl, refl, refl)

-- an entry past those read stays; a refusal leaves all
left_there : (e : CompletedTrial)
    → (left_in entry_of 2 (export "7,1\n") (e ∷ e ∷ []) ≡ trial 7 one ∷ e ∷ [])
    × (left_in entry_of 0 (export "7,1\n") [] ≡ [])
    × (left_in entry_of 1 (export "7,1\nx\n") (e ∷ []) ≡ e ∷ [])
unfolding left_in export_of lines_from cut_at line_of trial_number value_word unsigned_of split_at decimal_of all_digits spelt_after digit_of round
left_there e = (refl, refl, refl)
