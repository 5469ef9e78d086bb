-- The rows that are written, as bytes.
use Rattle.std.specs.Prelude.{ℕ, zero, suc, ◌^◌, cond, List, [], ◌∷◌, ◌++◌, ltb, Float, codes}
use Prim.Native.Char.{code}
use Rattle.std.specs.Float.{binary64}
use Rattle.std.specs.Float.Ieee.{to_bits}
use Rattle.io.specs.Digits.{last_digits}
use Rattle.metrics.specs.declared.ExportRefusal.{ExportRefusal}
use Rattle.metrics.specs.declared.ExportRefusal.TheVariants.{MalformedLine, ShortHistory}
use Rattle.metrics.specs.Export.{export_refusal_number}

-- the least number of digits, from k on, that hold n; k + more where none before it do
unfoldable pub places_from : ℕ → ℕ → ℕ → ℕ
places_from k zero n = k
places_from k (suc more) n = cond (ltb n (10 ^ k)) k (places_from (suc k) more n)

-- "Whole numbers are decimal, one digit or more" (docs/SCRIPTS.md), here the fewest; 20 hold every number of 64 bits
unfoldable pub whole_text : ℕ → List ℕ
whole_text n = last_digits 10 (places_from 1 19 n) n

-- "A double is written as its bit pattern, 16 hexadecimal digits, low case" (docs/SCRIPTS.md). As printed's, which
-- stands on the sampler, where this program stands on nothing of it.
unfoldable pub pattern_text : Float → List ℕ
pattern_text x = last_digits 16 16 (to_bits binary64 x)

-- "every line ends with a line feed" (docs/SCRIPTS.md)
abbrev pub ended : List ℕ → List ℕ
ended row = row ++ code "\n" ∷ []

-- `tell TRIAL VALUE`; "Words are separated by one space" (docs/SCRIPTS.md)
unfoldable pub tell_row : ℕ → Float → List ℕ
tell_row number value = codes "tell " ++ (whole_text number ++ (codes " " ++ pattern_text value))

-- "`tell TRIAL VALUE` appends an entry to the history" (docs/SCRIPTS.md): the line of an entry
unfoldable pub tell_text : ℕ → Float → List ℕ
tell_text number value = ended (tell_row number value)

-- "14, the first malformed line, carries its number from 1" (document 02, W3); 15 carries nothing
abbrev pub carried : ExportRefusal → List ℕ
carried (MalformedLine line) = codes " " ++ whole_text line
carried ShortHistory = []

-- "`refused K`" (docs/SCRIPTS.md), K the number of the check that failed, and what that carries (document 02, W3)
unfoldable pub refused_row : ExportRefusal → List ℕ
refused_row why = codes "refused " ++ (whole_text (export_refusal_number why) ++ carried why)

-- the line of a refusal
unfoldable pub refused_text : ExportRefusal → List ℕ
refused_text why = ended (refused_row why)

-- the lines of entries, numbers and values, "in the file's order" (document 02, W3)
unfoldable pub tell_texts : List ℕ → List Float → List ℕ
tell_texts [] values = []
tell_texts (n ∷ ns) [] = []
tell_texts (n ∷ ns) (x ∷ xs) = tell_text n x ++ tell_texts ns xs
