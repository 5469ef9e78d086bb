-- The metrics export as a whole (document 02, W3): what is read of a text, what is answered, and what is then in the lent history.
use Rattle.std.specs.Prelude.{ℕ, suc, cond, List, [], ◌∷◌, ◌++◌, map, eqb, leb, Float, length, drop, Option, Some, None, Result, Ok, Err}
use Prim.Native.Char.{code}
use Rattle.history.specs.declared.CompletedTrial.{CompletedTrial}
use Rattle.metrics.specs.Pieces.{cut_at}
use Rattle.metrics.specs.Line.{line_of}
use Rattle.metrics.specs.declared.ExportRefusal.{ExportRefusal}
use Rattle.metrics.specs.declared.ExportRefusal.TheVariants.{MalformedLine, ShortHistory}

-- the entries of every line, or the number of the first malformed line
pub data Export : Type 0 where
  well : List CompletedTrial → Export
  malformed : ℕ → Export

-- line k in front of what the lines behind it are
abbrev pub after : ℕ → Option CompletedTrial → Export → Export
after k None e = malformed k
after k (Some t) (well ts) = well (t ∷ ts)
after k (Some t) (malformed n) = malformed n

-- Lines numbered from k, cut at their line feeds. What stands behind the last line feed must be empty: "The last line needs its line feed too".
unfoldable pub lines_from : ℕ → List (List ℕ) → Export
lines_from k [] = well []
lines_from k (last ∷ []) = cond (eqb (length last) 0) (well []) (malformed k)
lines_from k (line ∷ next ∷ more) = after k (line_of line) (lines_from (suc k) (next ∷ more))

-- "carries its number from 1"; "an empty file gives no entries"
unfoldable pub export_of : List ℕ → Export
export_of text = lines_from 1 (cut_at (code "\n") text)

-- the refusals' numbers
abbrev pub export_refusal_number : ExportRefusal → ℕ
export_refusal_number (MalformedLine k) = 14
export_refusal_number ShortHistory = 15

-- "14, the first malformed line"; "15, the lent history is too short, is judged after every line has been read well"; else "return their count"
unfoldable pub answer_of : ℕ → Export → Result ℕ ExportRefusal
answer_of places (malformed k) = Err (MalformedLine k)
answer_of places (well ts) = cond (leb (length ts) places) (Ok (length ts)) (Err ShortHistory)

-- Lent memory afterwards, where an entry t is kept there as `give t`: the entries in the file's order from the first place on, "Entries past those
-- read are untouched", and all of it untouched where the answer is a refusal.
unfoldable pub left_in : {A : Type 0} → (CompletedTrial → A) → ℕ → Export → List A → List A
left_in give places (well ts) lent = cond (leb (length ts) places) (map give ts ++ drop (length ts) lent) lent
left_in give places (malformed k) lent = lent

-- an entry kept whole, as its number, as its value
abbrev pub entry_of : CompletedTrial → CompletedTrial
entry_of t = t

abbrev pub number_of : CompletedTrial → ℕ
number_of t = t.number

abbrev pub value_of : CompletedTrial → Float
value_of t = t.value
