-- The export a line at a time, as the code goes through it: what its inner functions equal, and the entries that `Entries` gives. Where the text is
-- read well, those are the export's (proofs/Writes).
use Rattle.std.specs.Prelude.{ℕ, ◌+◌, List, [], ◌∷◌, cond, leb, length, Option, Some, None, option_map, Result, Ok, Err}
use Prim.Native.Char.{code}
use Rattle.history.specs.declared.CompletedTrial.{CompletedTrial}
use Rattle.metrics.specs.Pieces.{Halves, whole, halves, split_at, cut_at}
use Rattle.metrics.specs.Line.{line_of}
use Rattle.metrics.specs.Export.{Export, well, malformed}
use Rattle.metrics.specs.declared.ExportRefusal.{ExportRefusal}
use Rattle.metrics.specs.declared.ExportRefusal.TheVariants.{MalformedLine, ShortHistory}

-- the entry of the first line, where a line feed ends it, and what stands behind that
abbrev pub next_in : Halves → Option (CompletedTrial × List ℕ)
next_in (whole s) = None
next_in (halves line rest) = option_map (λ t. (t, rest)) (line_of line)

unfoldable pub next_of : List ℕ → Option (CompletedTrial × List ℕ)
next_of text = next_in (split_at (code "\n") text)

abbrev pub before : Option CompletedTrial → List CompletedTrial → List CompletedTrial
before (Some t) ts = t ∷ ts
before None ts = []

-- the entries that stand before the first malformed line
unfoldable pub entries_in : List (List ℕ) → List CompletedTrial
entries_in [] = []
entries_in (last ∷ []) = []
entries_in (line ∷ next ∷ more) = before (line_of line) (entries_in (next ∷ more))

unfoldable pub entries_of : List ℕ → List CompletedTrial
entries_of text = entries_in (cut_at (code "\n") text)

-- the answer where n entries stand before those of the export
unfoldable pub answer_from : ℕ → ℕ → Export → Result ℕ ExportRefusal
answer_from n places (malformed k) = Err (MalformedLine k)
answer_from n places (well ts) = cond (leb (n + length ts) places) (Ok (n + length ts)) (Err ShortHistory)
