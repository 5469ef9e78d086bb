-- The words of a line.
use Rattle.std.specs.Prelude.{ℕ, Bool, List, [], eqb, get_or, bytes_eq, codes}
use Rattle.std.specs.List.{slice_split}
use Prim.Native.Char.{code}
use Prim.Native.String.{String}

-- "Words are separated by one space": each space ends a word, so that two in a row have an empty word between them
unfoldable pub words_of : List ℕ → List (List ℕ)
words_of line = slice_split (λ b. eqb b (code " ")) line

-- word k, counted from 0; empty where there is none
unfoldable pub word_at : List ℕ → ℕ → List ℕ
word_at line k = get_or (words_of line) k []

-- a word is a keyword
abbrev pub is : List ℕ → String → Bool
is word keyword = bytes_eq word (codes keyword)
