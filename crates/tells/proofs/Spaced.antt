-- The words of a line are its pieces at the spaces (metrics Pieces), so what holds of pieces holds of words: those with no space in them are cut apart again.
use Prim.Native.Nat.{ℕ, zero, suc, ◌+◌, ◌/◌, ◌%◌}
use Prim.Native.Char.{code}
use mathlib.Core.Path.{◌≡◌, refl, sym, ap, ◌∙◌}
use mathlib.Core.Bool.{Bool, true, false, cond}
use mathlib.Core.List.{List, [], ◌∷◌, ◌++◌}
use native.Mathlib.Omega.{arith}
use lib.Dec.{ltb, eqb}
use borrow.Author.Tests.{ne_eqb}
use Rattle.io.specs.Digits.{last_digits, hex_digit_ascii}
use Rattle.script.specs.Words.{words_of}
use Rattle.metrics.specs.Pieces.{cut_at}
use Rattle.metrics.proofs.Joined.{Clear, clear-append, cut-clear, cut-alone}

pub words-are-pieces : (line : List ℕ) → words_of line ≡ cut_at (code " ") line
unfolding words_of cut_at
words-are-pieces line = refl

-- ---- a digit is no space

-- no byte of it is a space
abbrev pub Spaceless : List ℕ → Type 0
Spaceless s = Clear (code " ") s

glyph-spaceless : (d : ℕ) → eqb (hex_digit_ascii d) (code " ") ≡ false
glyph-spaceless d = go (ltb d 10)
  where
    go : (t : Bool) → eqb (cond t (48 + d) (87 + d)) (code " ") ≡ false
    go true = ne_eqb (48 + d) 32 (λ e. omega arith)
    go false = ne_eqb (87 + d) 32 (λ e. omega arith)

pub digits-spaceless : (base k n : ℕ) → Spaceless (last_digits base k n)
digits-spaceless base zero n = tt
digits-spaceless base (suc k) n =
    clear-append (code " ") (last_digits base k (n / base)) (hex_digit_ascii (n % base) ∷ []) (digits-spaceless base k (n / base)) (glyph-spaceless (n % base), tt)

-- ---- a word with a space behind it, and the last word

pub word-then : (w rest : List ℕ) → Spaceless w → words_of (w ++ (code " " ∷ rest)) ≡ w ∷ words_of rest
word-then w rest h =
    words-are-pieces (w ++ (code " " ∷ rest)) ∙ cut-clear (code " ") w rest h ∙ ap (λ (ws : List (List ℕ)). w ∷ ws) (sym (words-are-pieces rest))

pub word-alone : (w : List ℕ) → Spaceless w → words_of w ≡ w ∷ []
word-alone w h = words-are-pieces w ∙ cut-alone (code " ") w h
