-- A text that was cut at a separator, put together again. Idea: by the text's bytes; `Clear` says that none of them is the separator.
use Prim.Native.Nat.{ℕ}
use mathlib.Core.Path.{◌∙◌, ◌≡◌, refl, sym, ap}
use mathlib.Core.Bool.{Bool, true, false, cond}
use mathlib.Core.List.{List, [], ◌∷◌, ◌++◌}
use lib.Dec.{eqb}
use borrow.Author.Tests.{eq-eqb, eqb-true}
use Rattle.std.specs.Prelude.{None, is_some}
use Rattle.numbers.specs.Numbers.{digit_of, digit_in, all_digits}
use Rattle.std.specs.List.{onto_first}
use Rattle.metrics.specs.Pieces.{cut_at, Halves, whole, halves, onto_halves, split_at}
use Rattle.std.proofs.lemmas.Bool.{and_parts}

-- no byte of the text is the separator
abbrev pub Clear : ℕ → List ℕ → Type 0
Clear sep [] = Unit {0}
Clear sep (b ∷ bs) = (eqb b sep ≡ false) × Clear sep bs

pub clear-append : (sep : ℕ) (s t : List ℕ) → Clear sep s → Clear sep t → Clear sep (s ++ t)
clear-append sep [] t c d = d
clear-append sep (b ∷ s) t c d = (c.0, clear-append sep s t c.1 d)

-- what is no digit stands nowhere among digits
pub digits-clear : (sep : ℕ) → digit_of sep ≡ None → (s : List ℕ) → all_digits 10 s ≡ true → Clear sep s
unfolding all_digits
digits-clear sep h [] e = tt
digits-clear sep h (b ∷ s) e = (other (eqb b sep) refl, digits-clear sep h s (and_parts (is_some (digit_in 10 b)) (all_digits 10 s) e).1)
  where
    other : (t : Bool) → eqb b sep ≡ t → t ≡ false
    other false z = refl
    other true z =
        let none : digit_of b ≡ None = ap digit_of (eqb-true b sep z) ∙ h in
        let some : is_some (digit_in 10 b) ≡ true = (and_parts (is_some (digit_in 10 b)) (all_digits 10 s) e).0 in
        sym (rw none at some)

module _ (sep : ℕ) where
  self : eqb sep sep ≡ true
  self = eq-eqb sep sep refl

  -- ---- together, then cut
  pub split-clear : (s t : List ℕ) → Clear sep s → split_at sep (s ++ sep ∷ t) ≡ halves s t
  unfolding split_at
  split-clear [] t c = rw self
  split-clear (b ∷ s) t c = rw (c.0, split-clear s t c.1)

  pub whole-clear : (s : List ℕ) → Clear sep s → split_at sep s ≡ whole s
  unfolding split_at
  whole-clear [] c = refl
  whole-clear (b ∷ s) c = rw (c.0, whole-clear s c.1)

  pub cut-clear : (s t : List ℕ) → Clear sep s → cut_at sep (s ++ sep ∷ t) ≡ s ∷ cut_at sep t
  unfolding cut_at
  cut-clear [] t c = rw self
  cut-clear (b ∷ s) t c = rw (c.0, cut-clear s t c.1)

  pub cut-alone : (s : List ℕ) → Clear sep s → cut_at sep s ≡ s ∷ []
  unfolding cut_at
  cut-alone [] c = refl
  cut-alone (b ∷ s) c = rw (c.0, cut-alone s c.1)

  -- ---- cut, then together
  abbrev pub SplitBack : Halves → List ℕ → Type 0
  SplitBack (whole w) s = s ≡ w
  SplitBack (halves a b) s = s ≡ a ++ sep ∷ b

  pub split-back : (s : List ℕ) → SplitBack (split_at sep s) s
  unfolding split_at
  split-back [] = refl
  split-back (x ∷ s) = go (eqb x sep) refl (split_at sep s) (split-back s)
    where
      go : (t : Bool) → eqb x sep ≡ t → (h : Halves) → SplitBack h s → SplitBack (cond t (halves [] s) (onto_halves x h)) (x ∷ s)
      go true z h b = ap (λ (y : ℕ). y ∷ s) (eqb-true x sep z)
      go false z (whole w) b = ap (λ (y : List ℕ). x ∷ y) b
      go false z (halves a c) b = ap (λ (y : List ℕ). x ∷ y) b

  -- the first piece is all of the text, or a separator ends it and the other pieces are those of what stands behind
  abbrev pub CutBack : List (List ℕ) → List ℕ → Type 0
  CutBack [] s = ⊥
  CutBack (p ∷ []) s = s ≡ p
  CutBack (p ∷ q ∷ qs) s = (t : List ℕ) × ((s ≡ p ++ sep ∷ t) × (cut_at sep t ≡ q ∷ qs))

  pub cut-back : (s : List ℕ) → CutBack (cut_at sep s) s
  unfolding cut_at
  cut-back [] = refl
  cut-back (x ∷ s) = go (eqb x sep) refl (cut_at sep s) refl (cut-back s)
    where
      go : (t : Bool) → eqb x sep ≡ t → (qs : List (List ℕ)) → cut_at sep s ≡ qs → CutBack qs s → CutBack (cond t ([] ∷ qs) (onto_first x qs)) (x ∷ s)
      go true z (c ∷ cs) q b = (s, (ap (λ (y : ℕ). y ∷ s) (eqb-true x sep z), q))
      go false z (c ∷ []) q b = ap (λ (y : List ℕ). x ∷ y) b
      go false z (c ∷ d ∷ ds) q b = (b.0, (ap (λ (y : List ℕ). x ∷ y) b.1.0, b.1.1))
      go t z [] q b = absurd b
