-- A table against words: what stands at the front, and zeros or empty places after it.
use Prim.Native.Nat.{ℕ, zero, suc, ◌-◌, ◌≤◌}
use native.Mathlib.Omega.{arith}
use mathlib.Core.Bool.{Bool, true, false, ◌&&◌, not, beq}
use mathlib.Core.List.{List, [], ◌∷◌, ◌++◌}
use mathlib.Core.Path.{◌≡◌, refl, sym, ap, ◌∙◌}
use lib.Dec.{eqb}
use lib.ListN.{length, take, drop, replicate, length-drop, length-replicate}
use lib.Pointwise.{pointwise}
use Rattle.std.specs.List.{list_all}
use Rattle.rng_util.specs.Many.{pad_to}
use Rattle.records.specs.Tables.{same_words, same_flags}

and-assoc : (a b c : Bool) → ((a && b) && c) ≡ (a && (b && c))
and-assoc true b c = refl
and-assoc false b c = refl

-- ---- words

front-words : (xs ys zs : List ℕ) → length ys ≤ length xs → (pointwise eqb (take (length ys) xs) ys && same_words (drop (length ys) xs) zs) ≡ same_words xs (ys ++ zs)
unfolding same_words
front-words xs [] zs h = refl
front-words [] (y ∷ ys) zs h = absurd (omega arith)
front-words (x ∷ xs) (y ∷ ys) zs h =
    and-assoc (eqb x y) (pointwise eqb (take (length ys) xs) ys) (same_words (drop (length ys) xs) zs) ∙ ap (λ (b : Bool). eqb x y && b) (front-words xs ys zs (omega arith))

zero-words : (xs : List ℕ) (n : ℕ) → length xs ≡ n → list_all (λ w. eqb w 0) xs ≡ same_words xs (replicate n 0)
unfolding same_words
zero-words [] zero h = refl
zero-words [] (suc n) h = absurd (omega arith)
zero-words (x ∷ xs) zero h = absurd (omega arith)
zero-words (x ∷ xs) (suc n) h = ap (λ (b : Bool). eqb x 0 && b) (zero-words xs n (omega arith))

pub words_are : (xs ys front rest : List ℕ) (r s : Bool) → length xs ≡ 3600 → length ys ≤ 3600 → front ≡ take (length ys) xs → rest ≡ drop (length ys) xs
    → r ≡ pointwise eqb front ys → s ≡ list_all (λ w. eqb w 0) rest → (r && s) ≡ same_words xs (pad_to 3600 0 ys)
words_are xs ys front rest r s h l f g p q =
    (λ i. (p ∙ ap (λ (t : List ℕ). pointwise eqb t ys) f) i && (q ∙ ap (list_all (λ w. eqb w 0)) g) i)
    ∙ ap (λ (b : Bool). pointwise eqb (take (length ys) xs) ys && b) (zero-words (drop (length ys) xs) (3600 - length ys) (length-drop (length ys) xs ∙ ap (λ (n : ℕ). n - length ys) h))
    ∙ front-words xs ys (replicate (3600 - length ys) 0) (omega arith)

-- ---- marks

front-flags : (xs zs : List Bool) (m : ℕ) → m ≤ length xs → (list_all (λ b. b) (take m xs) && same_flags (drop m xs) zs) ≡ same_flags xs (replicate m true ++ zs)
unfolding same_flags
front-flags xs zs zero h = refl
front-flags [] zs (suc m) h = absurd (omega arith)
front-flags (x ∷ xs) zs (suc m) h =
    and-assoc x (list_all (λ b. b) (take m xs)) (same_flags (drop m xs) zs) ∙ (λ i. is x i && front-flags xs zs m (omega arith) i)
  where
    is : (b : Bool) → b ≡ beq b true
    is true = refl
    is false = refl

empty-flags : (xs : List Bool) (n : ℕ) → length xs ≡ n → list_all not xs ≡ same_flags xs (replicate n false)
unfolding same_flags
empty-flags [] zero h = refl
empty-flags [] (suc n) h = absurd (omega arith)
empty-flags (x ∷ xs) zero h = absurd (omega arith)
empty-flags (x ∷ xs) (suc n) h = λ i. is x i && empty-flags xs n (omega arith) i
  where
    is : (b : Bool) → not b ≡ beq b false
    is true = refl
    is false = refl

pub flags_are : (xs front rest : List Bool) (m : ℕ) (r s : Bool) → length xs ≡ 1200 → m ≤ 1200 → front ≡ take m xs → rest ≡ drop m xs
    → r ≡ list_all (λ b. b) front → s ≡ list_all not rest → (r && s) ≡ same_flags xs (pad_to 1200 false (replicate m true))
flags_are xs front rest m r s h l f g p q =
    (λ i. (p ∙ ap (list_all (λ b. b)) f) i && (q ∙ ap (list_all not) g) i)
    ∙ ap (λ (b : Bool). list_all (λ b. b) (take m xs) && b) (empty-flags (drop m xs) (1200 - m) (length-drop m xs ∙ ap (λ (n : ℕ). n - m) h))
    ∙ front-flags xs (replicate (1200 - m) false) m (omega arith)
    ∙ ap (λ (n : ℕ). same_flags xs (replicate m true ++ replicate (1200 - n) false)) (sym (length-replicate m true))
