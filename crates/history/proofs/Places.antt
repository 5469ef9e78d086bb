-- Laws of `put_where`: it goes by the test's answers alone, one place more is one `set`, and what stands at each place.
use mathlib.Core.Path.{◌≡◌, refl, sym, ap, ap₂, ◌∙◌}
use mathlib.Core.Logic.{⊎_elim}
use Prim.Native.Nat.{ℕ, zero, suc, ◌+◌, ◌<◌, zero-le}
use native.Mathlib.Nat.{not-suc-le-zero, le_of_suc-le-suc, eq-or-lt_of_le, le_refl}
use native.Mathlib.Omega.{arith}
use mathlib.Core.Bool.{Bool, true, false, ◌&&◌, cond}
use mathlib.Core.List.{List, [], ◌∷◌}
use lib.Dec.{eqb, ltb}
use lib.ListN.{length, get_or, set}
use borrow.Author.Tests.{eqb-true, eqb-false, ltb-true, ltb-false, lt-ltb, le-ltb}
use Rattle.history.specs.Scan.{wants, put_where}

module _ {A : Type 0} (v : A) where
  pub put_same : (s t : ℕ → Bool) (xs : List A) → ((i : ℕ) → s i ≡ t i) → put_where s v xs ≡ put_where t v xs
  unfolding put_where
  put_same s t [] e = refl
  put_same s t (x ∷ xs) e = ap₂ ◌∷◌ (ap (λ (b : Bool). cond b v x) (e 0)) (put_same (λ i. s (suc i)) (λ i. t (suc i)) xs (λ i. e (suc i)))

  -- no place passes
  pub put-none : (t : ℕ → Bool) (xs : List A) → ((i : ℕ) → t i ≡ false) → put_where t v xs ≡ xs
  unfolding put_where
  put-none t [] e = refl
  put-none t (x ∷ xs) e = ap₂ ◌∷◌ (ap (λ (b : Bool). cond b v x) (e 0)) (put-none (λ i. t (suc i)) xs (λ i. e (suc i)))

  -- s passes j besides what t passes
  pub put_one : (s t : ℕ → Bool) (xs : List A) (j : ℕ) → s j ≡ true → ((i : ℕ) → (i ≡ j → ⊥) → s i ≡ t i) → put_where s v xs ≡ set (put_where t v xs) j v
  unfolding put_where
  put_one s t [] j p e = refl
  put_one s t (x ∷ xs) zero p e = ap₂ ◌∷◌ (ap (λ (b : Bool). cond b v x) p) (put_same (λ i. s (suc i)) (λ i. t (suc i)) xs (λ i. e (suc i) (λ z. omega arith)))
  put_one s t (x ∷ xs) (suc j) p e = ap₂ ◌∷◌ (ap (λ (b : Bool). cond b v x) (e 0 (λ z. omega arith))) (put_one (λ i. s (suc i)) (λ i. t (suc i)) xs j p (λ i ne. e (suc i) (λ z. ne (omega arith))))

  pub put-length : (t : ℕ → Bool) (xs : List A) → length (put_where t v xs) ≡ length xs
  unfolding put_where
  put-length t [] = refl
  put-length t (x ∷ xs) = ap suc (put-length (λ i. t (suc i)) xs)

  pub put-at : (t : ℕ → Bool) (xs : List A) (j : ℕ) (d : A) → j < length xs → get_or (put_where t v xs) j d ≡ cond (t j) v (get_or xs j d)
  unfolding put_where
  put-at t [] j d l = absurd (not-suc-le-zero l)
  put-at t (x ∷ xs) zero d l = refl
  put-at t (x ∷ xs) (suc j) d l = put-at (λ i. t (suc i)) xs j d (le_of_suc-le-suc l)

module _ (numbers : List ℕ) (m : ℕ) where
  -- a place among the first k
  pub wants-in : (k i : ℕ) → i < k → wants k numbers m i ≡ eqb m (get_or numbers i 0)
  wants-in k i l = ap (λ (b : Bool). b && eqb m (get_or numbers i 0)) (lt-ltb i k l)

  pub wants-zero : (i : ℕ) → wants 0 numbers m i ≡ false
  wants-zero i = ap (λ (b : Bool). b && eqb m (get_or numbers i 0)) (le-ltb i 0 zero-le)

  -- one place more, the place j
  pub wants-more : (j i : ℕ) → (i ≡ j → ⊥) → wants (j + 1) numbers m i ≡ wants j numbers m i
  wants-more j i ne = ap (λ (b : Bool). b && eqb m (get_or numbers i 0)) (go (ltb i j) refl)
    where
      go : (b : Bool) → ltb i j ≡ b → ltb i (j + 1) ≡ b
      go true e = lt-ltb i (j + 1) (omega (arith, ltb-true i j e))
      go false e = le-ltb i (j + 1) (⊎_elim (λ z. absurd (ne (sym z))) (λ l. omega arith) (eq-or-lt_of_le (ltb-false i j e)))

  -- the place j wants another number
  pub wants-miss : (j : ℕ) → eqb m (get_or numbers j 0) ≡ false → (i : ℕ) → wants (j + 1) numbers m i ≡ wants j numbers m i
  wants-miss j e i = go (eqb i j) refl
    where
      go : (b : Bool) → eqb i j ≡ b → wants (j + 1) numbers m i ≡ wants j numbers m i
      go true z = rw (eqb-true i j z) (wants-in (j + 1) j (omega arith) ∙ e ∙ sym (ap (λ (b : Bool). b && eqb m (get_or numbers j 0)) (le-ltb j j (le_refl j))))
      go false z = wants-more j i (eqb-false i j z)
