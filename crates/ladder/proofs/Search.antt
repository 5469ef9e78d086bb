-- What the two searches find.
use mathlib.Core.Path.{◌≡◌, refl, sym, ap, ◌∙◌}
use mathlib.Core.Bool.{Bool, true, false, cond, true≢false}
use mathlib.Core.Logic.{⊎_elim}
use Prim.Native.Nat.{ℕ, zero, suc, ◌≤◌, ◌<◌, zero-le}
use native.Mathlib.Nat.{le_refl, le_of_suc-le-suc, not-suc-le-zero, eq-or-lt_of_le}
use native.Mathlib.Omega.{arith}
use lib.Dec.{ltb}
use borrow.Author.Tests.{ltb-true, ltb-false}
use Rattle.ladder.specs.Search.{largest, least}

-- ---- the largest

-- k passes or is 0, and nothing after it passes
pub largest_is : (f : ℕ → Bool) (n k : ℕ) → k ≤ n → (0 < k → f k ≡ true) → ((j : ℕ) → k < j → j ≤ n → f j ≡ false) → largest f n ≡ k
unfolding largest
largest_is f zero k h p q = omega arith
largest_is f (suc n) k h p q = ⊎_elim top (λ l. under l (largest_is f n k (le_of_suc-le-suc l) p (λ j a b. q j a (omega arith)))) (eq-or-lt_of_le h)
  where
    top : k ≡ suc n → cond (f (suc n)) (suc n) (largest f n) ≡ k
    top e = ap (λ (b : Bool). cond b (suc n) (largest f n)) (ap f (sym e) ∙ p (omega arith)) ∙ sym e

    under : k < suc n → largest f n ≡ k → cond (f (suc n)) (suc n) (largest f n) ≡ k
    under l e = ap (λ (b : Bool). cond b (suc n) (largest f n)) (q (suc n) l (le_refl (suc n))) ∙ e

-- what is found passes, where 0 does
pub largest-passes : (f : ℕ → Bool) (n : ℕ) → f 0 ≡ true → f (largest f n) ≡ true
unfolding largest
largest-passes f zero z = z
largest-passes f (suc n) z = go (f (suc n)) refl (largest-passes f n z)
  where
    go : (b : Bool) → f (suc n) ≡ b → f (largest f n) ≡ true → f (cond b (suc n) (largest f n)) ≡ true
    go true e r = e
    go false e r = r

pub largest-bound : (f : ℕ → Bool) (n : ℕ) → largest f n ≤ n
unfolding largest
largest-bound f zero = le_refl 0
largest-bound f (suc n) = go (f (suc n)) (largest-bound f n)
  where
    go : (b : Bool) → largest f n ≤ n → cond b (suc n) (largest f n) ≤ suc n
    go true r = le_refl (suc n)
    go false r = omega arith

-- nothing after what is found passes
pub past-largest : (f : ℕ → Bool) (n j : ℕ) → largest f n < j → j ≤ n → f j ≡ false
unfolding largest
past-largest f zero j a b = absurd (omega arith)
past-largest f (suc n) j a b = go (f (suc n)) refl a (λ l s. past-largest f n j l s)
  where
    go : (x : Bool) → f (suc n) ≡ x → cond x (suc n) (largest f n) < j → (largest f n < j → j ≤ n → f j ≡ false) → f j ≡ false
    go true e l r = absurd (omega arith)
    go false e l r = ⊎_elim (λ s. ap f s ∙ e) (λ s. r l (le_of_suc-le-suc s)) (eq-or-lt_of_le b)

-- ---- the least

-- what the search goes on with
abbrev after : (ℕ → Bool) → ℕ → Bool
after f k = f (suc k)

pub least-bound : (f : ℕ → Bool) (n : ℕ) → least f n ≤ n
unfolding least
least-bound f zero = le_refl 0
least-bound f (suc n) = go (f 0) (least-bound (after f) n)
  where
    go : (b : Bool) → least (after f) n ≤ n → cond b zero (suc (least (after f) n)) ≤ suc n
    go true r = zero-le
    go false r = omega arith

-- nothing below what is found passes
pub under-least : (f : ℕ → Bool) (n j : ℕ) → j < least f n → f j ≡ false
unfolding least
under-least f zero j h = absurd (not-suc-le-zero h)
under-least f (suc n) j h = go (f 0) refl j h (λ k l. under-least (after f) n k l)
  where
    go : (b : Bool) → f 0 ≡ b → (j : ℕ) → j < cond b zero (suc (least (after f) n)) → ((k : ℕ) → k < least (after f) n → f (suc k) ≡ false) → f j ≡ false
    go true e j h r = absurd (not-suc-le-zero h)
    go false e zero h r = e
    go false e (suc j) h r = r j (le_of_suc-le-suc h)

-- what is found passes, unless it is n
pub least-passes : (f : ℕ → Bool) (n : ℕ) → least f n < n → f (least f n) ≡ true
unfolding least
least-passes f zero h = absurd (not-suc-le-zero h)
least-passes f (suc n) h = go (f 0) refl h (λ l. least-passes (after f) n l)
  where
    go : (b : Bool) → f 0 ≡ b → cond b zero (suc (least (after f) n)) < suc n → (least (after f) n < n → f (suc (least (after f) n)) ≡ true)
        → f (cond b zero (suc (least (after f) n))) ≡ true
    go true e h r = e
    go false e h r = r (le_of_suc-le-suc h)

-- k passes or is n, and nothing below it passes
pub least-is : (f : ℕ → Bool) (n k : ℕ) → k ≤ n → (k < n → f k ≡ true) → ((j : ℕ) → j < k → f j ≡ false) → least f n ≡ k
least-is f n k h p q = go (ltb (least f n) k) refl (ltb k (least f n)) refl
  where
    go : (a : Bool) → ltb (least f n) k ≡ a → (b : Bool) → ltb k (least f n) ≡ b → least f n ≡ k
    go true e b g = let l = ltb-true (least f n) k e in absurd (true≢false (sym (least-passes f n (omega arith)) ∙ q (least f n) l))
    go false e true g =
        let l = ltb-true k (least f n) g in
        absurd (true≢false (sym (p (omega (arith, least-bound f n))) ∙ under-least f n k l))
    go false e false g = omega (arith, ltb-false (least f n) k e, ltb-false k (least f n) g)
