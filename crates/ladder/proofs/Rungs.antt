-- R(p) is the whole part of 2^(p/256), the only one, and never falls.
use mathlib.Core.Path.{◌≡◌, refl, sym, ap, ◌∙◌, subst}
use mathlib.Core.Bool.{Bool, true, false}
use mathlib.Core.Logic.{⊎_elim}
use Prim.Native.Nat.{ℕ, zero, suc, ◌+◌, ◌*◌, ◌^◌, ◌≤◌, ◌<◌, zero-le}
use native.Mathlib.Nat.{le_trans, lt_of_le_of_lt, lt_of_lt_of_le, pow-le-pow_left, pow-le-pow_right, pow-suc, pow-zero, one-mul, lt_irrefl, eq-or-lt_of_le}
use native.Mathlib.Omega.{arith}
use lib.Dec.{leb, ltb, lit≤, lit<}
use lib.Pow.{pow_mono}
use borrow.Author.Tests.{le-leb, lt-leb, leb-true, leb-false, ltb-true, ltb-false}
use Rattle.ladder.specs.Rungs.{WholePart, rung}
use Rattle.ladder.specs.Search.{largest}
use Rattle.ladder.proofs.Search.{largest_is, largest-passes, largest-bound, past-largest}

-- no number is over its 256th power
grows : (r : ℕ) → r ≤ r ^ 256
grows zero = zero-le
grows (suc r) = subst (λ (x : ℕ). x ≤ suc r ^ 256) (pow-one (suc r)) (pow-le-pow_right (omega arith) {i = 1} {j = 256} (lit≤ tt))
  where
    pow-one : (x : ℕ) → x ^ 1 ≡ x
    pow-one x = pow-suc x 0 ∙ ap (λ (y : ℕ). y * x) (pow-zero x) ∙ one-mul x

-- what has the rule is R(p)
pub only : (p r : ℕ) → WholePart p r → r ≡ rung p
unfolding rung
only p r w =
    sym
    (largest_is (λ (k : ℕ). leb (k ^ 256) (2 ^ p)) (2 ^ p) r (le_trans (grows r) w.at_most) (λ z. le-leb (r ^ 256) (2 ^ p) w.at_most)
    (λ j a b. lt-leb (j ^ 256) (2 ^ p) (lt_of_lt_of_le w.below (pow-le-pow_left (omega arith) 256))))

-- R(p) has the rule
pub rung-is : (p : ℕ) → WholePart p (rung p)
unfolding rung
rung-is p = record {
  at_most = leb-true (r ^ 256) (2 ^ p) (largest-passes f (2 ^ p) (le-leb (0 ^ 256) (2 ^ p) zero-le));
  below = ⊎_elim at-end inside (eq-or-lt_of_le (largest-bound f (2 ^ p)));
}
  where
    f : ℕ → Bool
    f k = leb (k ^ 256) (2 ^ p)

    r : ℕ
    r = largest f (2 ^ p)

    at-end : r ≡ 2 ^ p → 2 ^ p < (r + 1) ^ 256
    at-end e = lt_of_lt_of_le (omega arith) (grows (r + 1))

    inside : r < 2 ^ p → 2 ^ p < (r + 1) ^ 256
    inside h = leb-false ((r + 1) ^ 256) (2 ^ p) (past-largest f (2 ^ p) (r + 1) (omega arith) (omega arith))

-- whatever has a 256th power below another's is below it
pub below-root : (a b : ℕ) → a ^ 256 < b ^ 256 → a < b
below-root a b h = go (ltb a b) refl
  where
    go : (t : Bool) → ltb a b ≡ t → a < b
    go true e = ltb-true a b e
    go false e = absurd (lt_irrefl (a ^ 256) (lt_of_lt_of_le h (pow-le-pow_left (ltb-false a b e) 256)))

-- R never falls
pub rises : (p q : ℕ) → p ≤ q → rung p ≤ rung q
rises p q h = omega (arith, below-root (rung p) (rung q + 1) (lt_of_le_of_lt (le_trans (rung-is p).at_most (pow_mono h)) (rung-is q).below))

pub rung-0 : rung 0 ≡ 1
rung-0 = sym (only 0 1 (record { at_most = lit≤ tt; below = lit< tt }))

pub rung-last : rung 7936 ≡ 2147483648
rung-last = sym (only 7936 2147483648 (record { at_most = lit≤ tt; below = lit< tt }))
