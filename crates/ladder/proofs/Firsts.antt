-- The inner bounds by the first position from which R is at least x: below it R is less, from it on R is not.
use Rattle.std.proofs.Common.{◌≡◌, ℕ, ◌≤◌, ◌<◌, Bool, true, false, ltb, leb, ℤ, pos, refl, ap, le_trans, ltb-true, ltb-false, le-leb, leb-true, leb-false, arith}
use borrow.Author.Tests.{lt-leb}
use Rattle.ladder.specs.Rungs.{rung}
use Rattle.ladder.specs.Inner.{inner_high}
use Rattle.ladder.proofs.Rungs.{rises, rung-last}
use Rattle.ladder.proofs.Search.{least-is, least-bound, under-least, least-passes}

-- k is the first
pub first-is : (x k : ℕ) → k ≤ 7936 → (k < 7936 → x ≤ rung k) → ((j : ℕ) → j < k → rung j < x) → inner_high (pos x) ≡ k
unfolding inner_high
first-is x k h p q = least-is (λ (p : ℕ). leb x (rung p)) 7936 k h (λ l. le-leb x (rung k) (p l)) (λ j l. lt-leb x (rung j) (q j l))

pub high-bound : (z : ℤ) → inner_high z ≤ 7936
unfolding inner_high
high-bound z = least-bound _ 7936

pub before-first : (x p : ℕ) → p < inner_high (pos x) → rung p < x
unfolding inner_high
before-first x p h = leb-false x (rung p) (under-least (λ (p : ℕ). leb x (rung p)) 7936 p h)

pub from-first : (x p : ℕ) → x ≤ 2147483648 → inner_high (pos x) ≤ p → x ≤ rung p
unfolding inner_high
from-first x p h l = le_trans (at-first (ltb (inner_high (pos x)) 7936) refl) (rises (inner_high (pos x)) p l)
  where
    at-first : (b : Bool) → ltb (inner_high (pos x)) 7936 ≡ b → x ≤ rung (inner_high (pos x))
    at-first true e = leb-true x (rung (inner_high (pos x))) (least-passes (λ (p : ℕ). leb x (rung p)) 7936 (ltb-true (inner_high (pos x)) 7936 e))
    at-first false e =
        let is : inner_high (pos x) ≡ 7936 = omega (arith, ltb-false (inner_high (pos x)) 7936 e, high-bound (pos x)) in
        omega (arith, ap rung is, rung-last)
