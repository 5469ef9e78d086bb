-- The inner bounds in their three ranges, and in order: for a low from 2 on the lower one is the place before the first with R at least low.
use Rattle.std.proofs.Common.{◌≡◌, ℕ, zero, suc, ◌-◌, ◌≤◌, ◌<◌, Bool, true, false, cond, ℤ, pos, negsuc, ◌≤ℤ◌, ◌<ℤ◌, sym, refl, ◌∙◌, subst, le_refl, le_trans, zero-le, not-suc-le-zero, arith, lt-ltb, le-ltb, ltb, ltb-true, ltb-false}
use Rattle.std.proofs.lemmas.Int.{ints}
use lib.Signed.{le_z, lt_z}
use Rattle.ladder.specs.Rungs.{rung}
use Rattle.ladder.specs.Search.{largest}
use Rattle.ladder.specs.Inner.{inner_low, inner_high}
use Rattle.ladder.proofs.Firsts.{high-bound, before-first, from-first}
use Rattle.ladder.proofs.Rungs.{rises, rung-0, rung-last}
use Rattle.ladder.proofs.Search.{largest_is, largest-bound, least-is}

-- ---- the upper

pub high-1 : (z : ℤ) → z ≤ℤ pos 1 → inner_high z ≡ 0
unfolding inner_high
high-1 z h = least-is (λ (p : ℕ). le_z z (pos (rung p))) 7936 0 zero-le (λ l. subst (λ (r : ℕ). le_z z (pos r) ≡ true) (sym rung-0) (grind (arith, ints))) (λ j l. absurd (not-suc-le-zero l))

pub high-past : (z : ℤ) → pos 2147483648 <ℤ z → inner_high z ≡ 7936
unfolding inner_high
high-past z h =
    least-is (λ (p : ℕ). le_z z (pos (rung p))) 7936 7936 (le_refl 7936) (λ l. absurd (omega (arith, l)))
    (λ j l. let r : rung j ≤ 2147483648 = subst (λ (m : ℕ). rung j ≤ m) rung-last (rises j 7936 (omega (arith, l))) in grind (arith, ints, r))

-- ---- the lower

pub low-1 : (z : ℤ) → z ≤ℤ pos 1 → inner_low z ≡ 0
unfolding inner_low
low-1 z h = let t : le_z z (pos 1) ≡ true = grind (arith, ints) in rw t refl

else-largest : (z : ℤ) → pos 1 <ℤ z → inner_low z ≡ largest (λ (p : ℕ). lt_z (pos (rung p)) z) 7936
unfolding inner_low
else-largest z h = let t : le_z z (pos 1) ≡ false = grind (arith, ints) in rw t refl

pub low-past : (z : ℤ) → pos 2147483648 <ℤ z → inner_low z ≡ 7936
low-past z h =
    else-largest z (grind (arith, ints))
    ∙ largest_is (λ (p : ℕ). lt_z (pos (rung p)) z) 7936 7936 (le_refl 7936) (λ k. subst (λ (r : ℕ). lt_z (pos r) z ≡ true) (sym rung-last) (grind (arith, ints))) (λ j a b. absurd (omega (arith, a, b)))

pub first-above : (x : ℕ) → 1 < x → x ≤ 2147483648 → 0 < inner_high (pos x)
first-above x l h = go (inner_high (pos x)) refl
  where
    go : (k : ℕ) → inner_high (pos x) ≡ k → 0 < k
    go zero e = absurd (omega (arith, from-first x 0 h (omega (arith, e)), rung-0))
    go (suc k) e = omega arith

pub low-between : (x : ℕ) → 1 < x → x ≤ 2147483648 → inner_low (pos x) ≡ inner_high (pos x) - 1
low-between x l h =
    let a = first-above x l h in
    else-largest (pos x) (grind (arith, ints))
    ∙ largest_is (λ (p : ℕ). lt_z (pos (rung p)) (pos x)) 7936 (inner_high (pos x) - 1) (omega (arith, high-bound (pos x)))
    (λ z. lt-ltb (rung (inner_high (pos x) - 1)) x (before-first x (inner_high (pos x) - 1) (omega (arith, a))))
    (λ j p q. le-ltb (rung j) x (from-first x j h (omega (arith, a, p))))

pub low-bound : (z : ℤ) → inner_low z ≤ 7936
unfolding inner_low
low-bound z = go (le_z z (pos 1))
  where
    go : (b : Bool) → cond b 0 (largest (λ (p : ℕ). lt_z (pos (rung p)) z) 7936) ≤ 7936
    go true = zero-le
    go false = largest-bound (λ (p : ℕ). lt_z (pos (rung p)) z) 7936

-- ---- both, in order

first-by : (x m : ℕ) → x ≤ rung m → inner_high (pos x) ≤ m
first-by x m h = go (ltb m (inner_high (pos x))) refl
  where
    go : (b : Bool) → ltb m (inner_high (pos x)) ≡ b → inner_high (pos x) ≤ m
    go true e = absurd (omega (arith, before-first x m (ltb-true m (inner_high (pos x)) e), h))
    go false e = ltb-false m (inner_high (pos x)) e

-- low at most high gives inner bounds in order
pub inner-ordered : (x y : ℤ) → x ≤ℤ y → y ≤ℤ pos 2147483648 → inner_low x ≤ inner_high y
inner-ordered (negsuc x) y l h = rw (low-1 (negsuc x) (grind (arith, ints))) zero-le
inner-ordered (pos x) (negsuc y) l h = absurd (grind (arith, ints))
inner-ordered (pos x) (pos y) l h = go (ltb 1 x) refl
  where
    u : y ≤ 2147483648
    u = grind (arith, ints)

    v : x ≤ y
    v = grind (arith, ints)

    go : (b : Bool) → ltb 1 x ≡ b → inner_low (pos x) ≤ inner_high (pos y)
    go false e = let s = ltb-false 1 x e in rw (low-1 (pos x) (grind (arith, ints, s))) zero-le
    go true e =
        let at = from-first y (inner_high (pos y)) u (le_refl (inner_high (pos y))) in
        omega (arith, low-between x (ltb-true 1 x e) (le_trans v u), first-by x (inner_high (pos y)) (le_trans v at))

-- ---- document 02's words of them

-- "the largest p with R(p) below low"
pub low-largest : (x : ℕ) → 1 < x → x ≤ 2147483648 → (rung (inner_low (pos x)) < x) × ((p : ℕ) → inner_low (pos x) < p → x ≤ rung p)
low-largest x l h =
    let a = first-above x l h in
    let is = low-between x l h in
    (before-first x (inner_low (pos x)) (omega (arith, is, a)), λ p q. from-first x p h (omega (arith, is, a, q)))

-- "the least p with R(p) at least high"
pub high-least : (x : ℕ) → x ≤ 2147483648 → (x ≤ rung (inner_high (pos x))) × ((p : ℕ) → p < inner_high (pos x) → rung p < x)
high-least x h = (from-first x (inner_high (pos x)) h (le_refl (inner_high (pos x))), λ p l. before-first x p l)

-- R at the lower inner bound is not above low, and at the upper not below high
pub low-end : (z : ℤ) → pos 1 ≤ℤ z → z ≤ℤ pos 2147483648 → pos (rung (inner_low z)) ≤ℤ z
low-end (negsuc x) l h = absurd (grind (arith, ints))
low-end (pos x) l h = go (ltb 1 x) refl
  where
    go : (b : Bool) → ltb 1 x ≡ b → pos (rung (inner_low (pos x))) ≤ℤ pos x
    go false e = let s = ltb-false 1 x e in rw (low-1 (pos x) (grind (arith, ints, s)), rung-0) l
    go true e = let s = (low-largest x (ltb-true 1 x e) (grind (arith, ints))).0 in grind (arith, ints, s)

pub high-end : (z : ℤ) → z ≤ℤ pos 2147483648 → z ≤ℤ pos (rung (inner_high z))
high-end (negsuc x) h = grind (arith, ints)
high-end (pos x) h = let s = (high-least x (grind (arith, ints))).0 in grind (arith, ints, s)

pub ruleset inner = (high-1, high-past, low-1, low-past, low-between, first-above)
