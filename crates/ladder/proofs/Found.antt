-- R and the inner bounds of numbers that are known: each is found by its rule, and not by the searches that define them.
use Rattle.std.proofs.Common.{◌≡◌, ℕ, suc, ◌+◌, ◌^◌, ◌≤◌, ◌<◌, leb, ltb, T, pos, sym, subst, lit≤, lit<, lt_of_le_of_lt, le_of_suc-le-suc, arith}
use Rattle.ladder.specs.Inner.{inner_low, inner_high}
use Rattle.ladder.specs.Rungs.{rung}
use Rattle.ladder.proofs.Firsts.{first-is}
use Rattle.ladder.proofs.Inner.{low-between}
use Rattle.ladder.proofs.Rungs.{only, rises}

-- r has the rule
pub is : (p r : ℕ) → T (leb (r ^ 256) (2 ^ p)) → T (ltb (2 ^ p) ((r + 1) ^ 256)) → rung p ≡ r
is p r a b = sym (only p r (record { at_most = lit≤ a; below = lit< b }))

-- R is below x at position p and not at the next
high-is : (x p : ℕ) → suc p ≤ 7936 → rung p < x → x ≤ rung (suc p) → inner_high (pos x) ≡ suc p
high-is x p h a b = first-is x (suc p) h (λ l. b) (λ j l. lt_of_le_of_lt (rises j p (le_of_suc-le-suc l)) a)

pub between : (x p r s : ℕ) → rung p ≡ r → rung (suc p) ≡ s → suc p ≤ 7936 → r < x → x ≤ s → 1 < x → x ≤ 2147483648 → (inner_low (pos x) ≡ p) × (inner_high (pos x) ≡ suc p)
between x p r s e f h a b l m =
    let high = high-is x p h (subst (λ (n : ℕ). n < x) (sym e) a) (subst (λ (n : ℕ). x ≤ n) (sym f) b) in
    (omega (arith, low-between x l m, high), high)
