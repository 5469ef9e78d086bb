-- `size_of` meets its contract: a case for each range of the exponent.
use Rattle.std.proofs.Common.{◌≡◌, ℕ, ◌+◌, ◌-◌, ◌*◌, ◌%◌, ◌^◌, ◌<◌, ◌≤◌, min, not, T, sym, ap, ◌∙◌, ⊎_elim, le_trans, le_refl, mul-le-mul_left, arith, lit≤, pow_mono}
use lib.Ieee.{binary64, is_nan, of_bits}
use Rattle.rounding.specs.Round.{whole_size}
use Rattle.rounding.proofs.Patterns.{exponent, digits, low_bits, mid-bits, high_bits, top-bits, exponent-cases}
use Rattle.rounding.proofs.size_of.Goals as goal

kept : (r n : ℕ) → n ≡ r → r < 2 ^ 64 → r ≡ min n (2 ^ 64 - 1)
kept r n e h = omega arith

past : (n : ℕ) → 2 ^ 64 ≤ n → 18446744073709551615 ≡ min n (2 ^ 64 - 1)
past n h = omega arith

past-12 : (x : ℕ) → 1087 ≤ x → 12 ≤ x - 1075
past-12 x h = omega arith

-- from the exponent 1087 on
high-far : (b : ℕ) → 1087 ≤ exponent b → 2 ^ 64 ≤ (4503599627370496 + digits b) * 2 ^ (exponent b - 1075)
high-far b h = omega (arith, mul-le-mul_left (4503599627370496 + digits b) (pow_mono {i = 12} {j = exponent b - 1075} (past-12 (exponent b) h)))

far : (b : ℕ) → 1087 ≤ exponent b → T (not (is_nan (of_bits binary64 b))) → 2 ^ 64 ≤ whole_size (of_bits binary64 b)
far b h n = ⊎_elim (λ e. rw (top-bits b e n) (le_refl _)) (λ l. rw (high_bits b (le_trans (lit≤ tt) h) l) (high-far b h)) (exponent-cases b)

pub overflow_mul-result : goal.overflow_mul-result
overflow_mul-result c =
    let b = c.args.bits in
    let h : c.pow2.result ≤ 2048 = rw c.pow2.ensures (pow_mono {j = 11} (omega arith)) in
    let m : (4503599627370496 + b % 4503599627370496) * c.pow2.result ≤ (4503599627370496 + b % 4503599627370496) * 2048 = mul-le-mul_left _ h in
    omega arith

pub returns-then-exponent-lt1022 : goal.returns-then-exponent-lt1022
returns-then-exponent-lt1022 c = kept 0 _ (low_bits c.args.bits c.if-exponent-lt1022.true) (omega arith)

pub returns-then-exponent-lt1075 : goal.returns-then-exponent-lt1075
returns-then-exponent-lt1075 c =
    let b = c.args.bits in
    kept _ _ (mid-bits b c.if-exponent-lt1022.false c.if-exponent-lt1075.true ∙ sym c.half_up.ensures) (omega arith)

pub returns-then-exponent-lt1087 : goal.returns-then-exponent-lt1087
returns-then-exponent-lt1087 c =
    let b = c.args.bits in
    kept _ _ (high_bits b c.if-exponent-lt1075.false (omega arith) ∙ ap (λ (p : ℕ). (4503599627370496 + b % 4503599627370496) * p) (sym c.pow2.ensures)) (overflow_mul-result c).fits

pub returns-else-exponent-lt1087 : goal.returns-else-exponent-lt1087
returns-else-exponent-lt1087 c = past _ (far c.args.bits c.if-exponent-lt1087.false c.requires)
