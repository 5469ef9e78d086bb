-- The nearest whole number of a fraction depends on the fraction's value alone, so a double's can be read off any fraction that it is.
use Rattle.std.proofs.Common.{◌≡◌, ℕ, ◌+◌, ◌-◌, ◌*◌, ◌^◌, ◌<◌, ◌≤◌, Bool, sym, ap, ◌∙◌, lt_of_lt_of_le, zero-lt-suc, mul_assoc, mul_comm, add-mul, mul-one, mul_right_comm, mul_left_comm, arith, pow_pos, pow_mono, pow-add, shl_lt}
use native.Mathlib.Nat.{eq_of_mul-eq-mul_right, div-eq_of_lt}
use lib.Ieee.{Float, fin, binary64, up, down, round, inf, nan}
use lib.Ieee.Digits.{back}
use lib.Ieee.Exact.{HasValue}
use lib.Ieee.Fits.{down_pos}
use lib.Ieee.Nearest.{div_same}
use Rattle.rounding.specs.Round.{nearest_whole, whole_size, round_away}

spread : (a c d : ℕ) → (2 * a + c) * (2 * d) ≡ 2 * (2 * (a * d) + c * d)
spread a c d = mul_left_comm (2 * a + c) 2 d ∙ ap (λ (x : ℕ). 2 * x) (add-mul (2 * a) c d ∙ ap (λ (x : ℕ). x + c * d) (mul_assoc 2 a d))

same-nearest : (a c b d : ℕ) → 0 < c → 0 < d → a * d ≡ b * c → nearest_whole a c ≡ nearest_whole b d
same-nearest a c b d p q h =
    div_same (2 * a + c) (2 * c) (2 * b + d) (2 * d) (omega arith) (omega arith)
    (spread a c d ∙ ap (λ (x : ℕ). 2 * (2 * x + c * d)) h ∙ ap (λ (x : ℕ). 2 * (2 * (b * c) + x)) (mul_comm c d) ∙ sym (spread b d c))

pub size-at : (x : Float) (s : Bool) (a c : ℕ) → 0 < c → HasValue x s a c → whole_size x ≡ nearest_whole a c
unfolding whole_size
size-at (fin t m e) s a c p v = same-nearest (m * up e) (down e) a c (down_pos e) p v.1
size-at nan s a c p v = elim v [ ]
size-at (inf _) s a c p v = elim v [ ]

pub away-at : (x : Float) (s : Bool) (a c : ℕ) → HasValue x s a c → round_away x ≡ round binary64 s (whole_size x) 1
unfolding round_away
away-at (fin t m e) s a c v = ap (λ (b : Bool). round binary64 b (whole_size (fin t m e)) 1) v.0
away-at nan s a c v = elim v [ ]
away-at (inf _) s a c v = elim v [ ]

-- ---- the three ranges of the exponent

less : (y p : ℕ) → y < p → 2 * y + 2 * p < 2 * (2 * p)
less y p h = omega arith

pub tiny : (q x : ℕ) → q < 2 ^ 53 → x ≤ 1020 → nearest_whole (q * 2 ^ x) (2 ^ 1074) ≡ 0
tiny q x h k = div-eq_of_lt (less (q * 2 ^ x) (2 ^ 1073) (lt_of_lt_of_le (shl_lt 53 x h) (pow_mono {i = 53 + x} {j = 1073} (omega arith))))

pub mid : (q x k : ℕ) → x + k ≡ 1074 → nearest_whole (q * 2 ^ x) (2 ^ 1074) ≡ nearest_whole q (2 ^ k)
mid q x k h =
    same-nearest (q * 2 ^ x) (2 ^ 1074) q (2 ^ k) (pow_pos 1074) (pow_pos k)
    (mul_assoc q (2 ^ x) (2 ^ k) ∙ ap (λ (y : ℕ). q * y) (sym (pow-add 2 x k) ∙ ap (λ (y : ℕ). 2 ^ y) h))

pub whole_is : (n : ℕ) → nearest_whole n 1 ≡ n
whole_is n = omega arith

pub split : (q x : ℕ) → 1074 ≤ x → q * 2 ^ (x - 1074) * 2 ^ 1074 ≡ q * 2 ^ x * 1
split q x h =
    mul_assoc q (2 ^ (x - 1074)) (2 ^ 1074) ∙ ap (λ (z : ℕ). q * z) (sym (pow-add 2 (x - 1074) 1074) ∙ ap (λ (z : ℕ). 2 ^ z) (back x 1074 h)) ∙ sym (mul-one (q * 2 ^ x))

pub big : (q x : ℕ) → 1074 ≤ x → nearest_whole (q * 2 ^ x) (2 ^ 1074) ≡ q * 2 ^ (x - 1074)
big q x h = sym (same-nearest (q * 2 ^ (x - 1074)) 1 (q * 2 ^ x) (2 ^ 1074) (zero-lt-suc 0) (pow_pos 1074) (split q x h)) ∙ whole_is (q * 2 ^ (x - 1074))

-- from one fraction to another of the same size
pub rescale : (x : Float) (s : Bool) (w l num den : ℕ) → 0 < l → num * l ≡ w * den → HasValue x s w l → HasValue x s num den
rescale (fin t m e) s w l num den p h v = (
  v.0,
  eq_of_mul-eq-mul_right l p (m * up e * den) (num * down e)
      (mul_right_comm (m * up e) den l
      ∙ ap (λ (x : ℕ). x * den) v.1
      ∙ mul_right_comm w (down e) den
      ∙ ap (λ (x : ℕ). x * down e) (sym h)
      ∙ mul_right_comm num l (down e)),
)
rescale nan s w l num den p h v = elim v [ ]
rescale (inf _) s w l num den p h v = elim v [ ]
