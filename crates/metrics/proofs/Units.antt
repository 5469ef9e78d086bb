-- Doubles as multiples of the smallest one, the unit: how far a fraction n / c units is from them, and their bit patterns.
-- A double is a multiple of 2^k units, or it is below 2^(prec - 1) * 2^k, which lies between it and the fraction.
use Prim.Native.Nat.{ℕ, zero, suc, ◌+◌, ◌-◌, ◌*◌, ◌/◌, ◌%◌, ◌^◌, ◌≤◌, ◌<◌, zero-le}
use mathlib.Core.Path.{◌≡◌, refl, sym, ap, ◌∙◌, subst}
use mathlib.Core.Bool.{Bool, true, false, ◌&&◌, beq, cond}
use native.Mathlib.Nat.{suc-mul, add-mul, mul-sub, mul_comm, mul_assoc, mul_right_comm, mul-one, zero-mul, mul-pos, mul-mod_left, mul-div_cancel, mul-le-mul_right, le_trans, le_of_eq, lt_of_le_of_lt, lt_of_lt_of_le, lt_irrefl, le_of_mul-le-mul_right, eq_of_mul-eq-mul_right, le-div_iff_mul-le, pow-suc}
use native.Mathlib.Omega.{arith}
use lib.IntN.{ℤ, pos, negsuc}
use lib.Dec.{T, leb, ltb, eqb, leb→le, ltb→lt}
use lib.Pow.{pow-add, pow_pos, pow_mono, pow-lt, shl_lt}
use lib.Ieee.{Float, fin, Format, prec, emax, low, up, down, size, fits, to_bits, of_bits, hid, ones, top, inf, nan}
use lib.Ieee.Bits.{of_bits-to_bits}
use lib.Ieee.Digits.{size_reaches, back}
use lib.Ieee.Exact.{HasValue}
use lib.Ieee.Fits.{two, down_pos, and_l, and_r}
use lib.Ieee.Order.{drop, kept}
use lib.Ieee.Positive.{den}
use lib.Ieee.Scale.{grid}
use borrow.Author.Tests.{leb-true, leb-false}
use Rattle.metrics.specs.Nearest.{gap, apart}
use Rattle.metrics.proofs.Near.{closest-best}

-- ---- a number of units X, written M * 2^j with a significand M that the format holds
power-order : (i j : ℕ) → 2 ^ i ≤ 2 ^ j → i ≤ j
power-order i j h = go (leb i j) refl
  where
    go : (b : Bool) → leb i j ≡ b → i ≤ j
    go true e = leb-true i j e
    go false e = absurd (lt_irrefl (2 ^ j) (lt_of_lt_of_le (pow-lt (leb-false i j e)) h))

fewer-units : (n x b c : ℕ) → x * c + c ≤ b * c → b * c ≤ n → 0 < c → gap n (b * c) < gap n (x * c)
fewer-units n x b c h k p = omega arith

module _ (f : Format) (a c : ℕ) (pos-c : 0 < c) where
  abbrev n : ℕ
  n = a * 2 ^ low f

  abbrev k : ℕ
  k = drop (prec f) n c

  abbrev q : ℕ
  q = kept (prec f) n c

  unit-pos : 0 < c * 2 ^ k
  unit-pos = mul-pos pos-c (pow_pos k)

  -- m multiples of 2^k units, times c
  times : (m : ℕ) → m * 2 ^ k * c ≡ m * (c * 2 ^ k)
  times m = mul_assoc m (2 ^ k) c ∙ ap (λ (z : ℕ). m * z) (mul_comm (2 ^ k) c)

  -- no number of 2^k units is nearer, and at a tie q is even
  abbrev Best : ℕ → Type 0
  Best x = (gap n (grid f a c * c) ≤ gap n (x * c)) × (gap n (grid f a c * c) ≡ gap n (x * c) → (x ≡ grid f a c → ⊥) → q % 2 ≡ 0)

  multiple : (p : ℕ) → Best (p * 2 ^ k)
  multiple p =
      let b = closest-best n (c * 2 ^ k) p unit-pos in
      rw (times q, times p) (b.0, λ e ne. b.1 e (λ z. ne (ap (λ (m : ℕ). m * 2 ^ k) z)))

  all-digits : 0 < k → prec f - 1 + k < size (n / c)
  all-digits h = omega (arith, two f)

  reached : 0 < k → 2 ^ (prec f - 1) * 2 ^ k * c ≤ n
  reached h = (le-div_iff_mul-le pos-c).0 (subst (λ (z : ℕ). z ≤ n / c) (pow-add 2 (prec f - 1) k) (size_reaches (n / c) (prec f - 1 + k) (all-digits h)))

  short : (m j : ℕ) → m < 2 ^ prec f → j < k → m * 2 ^ j < 2 ^ (prec f - 1) * 2 ^ k
  short m j l h =
      lt_of_lt_of_le (shl_lt (prec f) j l) (le_trans (pow_mono {i = prec f + j} {j = prec f - 1 + k} (omega (arith, two f))) (le_of_eq (pow-add 2 (prec f - 1) k)))

  below : (m j : ℕ) → m < 2 ^ prec f → j < k → Best (m * 2 ^ j)
  below m j l h =
      let x = m * 2 ^ j in
      let b = 2 ^ (prec f - 1) * 2 ^ k in
      let g : gap n (b * c) < gap n (x * c) = fewer-units n x b c (subst (λ (z : ℕ). z ≤ b * c) (suc-mul x c) (mul-le-mul_right c (short m j l h))) (reached (lt_of_le_of_lt zero-le h)) pos-c in
      let s : gap n (grid f a c * c) < gap n (x * c) = lt_of_le_of_lt (multiple (2 ^ (prec f - 1))).0 g in
      (omega arith, λ e ne. absurd (lt_irrefl (gap n (x * c)) (subst (λ (z : ℕ). z < gap n (x * c)) e s)))

  pub best : (m j : ℕ) → m < 2 ^ prec f → Best (m * 2 ^ j)
  best m j l = go (leb k j) refl
    where
      go : (b : Bool) → leb k j ≡ b → Best (m * 2 ^ j)
      go true e =
          let h = leb-true k j e in
          subst Best (mul_assoc m (2 ^ (j - k)) (2 ^ k) ∙ ap (λ (z : ℕ). m * z) (sym (pow-add 2 (j - k) k) ∙ ap (λ (z : ℕ). 2 ^ z) (back j k h))) (multiple (m * 2 ^ (j - k)))
      go false e = below m j l (leb-false k j e)

-- ---- a double in units
pub data InUnits (f : Format) (x : Float) (t : Bool) : Type 0 where
  in_units : (m j : ℕ) → m < 2 ^ prec f → HasValue x t (m * 2 ^ j) (2 ^ low f) → InUnits f x t

module _ (f : Format) (t : Bool) (m : ℕ) (e : ℤ) (h : T (fits f (fin t (suc m) e))) where
  parts : (suc m < 2 ^ prec f) × (down e ≤ 2 ^ low f)
  unfolding fits
  parts =
      let x : Bool = eqb (suc m % 2) 1 in
      let y : Bool = ltb (suc m) (2 ^ prec f) in
      let z : Bool = leb (down e) (2 ^ low f) in
      let w : Bool = ltb (suc m * up e) (2 ^ suc (emax f) * down e) in
      (ltb→lt (suc m) (2 ^ prec f) (and_r x y (and_l (x && y) z (and_l (x && y && z) w h))), leb→le (down e) (2 ^ low f) (and_r (x && y) z (and_l (x && y && z) w h)))

pub in-units : (f : Format) (t : Bool) (m : ℕ) (e : ℤ) → T (fits f (fin t m e)) → InUnits f (fin t m e) t
in-units f t zero e h = in_units 0 0 (pow_pos (prec f)) (refl, ap (λ (z : ℕ). z * 2 ^ low f) (zero-mul (up e)) ∙ zero-mul (2 ^ low f) ∙ sym (zero-mul (down e)))
in-units f t (suc m) (pos i) h =
    in_units (suc m) (i + low f) (parts f t m (pos i) h).0
    (refl, mul_assoc (suc m) (2 ^ i) (2 ^ low f) ∙ ap (λ (z : ℕ). suc m * z) (sym (pow-add 2 i (low f))) ∙ sym (mul-one (suc m * 2 ^ (i + low f))))
in-units f t (suc m) (negsuc i) h =
    let l = power-order (suc i) (low f) (parts f t m (negsuc i) h).1 in
    in_units (suc m) (low f - suc i) (parts f t m (negsuc i) h).0
    (refl, ap (λ (z : ℕ). z * 2 ^ low f) (mul-one (suc m)) ∙ ap (λ (z : ℕ). suc m * z) (ap (λ (z : ℕ). 2 ^ z) (sym (back (low f) (suc i) l)) ∙ pow-add 2 (low f - suc i) (suc i)) ∙ sym (mul_assoc (suc m) (2 ^ (low f - suc i)) (2 ^ suc i)))

-- ---- distances in units
sub-times : (x y z : ℕ) → (x - y) * z ≡ x * z - y * z
sub-times x y z = mul_comm (x - y) z ∙ mul-sub z x y ∙ ap (λ (w : ℕ). w - z * y) (mul_comm z x) ∙ ap (λ (w : ℕ). x * z - w) (mul_comm z y)

gap-times : (x y z : ℕ) → gap x y * z ≡ gap (x * z) (y * z)
gap-times x y z = add-mul (x - y) (y - x) z ∙ ap (λ (w : ℕ). w + (y - x) * z) (sub-times x y z) ∙ ap (λ (w : ℕ). (x * z - y * z) + w) (sub-times y x z)

-- from ±n / c to ±x units, times c
abbrev pub away : Bool → ℕ → ℕ → ℕ → ℕ
away like n c x = cond like (gap n (x * c)) (n + x * c)

scaled : (like : Bool) (a c d l w x : ℕ) → w * l ≡ x * d → cond like (gap (a * d) (w * c)) (a * d + w * c) * l ≡ away like (a * l) c x * d
scaled like a c d l w x v =
    let left : a * d * l ≡ a * l * d = mul_right_comm a d l in
    let right : w * c * l ≡ x * c * d = mul_right_comm w c l ∙ ap (λ (z : ℕ). z * c) v ∙ mul_right_comm x d c in
    go like left right
  where
    go : (b : Bool) → a * d * l ≡ a * l * d → w * c * l ≡ x * c * d → cond b (gap (a * d) (w * c)) (a * d + w * c) * l ≡ away b (a * l) c x * d
    go true p r = gap-times (a * d) (w * c) l ∙ ap (λ (z : ℕ). gap z (w * c * l)) p ∙ ap (gap (a * l * d)) r ∙ sym (gap-times (a * l) (x * c) d)
    go false p r = add-mul (a * d) (w * c) l ∙ ap (λ (z : ℕ). z + w * c * l) p ∙ ap (λ (z : ℕ). a * l * d + z) r ∙ sym (add-mul (a * l) (x * c) d)

pub apart-is : (f : Format) (s : Bool) (a c : ℕ) (x : Float) (t : Bool) (w : ℕ) → HasValue x t w (2 ^ low f) → apart s a c x * 2 ^ low f ≡ away (beq s t) (a * 2 ^ low f) c w * den x
apart-is f s a c (fin u m e) t w v =
    scaled (beq s u) a c (down e) (2 ^ low f) (m * up e) w v.1 ∙ ap (λ (b : Bool). away (beq s b) (a * 2 ^ low f) c w * down e) v.0
apart-is f s a c nan t w v = elim v [ ]
apart-is f s a c (inf _) t w v = elim v [ ]

-- p / (l ..) and r / (l ..) are the distances y * d and z * e in units
pub cross : (p r y z d e l : ℕ) → 0 < l → p * l ≡ y * d → r * l ≡ z * e → y ≤ z → p * e ≤ r * d
cross p r y z d e l pos-l g h k =
    le_of_mul-le-mul_right
    (le_trans (le_of_eq (mul_right_comm p e l ∙ ap (λ (w : ℕ). w * e) g ∙ mul_assoc y d e))
    (le_trans (mul-le-mul_right (d * e) k) (le_of_eq (ap (λ (w : ℕ). z * w) (mul_comm d e) ∙ sym (mul_assoc z e d) ∙ ap (λ (w : ℕ). w * d) (sym h) ∙ mul_right_comm r l d))))
    pos-l

pub cross-eq : (p r y z d e l : ℕ) → 0 < d → 0 < e → p * l ≡ y * d → r * l ≡ z * e → p * e ≡ r * d → y ≡ z
cross-eq p r y z d e l D E g h k =
    eq_of_mul-eq-mul_right (d * e) (mul-pos D E) y z
    (sym (mul_assoc y d e) ∙ ap (λ (w : ℕ). w * e) (sym g) ∙ mul_right_comm p l e ∙ ap (λ (w : ℕ). w * l) k ∙ mul_right_comm r d l ∙ ap (λ (w : ℕ). w * d) h ∙ mul_assoc z e d ∙ ap (λ (w : ℕ). z * w) (mul_comm e d))

-- ---- bit patterns
pub pattern-of : Format → Bool → ℕ → ℕ
pattern-of f s w = cond s (top f) 0 + (size w - prec f) * hid f + w / 2 ^ (size w - prec f)

pub bits-by-value : (f : Format) (x : Float) (s : Bool) (w : ℕ) → HasValue x s w (2 ^ low f) → to_bits f x ≡ pattern-of f s w
unfolding to_bits pattern-of
bits-by-value f (fin u m e) s w v =
    let is : m * up e * 2 ^ low f / down e ≡ w = ap (λ (z : ℕ). z / down e) v.1 ∙ mul-div_cancel w (down_pos e) in
    ap (λ (z : ℕ). cond u (top f) 0 + (size z - prec f) * hid f + z / 2 ^ (size z - prec f)) is
    ∙ ap (λ (b : Bool). cond b (top f) 0 + (size w - prec f) * hid f + w / 2 ^ (size w - prec f)) v.0
bits-by-value f nan s w v = elim v [ ]
bits-by-value f (inf _) s w v = elim v [ ]

pub same-double : (f : Format) (x y : Float) (s : Bool) (w : ℕ) → T (fits f x) → T (fits f y) → HasValue x s w (2 ^ low f) → HasValue y s w (2 ^ low f) → x ≡ y
same-double f x y s w p r v u = sym (of_bits-to_bits f x p) ∙ ap (of_bits f) (bits-by-value f x s w v ∙ sym (bits-by-value f y s w u)) ∙ of_bits-to_bits f y r

abbrev pub Even : ℕ → Type 0
Even x = (h : ℕ) × (x ≡ h * 2)

even_sum : (x y : ℕ) → Even x → Even y → Even (x + y)
even_sum x y p r = (p.0 + r.0, omega (arith, p.1, r.1))

even-times : (x y : ℕ) → Even x → Even (x * y)
even-times x y p = (p.0 * y, ap (λ (z : ℕ). z * y) p.1 ∙ mul_right_comm p.0 2 y)

even-mod : (x : ℕ) → Even x → x % 2 ≡ 0
even-mod x p = ap (λ (z : ℕ). z % 2) p.1 ∙ mul-mod_left p.0 2

pub halves : (x : ℕ) → x % 2 ≡ 0 → Even x
halves x e = (x / 2, omega arith)

pub hid-even : (f : Format) → Even (hid f)
hid-even f = let e : prec f - 1 ≡ suc (prec f - 2) = omega (arith, two f) in (2 ^ (prec f - 2), ap (λ (z : ℕ). 2 ^ z) e ∙ pow-suc 2 (prec f - 2))

-- w is m * 2^i, of which the pattern cuts i digits at most: what is left is even where m is
pub cut-even : (m i j : ℕ) → Even m → j ≤ i → Even (m * 2 ^ i / 2 ^ j)
cut-even m i j p l =
    subst Even (sym (ap (λ (z : ℕ). z / 2 ^ j) (ap (λ (z : ℕ). m * z) (ap (λ (z : ℕ). 2 ^ z) (sym (back i j l)) ∙ pow-add 2 (i - j) j) ∙ sym (mul_assoc m (2 ^ (i - j)) (2 ^ j))) ∙ mul-div_cancel (m * 2 ^ (i - j)) (pow_pos j)))
    (even-times m (2 ^ (i - j)) p)

pub pattern-even : (f : Format) (s : Bool) (w : ℕ) → Even (w / 2 ^ (size w - prec f)) → pattern-of f s w % 2 ≡ 0
unfolding pattern-of
pattern-even f s w p =
    even-mod (pattern-of f s w)
    (even_sum (cond s (top f) 0 + (size w - prec f) * hid f) (w / 2 ^ (size w - prec f))
    (even_sum (cond s (top f) 0) ((size w - prec f) * hid f) (either s) (subst Even (mul_comm (hid f) (size w - prec f)) (even-times (hid f) (size w - prec f) (hid-even f))))
    p)
  where
    either : (b : Bool) → Even (cond b (top f) 0)
    either true = even-times (hid f) (suc (ones f)) (hid-even f)
    either false = (0, refl)

pub beq-self : (b : Bool) → beq b b ≡ true
beq-self true = refl
beq-self false = refl

pub beq_same : (b d : Bool) → beq b d ≡ true → d ≡ b
beq_same true true e = refl
beq_same true false e = absurd (subst T (sym e) tt)
beq_same false true e = absurd (subst T (sym e) tt)
beq_same false false e = refl

pub from_zero : (n c : ℕ) → gap n (0 * c) ≡ n
from_zero n c = rw (zero-mul c) (omega arith)
