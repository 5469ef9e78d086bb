-- Doubles of size at most C, a whole number that is itself a double (`Cap`). Idea: rounding is monotone and leaves a double as it is, so what is from 0 to C before rounding is so after it.
-- Hence sums, differences, products and halves of small doubles are small: finite, and not NaN.
use Rattle.std.specs.Float.{NotNan}
use Rattle.std.proofs.lemmas.Float.{le_left, le_right, le_of_not-lt}
use mathlib.Core.Path.{◌≡◌, refl, sym, ap, ◌∙◌, subst}
use mathlib.Core.Bool.{Bool, true, false, cond, true≢false, not, ◌&&◌, beq}
use Prim.Native.Nat.{ℕ, zero, suc, ◌+◌, ◌-◌, ◌*◌, ◌/◌, ◌^◌, ◌≤◌, ◌<◌, zero-le}
use native.Mathlib.Nat.{le_trans, le_of_eq, le_of_lt, mul-one, one-mul, mul_assoc, mul_comm, mul_left_comm, mul_right_comm, mul-le-mul_right, mul-le-mul_left, le_of_mul-le-mul_right, mul-pos, add-mul, zero-mul}
use native.Mathlib.Omega.{arith}
use lib.IntN.{ℤ, pos, negsuc, nat_abs}
use lib.Dec.{T, ltb, nltb→le, lit<}
use lib.Arith.{le→nltb}
use lib.Pow.{pow-add, pow_pos, shr_lt}
use lib.Ieee.{Float, nan, inf, fin, binary64, up, down, round, units, odd, neg, add, sub, sum, mul, div, le, lt, of_int, unlike, is_nan}
use lib.Ieee.Fits.{down_pos, round_is, and_i}
use lib.Ieee.Exact.{HasValue, round_exact}
use lib.Ieee.Order.{round_mono}
use Rattle.rng_util.specs.SplitMix.{drawn, output_of, grown}
use Rattle.rng_util.specs.Draws.{unit_of}
use Rattle.rng_util.proofs.Units.{unit-value, output-word}
use Rattle.distribution.specs.Validate.{is_finite}
use Rattle.distribution.proofs.Order.{le_not_lt}

-- finite, and of size at most C
abbrev pub Within : ℕ → Float → Type 0
Within C nan = ⊥
Within C (inf s) = ⊥
Within C (fin s m e) = m * up e ≤ C * down e

pub within-finite : (C : ℕ) (x : Float) → Within C x → T (is_finite x)
within-finite C nan p = p
within-finite C (inf s) p = p
within-finite C (fin s m e) p = tt

pub within-number : (C : ℕ) (x : Float) → Within C x → NotNan x
unfolding is_nan
within-number C nan p = p
within-number C (inf s) p = tt
within-number C (fin s m e) p = tt

pub wider : (B C : ℕ) (x : Float) → B ≤ C → Within B x → Within C x
wider B C nan h p = p
wider B C (inf s) h p = p
wider B C (fin s m e) h p = le_trans p (mul-le-mul_right (down e) h)

neg-within : (C : ℕ) (x : Float) → Within C x → Within C (neg x)
unfolding neg
neg-within C nan p = p
neg-within C (inf s) p = p
neg-within C (fin s m e) p = p

-- ---- between two such

cancel : (C m n : ℕ) (e d : ℤ) → m * up e * down d ≤ n * up d * down e → n * up d ≤ C * down d → m * up e ≤ C * down e
cancel C m n e d l q =
    le_of_mul-le-mul_right (le_trans l (le_trans (mul-le-mul_right (down e) q) (le_of_eq (mul_right_comm C (down d) (down e))))) (down_pos d)

-- a size is at most C, and another is C
over : (C x y dx dy : ℕ) → x ≤ C * dx → y * 1 ≡ C * dy → x * dy ≤ y * dx
over C x y dx dy p v = le_trans (mul-le-mul_right dy p) (le_of_eq (mul_right_comm C dx dy ∙ ap (λ (z : ℕ). z * dx) (sym v ∙ mul-one y)))

-- a size is at most any other if it is at most nothing
none-above : (m n k : ℕ) → m ≤ k → T (not (ltb 0 k)) → m ≤ n
none-above m n k h t = omega (arith, nltb→le 0 k t, h)

-- a number that is neither below l nor above h
pub inside : (C : ℕ) (l h x : Float) → Within C l → Within C h → NotNan x → T (not (lt x l)) → T (not (lt h x)) → Within C x
unfolding lt is_nan
inside C nan h x p q z a b = absurd p
inside C (inf t) h x p q z a b = absurd p
inside C (fin t n d) nan x p q z a b = absurd q
inside C (fin t n d) (inf u) x p q z a b = absurd q
inside C (fin t n d) (fin u o c) nan p q z a b = z
inside C (fin t n d) (fin u o c) (inf true) p q z a b = a
inside C (fin t n d) (fin u o c) (inf false) p q z a b = b
inside C (fin true n d) (fin u o c) (fin true m e) p q z a b = cancel C m n e d (nltb→le _ _ a) p
inside C (fin false n d) (fin u o c) (fin true m e) p q z a b = cancel C m n e d (none-above _ _ _ (omega arith) a) p
inside C (fin t n d) (fin false o c) (fin false m e) p q z a b = cancel C m o e c (nltb→le _ _ b) q
inside C (fin t n d) (fin true o c) (fin false m e) p q z a b = cancel C m o e c (none-above _ _ _ (omega arith) b) q

pub between : (C : ℕ) (l h x : Float) → Within C l → Within C h → T (le l x) → T (le x h) → Within C x
between C l h x p q a b =
    let n = le_left x h b in
    inside C l h x p q n (subst T (le_not_lt l x (le_left l x a) n) a) (subst T (le_not_lt x h n (le_right x h b)) b)

-- ---- the double C

abbrev pub Cap : ℕ → Type 0
Cap C = HasValue (round binary64 false C 1) false C 1

-- q × 2 ^ j is one, for a q of at most 53 binary digits
pub cap : (q j : ℕ) → q < 2 ^ 53 → q * 2 ^ (j + 1074) < 2 ^ 2098 → Cap (q * 2 ^ j)
cap q j p h =
    round_exact binary64 false (q * 2 ^ j) 1 q (j + 1074) (pow_pos 0) p h
    (mul_assoc q (2 ^ j) (2 ^ 1074) ∙ ap (λ (z : ℕ). q * z) (sym (pow-add 2 j 1074)) ∙ sym (mul-one (q * 2 ^ (j + 1074))))

-- what has the value C is within C
pub at-value : (C : ℕ) (y : Float) → HasValue y false C 1 → Within C y
at-value C nan v = v
at-value C (inf s) v = v
at-value C (fin s m e) v = le_of_eq (sym (mul-one (m * up e)) ∙ v.1)

-- so is what lies between a double within C and its negative
pub between-limits : (C : ℕ) (y x : Float) → Within C y → T (le (neg y) x) → T (le x y) → Within C x
between-limits C y x p a b = between C (neg y) y x (neg-within C y p) p a b

-- what is within C lies between the double C and its negative
pub up-to : (C : ℕ) (y x : Float) → HasValue y false C 1 → Within C x → T (le (neg y) x && le x y)
unfolding lt neg is_nan
up-to C nan x v p = absurd v
up-to C (inf t) x v p = absurd v
up-to C (fin true n d) x v p = absurd (true≢false v.0)
up-to C (fin false n d) nan v p = absurd p
up-to C (fin false n d) (inf s) v p = absurd p
up-to C (fin false n d) (fin s m e) v p =
    and_i (le (fin true n d) (fin s m e)) (le (fin s m e) (fin false n d))
    (le_of_not-lt (fin s m e) (fin true n d) tt tt (above s)) (le_of_not-lt (fin false n d) (fin s m e) tt tt (below s))
  where
    small : m * up e * down d ≤ n * up d * down e
    small = over C (m * up e) (n * up d) (down e) (down d) p v.1

    above : (s : Bool) → T (not (lt (fin s m e) (fin true n d)))
    above true = le→nltb (n * up d * down e) (m * up e * down d) small
    above false = tt

    below : (s : Bool) → T (not (lt (fin false n d) (fin s m e)))
    below true = tt
    below false = le→nltb (n * up d * down e) (m * up e * down d) small

-- ---- the sign is set apart: rounding with the one sign is the negative of rounding with the other

neg-odd : (d q k l : ℕ) → neg (odd d false q k l) ≡ odd d true q k l
unfolding neg odd
neg-odd d zero k l = refl
neg-odd d (suc q) k l = refl

neg-units : (q k : ℕ) → neg (units binary64 false q k) ≡ units binary64 true q k
unfolding units neg
neg-units q k = go (ltb (q * 2 ^ k) (2 ^ 2098))
  where
    go : (b : Bool) → neg (cond b (odd 54 false q k 1074) (inf false)) ≡ cond b (odd 54 true q k 1074) (inf true)
    go true = neg-odd 54 q k 1074
    go false = refl

neg-round : (a c : ℕ) → neg (round binary64 false a c) ≡ round binary64 true a c
neg-round a c = ap neg (round_is binary64 false a c) ∙ neg-units _ _ ∙ sym (round_is binary64 true a c)

-- ---- rounding

-- a / b is at most C
round-plus : (a b C : ℕ) → 0 < b → Cap C → a ≤ C * b → Within C (round binary64 false a b)
round-plus a b C p h l =
    between C (round binary64 false 0 1) (round binary64 false C 1) (round binary64 false a b) (wider 0 C _ zero-le (at-value 0 _ (cap 0 0 (lit< tt) (lit< tt)))) (at-value C _ h)
    (round_mono binary64 0 1 a b (pow_pos 0) p (le_trans (le_of_eq (zero-mul b)) zero-le))
    (round_mono binary64 a b C 1 p (pow_pos 0) (le_trans (le_of_eq (mul-one a)) l))

pub round-within : (s : Bool) (a b C : ℕ) → 0 < b → Cap C → a ≤ C * b → Within C (round binary64 s a b)
round-within false a b C p h l = round-plus a b C p h l
round-within true a b C p h l = subst (Within C) (neg-round a b) (neg-within C (round binary64 false a b) (round-plus a b C p h l))

-- ---- sums, differences, products, halves

-- over a common denominator
spread : (a K e d : ℕ) → a ≤ K * e → a * d ≤ K * (e * d)
spread a K e d h = le_trans (mul-le-mul_right d h) (le_of_eq (mul_assoc K e d))

sum-within : (A B C : ℕ) (s : Bool) (a : ℕ) (t : Bool) (b c : ℕ) → 0 < c → Cap C → A + B ≤ C → a ≤ A * c → b ≤ B * c → Within C (sum binary64 s a t b c)
unfolding sum
sum-within A B C s a t b c p h f l m = go (beq s t) (ltb a b)
  where
    total : A * c + B * c ≤ C * c
    total = le_trans (le_of_eq (sym (add-mul A B c))) (mul-le-mul_right c f)

    go : (u v : Bool) → Within C (cond u (round binary64 s (a + b) c) (cond v (round binary64 t (b - a) c) (round binary64 (s && ltb b a) (a - b) c)))
    go true v = round-within s (a + b) c C p h (omega (arith, total))
    go false true = round-within t (b - a) c C p h (omega (arith, total))
    go false false = round-within (s && ltb b a) (a - b) c C p h (omega (arith, total))

pub add-within : (A B C : ℕ) (x y : Float) → Cap C → A + B ≤ C → Within A x → Within B y → Within C (add binary64 x y)
unfolding add
add-within A B C nan y h f p q = absurd p
add-within A B C (inf s) y h f p q = absurd p
add-within A B C (fin s m e) nan h f p q = absurd q
add-within A B C (fin s m e) (inf t) h f p q = absurd q
add-within A B C (fin s m e) (fin t n d) h f p q =
    sum-within A B C s (m * up e * down d) t (n * up d * down e) (down e * down d) (mul-pos (down_pos e) (down_pos d)) h f
    (spread (m * up e) A (down e) (down d) p)
    (le_trans (spread (n * up d) B (down d) (down e) q) (le_of_eq (ap (λ (z : ℕ). B * z) (mul_comm (down d) (down e)))))

pub sub_within : (A B C : ℕ) (x y : Float) → Cap C → A + B ≤ C → Within A x → Within B y → Within C (sub binary64 x y)
unfolding sub
sub_within A B C x y h f p q = add-within A B C x (neg y) h f p (neg-within B y q)

both : (a b A B e d : ℕ) → a ≤ A * e → b ≤ B * d → a * b ≤ A * B * (e * d)
both a b A B e d p q =
    le_trans (mul-le-mul_right b p)
    (le_trans (mul-le-mul_left (A * e) q) (le_of_eq (simp (mul_assoc, mul_left_comm) refl)))

pub mul-within : (A B C : ℕ) (x y : Float) → Cap C → A * B ≤ C → Within A x → Within B y → Within C (mul binary64 x y)
unfolding mul
mul-within A B C nan y h f p q = absurd p
mul-within A B C (inf s) y h f p q = absurd p
mul-within A B C (fin s m e) nan h f p q = absurd q
mul-within A B C (fin s m e) (inf t) h f p q = absurd q
mul-within A B C (fin s m e) (fin t n d) h f p q =
    round-within _ (m * up e * (n * up d)) (down e * down d) C (mul-pos (down_pos e) (down_pos d)) h
    (le_trans (both (m * up e) (n * up d) A B (down e) (down d) p q) (mul-le-mul_right (down e * down d) f))

-- by two
pub half-within : (C : ℕ) (x : Float) → Cap C → Within C x → Within C (div binary64 x (fin false 1 (pos 1)))
unfolding div
half-within C nan h p = absurd p
half-within C (inf s) h p = absurd p
half-within C (fin s m e) h p =
    round-within (unlike s false) (m * up e * 1) (1 * 2 ^ 1 * down e) C (omega (arith, down_pos e)) h
    (le_trans (le_of_eq (mul-one (m * up e))) (le_trans p (mul-le-mul_left C (omega arith))))

-- ---- a unit, and a whole number

unit-of : (x : Float) (a c : ℕ) → 0 < c → HasValue x false a c → a ≤ c → Within 1 x
unit-of nan a c p v h = v
unit-of (inf s) a c p v h = v
unit-of (fin s m e) a c p v h =
    le_of_mul-le-mul_right (le_trans (le_of_eq v.1) (le_trans (mul-le-mul_right (down e) h) (le_of_eq (mul_comm c (down e) ∙ ap (λ (z : ℕ). z * c) (sym (one-mul (down e))))))) p

pub unit-within : (word : ℕ) → Within 1 (unit_of (drawn word).output)
unfolding drawn
unit-within word =
    let o = output_of (grown word) in
    let h : o < 2 ^ 64 = output-word (grown word) in
    unit-of (unit_of o) (o / 2 ^ 11) (2 ^ 53) (pow_pos 53) (unit-value o h) (le_of_lt (shr_lt 53 11 h))

pub int-within : (C : ℕ) (z : ℤ) → Cap C → nat_abs z ≤ C → Within C (of_int binary64 z)
unfolding of_int
int-within C (pos n) h l = round-within false n 1 C (pow_pos 0) h (omega arith)
int-within C (negsuc n) h l = round-within true (suc n) 1 C (pow_pos 0) h (omega arith)
