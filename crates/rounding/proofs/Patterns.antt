-- A double's size and what it rounds to, from its bit pattern: by the range that the exponent is in.
use Rattle.std.proofs.Common.{◌≡◌, ℕ, zero, suc, ◌+◌, ◌-◌, ◌*◌, ◌/◌, ◌%◌, ◌^◌, ◌<◌, ◌≤◌, min, Bool, true, false, cond, not, T, eqb, ltb, leb, ◌⊎◌, sym, refl, ap, ◌∙◌, subst, inl, inr, zero-le, le_trans, lt_of_lt_of_le, le_of_suc-le-suc, mod-lt, zero-lt-suc, eq-or-lt_of_le, div-le_self, arith, lit<, pow_pos, pow_mono, shl_lt, ltb-false, ltb-true, ne_eqb}
use native.Mathlib.Nat.{min-eq_left}
use lib.Ieee.{Float, nan, inf, binary64, odd, round, fits, is_nan, of_fields, to_bits, of_bits}
use lib.Ieee.Bits.{of_bits-fits, of_bits-to_bits}
use lib.Ieee.Exact.{HasValue, odd_sign, round_exact}
use lib.Ieee.Fits.{round-fits}
use lib.Ieee.Back.{whole_unique}
use Rattle.rounding.specs.Round.{nearest_whole, whole_size, round_away}
use Rattle.rounding.proofs.Nearest.{size-at, away-at, tiny, mid, big, whole_is, split, rescale}

-- ---- by the three parts of a pattern

hidden : (t : ℕ) → t < 2 ^ 52 → 4503599627370496 + t < 2 ^ 53
hidden t u = omega arith

-- a pattern whose exponent is neither 0 nor the highest: its digits, the leading one with them, times 2 ^ (x - 1074)
plain : (s : Bool) (x t : ℕ) → suc x < 2047 → of_fields binary64 s (suc x) t ≡ odd 53 s (4503599627370496 + t) x 1074
unfolding of_fields
plain s x t h = ap (λ (b : Bool). cond b (cond (eqb t 0) (inf s) nan) (odd 53 s (4503599627370496 + t) x 1074)) (ne_eqb (suc x) 2047 (λ e. omega arith))

odd-size : (s : Bool) (q x : ℕ) → whole_size (odd 53 s q x 1074) ≡ nearest_whole (q * 2 ^ x) (2 ^ 1074)
odd-size s q x = size-at (odd 53 s q x 1074) s (q * 2 ^ x) (2 ^ 1074) (pow_pos 1074) (odd_sign 53 s q x 1074)

low_field : (s : Bool) (x t : ℕ) → x < 1022 → t < 2 ^ 52 → whole_size (of_fields binary64 s x t) ≡ 0
unfolding of_fields
low_field s zero t h u = odd-size s t 0 ∙ tiny t 0 (omega arith) (omega arith)
low_field s (suc x) t h u = ap whole_size (plain s x t (omega arith)) ∙ odd-size s _ x ∙ tiny _ x (hidden t u) (omega arith)

mid-field : (s : Bool) (x t : ℕ) → 1022 ≤ x → x < 1075 → whole_size (of_fields binary64 s x t) ≡ nearest_whole (4503599627370496 + t) (2 ^ (1075 - x))
mid-field s zero t h u = absurd (omega arith)
mid-field s (suc x) t h u = ap whole_size (plain s x t (omega arith)) ∙ odd-size s _ x ∙ mid _ x (1075 - suc x) (omega arith)

high-field : (s : Bool) (x t : ℕ) → 1075 ≤ x → x < 2047 → whole_size (of_fields binary64 s x t) ≡ (4503599627370496 + t) * 2 ^ (x - 1075)
high-field s zero t h u = absurd (omega arith)
high-field s (suc x) t h u =
    ap whole_size (plain s x t (omega arith)) ∙ odd-size s _ x ∙ big _ x (omega arith) ∙ ap (λ (k : ℕ). (4503599627370496 + t) * 2 ^ k) (omega arith)

away-field : (s : Bool) (x t : ℕ) → x < 2047 → round_away (of_fields binary64 s x t) ≡ round binary64 s (whole_size (of_fields binary64 s x t)) 1
unfolding of_fields
away-field s zero t h = away-at (odd 53 s t 0 1074) s (t * 2 ^ 0) (2 ^ 1074) (odd_sign 53 s t 0 1074)
away-field s (suc x) t h =
    let q = 4503599627370496 + t in
    subst (λ (y : Float). round_away y ≡ round binary64 s (whole_size y) 1) (sym (plain s x t h)) (away-at (odd 53 s q x 1074) s (q * 2 ^ x) (2 ^ 1074) (odd_sign 53 s q x 1074))

keep-field : (s : Bool) (x t : ℕ) → 1075 ≤ x → x < 2047 → t < 2 ^ 52 → T (fits binary64 (of_fields binary64 s x t)) → round_away (of_fields binary64 s x t) ≡ of_fields binary64 s x t
keep-field s zero t h b u p = absurd (omega arith)
keep-field s (suc x) t h b u p =
    let q = 4503599627370496 + t in
    let y = odd 53 s q x 1074 in
    let n = q * 2 ^ (x - 1074) in
    let e : n * 2 ^ 1074 ≡ q * 2 ^ x * 1 = split q x (omega arith) in
    let v : HasValue y s n 1 = rescale y s (q * 2 ^ x) (2 ^ 1074) n 1 (pow_pos 1074) e (odd_sign 53 s q x 1074) in
    let small : q * 2 ^ x < 2 ^ 2098 = lt_of_lt_of_le (shl_lt 53 x (hidden t u)) (pow_mono {i = 53 + x} {j = 2098} (omega arith)) in
    ap round_away (plain s x t b)
    ∙ away-at y s n 1 v
    ∙ ap (λ (z : ℕ). round binary64 s z 1) (size-at y s n 1 (zero-lt-suc 0) v ∙ whole_is n)
    ∙ whole_unique binary64 (round binary64 s n 1) y s n (round-fits binary64 s n 1) (subst (λ (z : Float). T (fits binary64 z)) (plain s x t b) p)
    (round_exact binary64 s n 1 q x (zero-lt-suc 0) (hidden t u) small e) v
    ∙ sym (plain s x t b)

keep-top : (s : Bool) (t : ℕ) → round_away (of_fields binary64 s 2047 t) ≡ of_fields binary64 s 2047 t
unfolding of_fields round_away
keep-top s t = go (eqb t 0)
  where
    go : (b : Bool) → round_away (cond b (inf s) nan) ≡ cond b (inf s) nan
    go true = refl
    go false = refl

top-size : (s : Bool) (t : ℕ) → T (not (is_nan (of_fields binary64 s 2047 t))) → whole_size (of_fields binary64 s 2047 t) ≡ 2 ^ 64
unfolding of_fields is_nan whole_size
top-size s t = go (eqb t 0)
  where
    go : (b : Bool) → T (not (is_nan (cond b (inf s) nan))) → whole_size (cond b (inf s) nan) ≡ 2 ^ 64
    go true h = refl
    go false h = absurd h

-- ---- by the pattern

abbrev pub sign : ℕ → Bool
sign b = leb 9223372036854775808 b

abbrev pub exponent : ℕ → ℕ
exponent b = b % 9223372036854775808 / 4503599627370496

abbrev pub digits : ℕ → ℕ
digits b = b % 4503599627370496

digits_lt : (b : ℕ) → digits b < 2 ^ 52
digits_lt b = mod-lt b (lit< tt)

exponent_lt : (b : ℕ) → exponent b < 2048
exponent_lt b = omega arith

pub low_bits : (b : ℕ) → exponent b < 1022 → whole_size (of_bits binary64 b) ≡ 0
unfolding of_bits
low_bits b h = low_field (sign b) (exponent b) (digits b) h (digits_lt b)

pub mid-bits : (b : ℕ) → 1022 ≤ exponent b → exponent b < 1075 → whole_size (of_bits binary64 b) ≡ nearest_whole (4503599627370496 + digits b) (2 ^ (1075 - exponent b))
unfolding of_bits
mid-bits b h k = mid-field (sign b) (exponent b) (digits b) h k

pub high_bits : (b : ℕ) → 1075 ≤ exponent b → exponent b < 2047 → whole_size (of_bits binary64 b) ≡ (4503599627370496 + digits b) * 2 ^ (exponent b - 1075)
unfolding of_bits
high_bits b h k = high-field (sign b) (exponent b) (digits b) h k

pub top-bits : (b : ℕ) → exponent b ≡ 2047 → T (not (is_nan (of_bits binary64 b))) → whole_size (of_bits binary64 b) ≡ 2 ^ 64
unfolding of_bits
top-bits b e h =
    ap (λ (x : ℕ). whole_size (of_fields binary64 (sign b) x (digits b))) e
    ∙ top-size (sign b) (digits b) (subst (λ (x : ℕ). T (not (is_nan (of_fields binary64 (sign b) x (digits b))))) e h)

pub away-bits : (b : ℕ) → exponent b < 1075 → round_away (of_bits binary64 b) ≡ round binary64 (sign b) (whole_size (of_bits binary64 b)) 1
unfolding of_bits
away-bits b h = away-field (sign b) (exponent b) (digits b) (omega arith)

pub exponent-cases : (b : ℕ) → (exponent b ≡ 2047) ⊎ (exponent b < 2047)
exponent-cases b = eq-or-lt_of_le (le_of_suc-le-suc (exponent_lt b))

pub keep-bits : (b : ℕ) → 1075 ≤ exponent b → round_away (of_bits binary64 b) ≡ of_bits binary64 b
unfolding of_bits
keep-bits b h = go (exponent-cases b)
  where
    go : (exponent b ≡ 2047) ⊎ (exponent b < 2047) → round_away (of_fields binary64 (sign b) (exponent b) (digits b)) ≡ of_fields binary64 (sign b) (exponent b) (digits b)
    go (inl e) = subst (λ (y : ℕ). round_away (of_fields binary64 (sign b) y (digits b)) ≡ of_fields binary64 (sign b) y (digits b)) (sym e) (keep-top (sign b) (digits b))
    go (inr l) = keep-field (sign b) (exponent b) (digits b) h l (digits_lt b) (of_bits-fits binary64 b)

spare : (x : ℕ) → 1022 ≤ x → 1075 - x ≤ 53
spare x h = omega arith

-- below the exponent 1075 the size is below 2 ^ 64, with room to spare
pub under-bits : (b : ℕ) → exponent b < 1075 → min (whole_size (of_bits binary64 b)) (2 ^ 64 - 1) ≡ whole_size (of_bits binary64 b)
under-bits b h = min-eq_left (go (ltb (exponent b) 1022) refl)
  where
    go : (t : Bool) → ltb (exponent b) 1022 ≡ t → whole_size (of_bits binary64 b) ≤ 2 ^ 64 - 1
    go true e = rw (low_bits b (ltb-true (exponent b) 1022 e)) zero-le
    go false e =
        let p : 2 ^ (1075 - exponent b) ≤ 2 ^ 53 = pow_mono {j = 53} (spare (exponent b) (ltb-false (exponent b) 1022 e)) in
        let d = hidden (digits b) (digits_lt b) in
        rw (mid-bits b (ltb-false (exponent b) 1022 e) h)
        (le_trans (div-le_self (2 * (4503599627370496 + digits b) + 2 ^ (1075 - exponent b)) (2 * 2 ^ (1075 - exponent b))) (omega arith))

-- ---- a double that is no NaN is that of its pattern

pub own : (x : Float) → fits binary64 x ≡ true → x ≡ of_bits binary64 (to_bits binary64 x)
own x h = sym (of_bits-to_bits binary64 x (subst T (sym h) tt))

pub own-no-nan : (x : Float) → fits binary64 x ≡ true → T (not (is_nan x)) → T (not (is_nan (of_bits binary64 (to_bits binary64 x))))
own-no-nan x h n = subst (λ (y : Float). T (not (is_nan y))) (own x h) n
