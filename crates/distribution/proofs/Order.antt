-- Doubles that are not NaN are in order one way or the other, and a rounded number is never NaN: so neither is the quotient of a
-- finite gap by a finite step above 0.
use mathlib.Core.Path.{◌≡◌, refl, sym, ◌∙◌, subst}
use mathlib.Core.Bool.{Bool, true, false, not, ◌&&◌, ◌||◌, cond, beq, true≢false}
use Prim.Native.Nat.{ℕ, zero, suc, ◌+◌, ◌-◌, ◌*◌, ◌^◌}
use native.Mathlib.Nat.{zero-mul}
use native.Mathlib.Omega.{arith}
use lib.Dec.{T, ltb, eqb, eqb-suc-zero}
use lib.Ieee.{Float, nan, inf, fin, binary64, up, down, below, level, unlike, neg, add, sub, sum, div, round, units, odd, lt, eq, le, is_nan, of_bits, of_fields}
use lib.Ieee.Fits.{round_is}
use borrow.Author.Tests.{ltb-true, ltb-false, eqb-true, eqb-false, eq-eqb}
use Rattle.distribution.specs.Validate.{is_finite, quotient}

-- ---- at most is not above

-- of two sizes, y being whether they are equal
sizes : (a b : ℕ) (y : Bool) → (y ≡ true → a ≡ b) → (a ≡ b → y ≡ true) → (ltb a b || y && true) ≡ not (ltb b a)
sizes a b y p q = go (ltb a b) refl y refl (ltb b a) refl
  where
    go : (x : Bool) → ltb a b ≡ x → (w : Bool) → y ≡ w → (z : Bool) → ltb b a ≡ z → (x || w && true) ≡ not z
    go true e w f true g = let h = ltb-true a b e in let k = ltb-true b a g in absurd (omega arith)
    go true e w f false g = refl
    go false e true f true g = let h = p f in let k = ltb-true b a g in absurd (omega arith)
    go false e true f false g = refl
    go false e false f true g = refl
    go false e false f false g =
        let h = ltb-false a b e in
        let k = ltb-false b a g in
        absurd (true≢false (sym (q (omega arith)) ∙ f))

-- of a size above zero and one below it: in order where both are zero
zeros : (a b : ℕ) → (eqb a b && eqb a 0) ≡ not (ltb 0 (b + a))
zeros a b = go (eqb a b) refl (eqb a 0) refl (ltb 0 (b + a)) refl
  where
    go : (x : Bool) → eqb a b ≡ x → (y : Bool) → eqb a 0 ≡ y → (z : Bool) → ltb 0 (b + a) ≡ z → (x && y) ≡ not z
    go true e true f true g = let h = eqb-true a b e in let i = eqb-true a 0 f in let k = ltb-true 0 (b + a) g in absurd (omega arith)
    go true e true f false g = refl
    go true e false f true g = refl
    go true e false f false g = let k = ltb-false 0 (b + a) g in absurd (eqb-false a 0 f (omega arith))
    go false e y f true g = refl
    go false e y f false g = let k = ltb-false 0 (b + a) g in absurd (eqb-false a b e (omega arith))

-- and of one below zero and one above it: always in order
apart : (a b : ℕ) → (ltb 0 (a + b) || (eqb a b && eqb a 0)) ≡ true
apart a b = go (ltb 0 (a + b)) refl
  where
    go : (x : Bool) → ltb 0 (a + b) ≡ x → (x || (eqb a b && eqb a 0)) ≡ true
    go true e = refl
    go false e = let k = ltb-false 0 (a + b) e in simp (eq-eqb a b (omega arith), eq-eqb a 0 (omega arith))

signed : (s : Bool) (a : ℕ) (t : Bool) (b : ℕ) → (below s a t b || level s a t b) ≡ not (below t b s a)
signed false a false b = sizes a b (eqb a b) (eqb-true a b) (eq-eqb a b)
signed false a true b = zeros a b
signed true a false b = apart a b
signed true a true b = sizes b a (eqb a b) (λ e. sym (eqb-true a b e)) (λ e. eq-eqb a b (sym e))

pub le_not_lt : (x y : Float) → T (not (is_nan x)) → T (not (is_nan y)) → le x y ≡ not (lt y x)
unfolding le lt eq is_nan
le_not_lt nan y p q = absurd p
le_not_lt (inf s) nan p q = absurd q
le_not_lt (inf true) (inf true) p q = refl
le_not_lt (inf true) (inf false) p q = refl
le_not_lt (inf false) (inf true) p q = refl
le_not_lt (inf false) (inf false) p q = refl
le_not_lt (inf true) (fin t n d) p q = refl
le_not_lt (inf false) (fin t n d) p q = refl
le_not_lt (fin s m e) nan p q = absurd q
le_not_lt (fin s m e) (inf true) p q = refl
le_not_lt (fin s m e) (inf false) p q = refl
le_not_lt (fin s m e) (fin t n d) p q = signed s (m * up e * down d) t (n * up d * down e)

-- ---- no NaN

abbrev pub Number : Float → Type 0
Number x = T (not (is_nan x))

pub finite_number : (x : Float) → T (is_finite x) → Number x
unfolding is_nan
finite_number nan h = h
finite_number (inf s) h = tt
finite_number (fin s m e) h = tt

odd_number : (d : ℕ) (s : Bool) (q k l : ℕ) → Number (odd d s q k l)
unfolding odd is_nan
odd_number d s zero k l = tt
odd_number d s (suc q) k l = tt

units_number : (s : Bool) (q k : ℕ) → Number (units binary64 s q k)
unfolding units is_nan
units_number s q k = go (ltb (q * 2 ^ k) (2 ^ 2098))
  where
    go : (b : Bool) → Number (cond b (odd 54 s q k 1074) (inf s))
    go true = odd_number 54 s q k 1074
    go false = tt

round_number : (s : Bool) (a b : ℕ) → Number (round binary64 s a b)
round_number s a b = subst Number (sym (round_is binary64 s a b)) (units_number s _ _)

sum_number : (s : Bool) (a : ℕ) (t : Bool) (b c : ℕ) → Number (sum binary64 s a t b c)
unfolding sum
sum_number s a t b c = go (beq s t) (ltb a b)
  where
    go : (x y : Bool) → Number (cond x (round binary64 s (a + b) c) (cond y (round binary64 t (b - a) c) (round binary64 (s && ltb b a) (a - b) c)))
    go true y = round_number s (a + b) c
    go false true = round_number t (b - a) c
    go false false = round_number (s && ltb b a) (a - b) c

sub_number : (x y : Float) → T (is_finite x) → T (is_finite y) → Number (sub binary64 x y)
unfolding sub add neg
sub_number nan y p q = absurd p
sub_number (inf s) y p q = absurd p
sub_number (fin s m e) nan p q = absurd q
sub_number (fin s m e) (inf t) p q = absurd q
sub_number (fin s m e) (fin t n d) p q = sum_number s (m * up e * down d) (not t) (n * up d * down e) (down e * down d)

div-number : (x y : Float) → Number x → T (is_finite y) → T (lt (of_bits binary64 0) y) → Number (div binary64 x y)
unfolding div lt of_bits of_fields odd is_nan
div-number x nan p q h = absurd q
div-number x (inf t) p q h = absurd q
div-number nan (fin t n d) p q h = p
div-number (inf s) (fin t n d) p q h = tt
div-number (fin s m e) (fin true zero d) p q h = absurd h
div-number (fin s m e) (fin false zero d) p q h = absurd (simp zero-mul at h)
div-number (fin s m e) (fin t (suc n) d) p q h =
    subst (λ (b : Bool). Number (cond b (cond (eqb m 0) nan (inf (unlike s t))) (round binary64 (unlike s t) (m * up e * down d) (suc n * up d * down e))))
    (sym (eqb-suc-zero n)) (round_number (unlike s t) (m * up e * down d) (suc n * up d * down e))

pub quotient-number : (low high s : Float) → T (is_finite low) → T (is_finite high) → T (is_finite s) → T (lt (of_bits binary64 0) s) → Number (quotient low high s)
unfolding quotient
quotient-number low high s p q f h = div-number (sub binary64 high low) s (sub_number high low q p) f h
