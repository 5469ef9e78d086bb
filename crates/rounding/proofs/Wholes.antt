-- The sign of a double rounded to an integer, from its comparison with zero: a zero of either sign, and a NaN, give 0. And the library's
-- cast to an unsigned number, which is the floor.
use Rattle.std.proofs.Common.{◌≡◌, ℕ, ◌+◌, ◌*◌, ◌/◌, ◌<◌, ◌≤◌, true, false, T, pos, neg_ℤ, sym, refl, ap, ◌∙◌, subst, arith, ltb-false}
use native.Mathlib.Nat.{div-eq_of_lt}
use lib.Ieee.{Float, nan, inf, fin, binary64, lt, of_bits, up, down, to_unsigned}
use lib.Ieee.Fits.{down_pos}
use Rattle.rounding.specs.Floor.{floor_of}
use Rattle.rounding.specs.Round.{whole_size, negative, whole_z}

pub above_zero : (x : Float) → lt (of_bits binary64 0) x ≡ true → whole_z x ≡ pos (whole_size x)
unfolding lt of_bits whole_z negative
above_zero nan e = absurd (subst T (sym e) tt)
above_zero (inf false) e = refl
above_zero (inf true) e = absurd (subst T (sym e) tt)
above_zero (fin false m x) e = refl
above_zero (fin true m x) e = absurd (subst T (sym e) tt)

none : (n d : ℕ) → 0 < d → n ≡ 0 → (2 * n + d) / (2 * d) ≡ 0
none n d h e = div-eq_of_lt (omega arith)

pub not-above : (x : Float) → lt (of_bits binary64 0) x ≡ false → whole_z x ≡ neg_ℤ (pos (whole_size x))
unfolding lt of_bits whole_z negative whole_size
not-above nan e = refl
not-above (inf false) e = absurd (subst T e tt)
not-above (inf true) e = refl
not-above (fin false m x) e =
    let h : m * up x * 1 ≤ 0 * 1 * down x = ltb-false (0 * 1 * down x) (m * up x * 1) e in
    let z : m * up x ≡ 0 = omega arith in
    let g = none (m * up x) (down x) (down_pos x) z in
    ap pos g ∙ sym (ap (λ (n : ℕ). neg_ℤ (pos n)) g)
not-above (fin true m x) e = refl

pub cast_is : (x : Float) → to_unsigned 64 x ≡ floor_of x
unfolding to_unsigned floor_of
cast_is nan = refl
cast_is (inf s) = refl
cast_is (fin s m e) = refl
