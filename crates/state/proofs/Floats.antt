-- Tests of one double: which one is a number, which is plus zero, that the code's tests say so, and the code's limit as the definition's.
use Prim.Native.Nat.{zero, suc}
use mathlib.Core.Path.{◌≡◌, refl, sym, ap, subst, ◌∙◌}
use mathlib.Core.Bool.{Bool, true, false, not, true≢false}
use borrow.Author.Tests.{eqb-true}
use lib.Dec.{T, eqb}
use lib.IntN.{pos, negsuc}
use lib.Ieee.{Float, nan, inf, fin, binary64, fits, is_nan, round, size, span, climb, units, odd, of_bits, of_fields, to_bits}
use lib.Ieee.Bits.{of_bits-to_bits}
use lib.Count.{count_trailing_zeros}
use Rattle.common.specs.Bounds.{zero_f}
use Rattle.ledger.specs.Soundness.{is_number}
use Rattle.kernel.specs.Fits.{is_zero, entry_limit}

pub number_is : (v : Float) → not (is_nan v) ≡ is_number v
unfolding is_nan
number_is nan = refl
number_is (inf s) = refl
number_is (fin s m e) = refl

-- 4e300, as the machine holds it
pub limit_held : of_bits binary64 9103996120383649180 ≡ entry_limit
unfolding of_bits of_fields entry_limit round size span climb units odd count_trailing_zeros
limit_held = refl

-- ---- plus zero, and no other double

pub zero-true : (v : Float) → is_zero v ≡ true → v ≡ zero_f
unfolding of_bits of_fields odd count_trailing_zeros
zero-true nan e = absurd (true≢false (sym e))
zero-true (inf s) e = absurd (true≢false (sym e))
zero-true (fin true m d) e = absurd (true≢false (sym e))
zero-true (fin false (suc m) d) e = absurd (true≢false (sym e))
zero-true (fin false zero (negsuc k)) e = absurd (true≢false (sym e))
zero-true (fin false zero (pos (suc k))) e = absurd (true≢false (sym e))
zero-true (fin false zero (pos zero)) e = refl

pub zero-is-zero : is_zero zero_f ≡ true
unfolding of_bits of_fields odd count_trailing_zeros
zero-is-zero = refl

zero-bits-zero : eqb (to_bits binary64 zero_f) 0 ≡ true
unfolding to_bits of_bits
zero-bits-zero = refl

-- NaN is none
pub zero-nan : (v : Float) (b : Bool) → b ≡ is_nan v → b ≡ true → not b ≡ is_zero v
unfolding is_nan
zero-nan nan b e q = ap not q
zero-nan (inf s) b e q = absurd (true≢false (sym q ∙ e))
zero-nan (fin s m d) b e q = absurd (true≢false (sym q ∙ e))

-- of the others the bits decide
pub zero_bits : (v : Float) → fits binary64 v ≡ true → eqb (to_bits binary64 v) 0 ≡ is_zero v
zero_bits v f = go (eqb (to_bits binary64 v) 0) (is_zero v) refl refl
  where
    go : (a b : Bool) → eqb (to_bits binary64 v) 0 ≡ a → is_zero v ≡ b → a ≡ b
    go true true x y = refl
    go false false x y = refl
    go true false x y =
        let e : v ≡ zero_f = sym (of_bits-to_bits binary64 v (subst T (sym f) tt)) ∙ ap (of_bits binary64) (eqb-true (to_bits binary64 v) 0 x) in
        absurd (true≢false (sym zero-is-zero ∙ ap is_zero (sym e) ∙ y))
    go false true x y = absurd (true≢false (sym zero-bits-zero ∙ ap (λ (u : Float). eqb (to_bits binary64 u) 0) (sym (zero-true v y)) ∙ x))

pub ruleset zeros = (zero-nan, zero_bits)
