-- What a random setting needs of a valid distribution: bounds in order, a step above 0, few steps, some choice.
use Rattle.std.specs.Prelude.{Some, Ok}
use Rattle.std.proofs.Common.{◌≡◌, ◌*◌, ◌/◌, ◌^◌, ◌<◌, ◌≤◌, true, false, not, ◌||◌, T, ℤ, pos, ◌≤ℤ◌, ◌<ℤ◌, unsigned_abs, sym, ap, ◌∙◌, subst, div-lt_iff_lt-mul, arith, ltb-false}
use lib.Ieee.{Float, nan, inf, fin, binary64, up, down, of_bits, lt, sub, div, round, size, span, climb, units, odd}
use lib.Ieee.Fits.{down_pos}
use Rattle.std.proofs.lemmas.Int.{to_z-of_z}
use lib.Count.{count_trailing_zeros}
use Rattle.distribution.specs.declared.CategoricalDistribution.{CategoricalDistribution}
use Rattle.distribution.specs.declared.FloatDistribution.{FloatDistribution}
use Rattle.distribution.specs.declared.IntDistribution.{IntDistribution}
use Rattle.distribution.specs.declared.Distribution.TheVariants as D
use Rattle.distribution.specs.Validate.{is_finite, verdict_of, float_step_fails, quotient_limit, quotient}
use Rattle.distribution.specs.Good.{GoodIntStep}
use Rattle.distribution.proofs.Flags.{neither}
use Rattle.distribution.proofs.FloatRows.{float-step-passes}
use Rattle.distribution.proofs.Meaning.{valid-good}
use Rattle.rounding.specs.Floor.{floor_of}

module _ (d : IntDistribution) (v : verdict_of (D.Int d) ≡ Ok tt) where
  pub in_order : d.low ≤ℤ d.high
  in_order = (valid-good (D.Int d) v).ordered

  pub small_low : unsigned_abs d.low ≤ 2 ^ 53
  small_low = (valid-good (D.Int d) v).small_low

  pub small_high : unsigned_abs d.high ≤ 2 ^ 53
  small_high = (valid-good (D.Int d) v).small_high

pub int-upward : (d : IntDistribution) (s : ℤ) → verdict_of (D.Int d) ≡ Ok tt → d.step ≡ Some s → pos 0 <ℤ s
int-upward d s v e = (subst GoodIntStep e (valid-good (D.Int d) v).good_step).0

-- "Float quotient (high - low)/step over 4,294,967,295" is refused, so the floor is below 2 ^ 32
few : (x : Float) → lt quotient_limit x ≡ false → floor_of x < 2 ^ 32
unfolding quotient_limit floor_of lt round size span climb units odd count_trailing_zeros
few nan e = omega arith
few (inf false) e = absurd (subst T e tt)
few (inf true) e = omega arith
few (fin true m x) e = omega arith
few (fin false m x) e =
    let h : m * up x * 1 ≤ 4294967295 * 1 * down x = ltb-false (4294967295 * 1 * down x) (m * up x * 1) e in
    let q : m * up x / down x < 2 ^ 32 = (div-lt_iff_lt-mul (down_pos x)).1 (omega (arith, down_pos x)) in
    omega arith

pub float_few : (d : FloatDistribution) (s : Float) → verdict_of (D.Float d) ≡ Ok tt → d.step ≡ Some s → floor_of (div binary64 (sub binary64 d.high d.low) s) < 2 ^ 32
unfolding float_step_fails quotient
float_few d s v e =
    let q = div binary64 (sub binary64 d.high d.low) s in
    let passes = float-step-passes d (valid-good (D.Float d) v) in
    few q (neither (not (is_finite s) || not (lt (of_bits binary64 0) s)) (lt quotient_limit q) (ap (float_step_fails d.low d.high) (sym e) ∙ passes)).1

pub some_choice : (d : CategoricalDistribution) → verdict_of (D.Categorical d) ≡ Ok tt → 0 < d.n_choices
some_choice d v = (valid-good (D.Categorical d) v).some_choice

pub ruleset ints_valid = (to_z-of_z, in_order, small_low, small_high, int-upward)
