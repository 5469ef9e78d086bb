-- The rows of a Float distribution: each test that fails is a fact, both ways.
use Rattle.std.specs.Prelude.{Option, Some, None}
use mathlib.Core.Path.{◌≡◌, refl, sym, ap, ◌∙◌}
use mathlib.Core.Bool.{false, not, ◌||◌}
use lib.Dec.{T}
use lib.Ieee.{Float, binary64, neg, lt, le, round, size, span, climb, units, odd, of_bits}
use lib.Count.{count_trailing_zeros}
use borrow.Author.Tests.{not-true, not-false}
use Rattle.distribution.specs.declared.FloatDistribution.{FloatDistribution}
use Rattle.distribution.specs.Validate.{is_finite, float_limit, quotient_limit, quotient, float_bound_fails, float_bounds_fail, float_step_fails}
use Rattle.distribution.specs.Good.{GoodBound, GoodFloatStep, GoodFloat}
use Rattle.distribution.proofs.Flags.{holds, held, neither, both-fail}
use Rattle.distribution.proofs.Order.{Number, le_not_lt, finite_number, quotient-number}

limit-finite : T (is_finite float_limit)
unfolding float_limit round size span climb units odd count_trailing_zeros
limit-finite = tt

-limit-finite : T (is_finite (neg float_limit))
unfolding float_limit neg round size span climb units odd count_trailing_zeros
-limit-finite = tt

steps-finite : T (is_finite quotient_limit)
unfolding quotient_limit round size span climb units odd count_trailing_zeros
steps-finite = tt

-- x is at most y exactly when y is not below x
at_most : (x y : Float) → Number x → Number y → lt y x ≡ false → T (le x y)
at_most x y p q e = holds (le_not_lt x y p q ∙ ap not e)

pub not-above : (x y : Float) → Number x → Number y → T (le x y) → lt y x ≡ false
not-above x y p q h = not-true (lt y x) (sym (le_not_lt x y p q) ∙ held (le x y) h)

good-bound : (x : Float) → float_bound_fails x ≡ false → GoodBound x
unfolding float_bound_fails
good-bound x e =
    let a = neither (not (is_finite x) || lt float_limit x) (lt x (neg float_limit)) e in
    let b = neither (not (is_finite x)) (lt float_limit x) a.0 in
    let f : T (is_finite x) = holds (not-false (is_finite x) b.0) in
    let n = finite_number x f in
    record {
      finite = f;
      at_most = at_most x float_limit n (finite_number float_limit limit-finite) b.1;
      at_least = at_most (neg float_limit) x (finite_number (neg float_limit) -limit-finite) n a.1;
    }

bound-passes : (x : Float) → GoodBound x → float_bound_fails x ≡ false
unfolding float_bound_fails
bound-passes x g =
    let n = finite_number x g.finite in
    both-fail
    (both-fail (ap not (held (is_finite x) g.finite)) (not-above x float_limit n (finite_number float_limit limit-finite) g.at_most))
    (not-above (neg float_limit) x (finite_number (neg float_limit) -limit-finite) n g.at_least)

module _ (low high : Float) (l : T (is_finite low)) (h : T (is_finite high)) where
  good-step-float : (s : Option Float) → float_step_fails low high s ≡ false → GoodFloatStep low high s
  unfolding float_step_fails
  good-step-float None e = tt
  good-step-float (Some s) e =
      let a = neither (not (is_finite s) || not (lt (of_bits binary64 0) s)) (lt quotient_limit (quotient low high s)) e in
      let b = neither (not (is_finite s)) (not (lt (of_bits binary64 0) s)) a.0 in
      let f : T (is_finite s) = holds (not-false (is_finite s) b.0) in
      let z : T (lt (of_bits binary64 0) s) = holds (not-false (lt (of_bits binary64 0) s) b.1) in
      record {
        finite = f;
        above_zero = z;
        few = at_most (quotient low high s) quotient_limit (quotient-number low high s l h f z) (finite_number quotient_limit steps-finite) a.1;
      }

  step-float-passes : (s : Option Float) → GoodFloatStep low high s → float_step_fails low high s ≡ false
  unfolding float_step_fails
  step-float-passes None g = refl
  step-float-passes (Some s) g =
      both-fail
      (both-fail (ap not (held (is_finite s) g.finite)) (ap not (held (lt (of_bits binary64 0) s) g.above_zero)))
      (not-above (quotient low high s) quotient_limit (quotient-number low high s l h g.finite g.above_zero) (finite_number quotient_limit steps-finite) g.few)

-- ---- the rows

pub good-float : (d : FloatDistribution) → float_bounds_fail d.low d.high ≡ false → d.log_scale ≡ false → float_step_fails d.low d.high d.step ≡ false → GoodFloat d
unfolding float_bounds_fail
good-float d e g t =
    let a = neither (float_bound_fails d.low || float_bound_fails d.high) (lt d.high d.low) e in
    let b = neither (float_bound_fails d.low) (float_bound_fails d.high) a.0 in
    let l = good-bound d.low b.0 in
    let h = good-bound d.high b.1 in
    record {
      good_low = l;
      good_high = h;
      ordered = at_most d.low d.high (finite_number d.low l.finite) (finite_number d.high h.finite) a.1;
      not_log = g;
      good_step = good-step-float d.low d.high l.finite h.finite d.step t;
    }

pub float-bounds-pass : (d : FloatDistribution) → GoodFloat d → float_bounds_fail d.low d.high ≡ false
unfolding float_bounds_fail
float-bounds-pass d g =
    both-fail (both-fail (bound-passes d.low g.good_low) (bound-passes d.high g.good_high))
    (not-above d.low d.high (finite_number d.low g.good_low.finite) (finite_number d.high g.good_high.finite) g.ordered)

pub float-step-passes : (d : FloatDistribution) → GoodFloat d → float_step_fails d.low d.high d.step ≡ false
float-step-passes d g = step-float-passes d.low d.high g.good_low.finite g.good_high.finite d.step g.good_step
