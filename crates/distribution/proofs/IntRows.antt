-- The rows of an Int distribution: each test that fails is a fact, both ways. A step that passes is a natural number.
use Rattle.std.specs.Prelude.{Option, Some, None, is_some}
use mathlib.Core.Path.{◌≡◌, refl, sym, ap, ◌∙◌}
use mathlib.Core.Bool.{Bool, true, false, not, ◌&&◌, ◌||◌, true≢false}
use Prim.Native.Nat.{ℕ, ◌≤◌, ◌<◌}
use lib.Dec.{leb, ltb, leb→le, ltb→lt}
use lib.IntN.{ℤ, pos, negsuc, nat_abs}
use lib.Signed.{lt_z, le_z, ◌≤ℤ◌, ◌<ℤ◌}
use borrow.Author.Tests.{ltb-true, ltb-false, le-leb, lt-leb, le-ltb, not-true, not-false}
use Rattle.distribution.specs.declared.IntDistribution.{IntDistribution}
use Rattle.distribution.specs.Validate.{int_limit, ladder_limit, int_bound_fails, int_bounds_fail, no_ladder, int_step_fails}
use Rattle.distribution.specs.Good.{GoodIntStep, GoodLadder, GoodInt}
use Rattle.distribution.proofs.Flags.{holds, held, neither, both-fail}

-- ---- a is at most b exactly when b is not below a

leb-not-ltb : (a b : ℕ) → leb a b ≡ not (ltb b a)
leb-not-ltb a b = go (ltb b a) refl
  where
    go : (x : Bool) → ltb b a ≡ x → leb a b ≡ not x
    go true e = lt-leb a b (ltb-true b a e)
    go false e = le-leb a b (ltb-false b a e)

le_z_not_lt_z : (a b : ℤ) → le_z a b ≡ not (lt_z b a)
le_z_not_lt_z (pos a) (pos b) = leb-not-ltb a b
le_z_not_lt_z (pos a) (negsuc b) = refl
le_z_not_lt_z (negsuc a) (pos b) = refl
le_z_not_lt_z (negsuc a) (negsuc b) = leb-not-ltb b a

at_most : (a b : ℤ) → lt_z b a ≡ false → a ≤ℤ b
at_most a b e = record { le = holds (le_z_not_lt_z a b ∙ ap not e) }

not-above : (a b : ℤ) → a ≤ℤ b → lt_z b a ≡ false
not-above a b h = not-true (lt_z b a) (sym (le_z_not_lt_z a b) ∙ held (le_z a b) h.le)

above : (a b : ℤ) → le_z b a ≡ false → a <ℤ b
above a b e = record { lt = holds (not-false (lt_z a b) (sym (le_z_not_lt_z b a) ∙ e)) }

not-at-most : (a b : ℤ) → a <ℤ b → le_z b a ≡ false
not-at-most a b h = le_z_not_lt_z b a ∙ ap not (held (lt_z a b) h.lt)

-- ---- the rows

good-int-step : (s : Option ℤ) → int_step_fails s ≡ false → GoodIntStep s
unfolding int_step_fails
good-int-step None e = tt
good-int-step (Some s) e =
    let a = neither (le_z s (pos 0)) (lt_z (pos int_limit) s) e in
    (above (pos 0) s a.0, at_most s (pos int_limit) a.1)

pub int-step-passes : (s : Option ℤ) → GoodIntStep s → int_step_fails s ≡ false
unfolding int_step_fails
int-step-passes None g = refl
int-step-passes (Some s) g = both-fail (not-at-most (pos 0) s g.0) (not-above s (pos int_limit) g.1)

-- what the flag asks for, where row 5 does not apply
no-step : (s : Option ℤ) → is_some s ≡ false → s ≡ None
no-step None e = refl
no-step (Some s) e = absurd (true≢false e)

pub good-ladder : (d : IntDistribution) → (d.log_scale && no_ladder d) ≡ false → d.log_scale ≡ true → GoodLadder d
unfolding no_ladder
good-ladder d e l =
    let a = neither (is_some d.step || lt_z d.low (pos 1)) (lt_z (pos ladder_limit) d.high) (ap (λ (b : Bool). b && no_ladder d) (sym l) ∙ e) in
    let b = neither (is_some d.step) (lt_z d.low (pos 1)) a.0 in
    record { from_1 = at_most (pos 1) d.low b.1; to_limit = at_most d.high (pos ladder_limit) a.1; no_step = no-step d.step b.0 }

pub int-log-passes : (d : IntDistribution) → GoodInt d → (d.log_scale && no_ladder d) ≡ false
unfolding no_ladder
int-log-passes d g = go d.log_scale refl
  where
    go : (b : Bool) → d.log_scale ≡ b → (b && no_ladder d) ≡ false
    go false e = refl
    go true e =
        let l = g.ladder e in
        both-fail (both-fail (ap is_some l.no_step) (not-above (pos 1) d.low l.from_1)) (not-above d.high (pos ladder_limit) l.to_limit)

pub good-int : (d : IntDistribution) → int_bounds_fail d.low d.high ≡ false → (d.log_scale && no_ladder d) ≡ false → int_step_fails d.step ≡ false → GoodInt d
unfolding int_bounds_fail int_bound_fails
good-int d e g t =
    let a = neither (int_bound_fails d.low || int_bound_fails d.high) (lt_z d.high d.low) e in
    let b = neither (int_bound_fails d.low) (int_bound_fails d.high) a.0 in
    record {
      small_low = ltb-false int_limit (nat_abs d.low) b.0;
      small_high = ltb-false int_limit (nat_abs d.high) b.1;
      ordered = at_most d.low d.high a.1;
      ladder = good-ladder d g;
      good_step = good-int-step d.step t;
    }

pub int-bounds-pass : (d : IntDistribution) → GoodInt d → int_bounds_fail d.low d.high ≡ false
unfolding int_bounds_fail int_bound_fails
int-bounds-pass d g =
    both-fail (both-fail (le-ltb int_limit (nat_abs d.low) g.small_low) (le-ltb int_limit (nat_abs d.high) g.small_high))
    (not-above d.low d.high g.ordered)

-- ---- a good step as a natural number

pub record NaturalStep (s : ℤ) : Type 0 where
  pub is : s ≡ pos (nat_abs s)
  pub least : 0 < nat_abs s
  pub most : nat_abs s ≤ int_limit

pub natural-step : (s : ℤ) → GoodIntStep (Some s) → NaturalStep s
natural-step (pos n) g = record { is = refl; least = ltb→lt 0 n g.0.lt; most = leb→le n int_limit g.1.le }
natural-step (negsuc n) g = absurd g.0.lt
