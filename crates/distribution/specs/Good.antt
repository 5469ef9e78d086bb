-- What is left when no row of the table applies, as facts: the limits of document 01's "Bounds", finite and in order.
use Rattle.std.specs.Prelude.{ℤ, ◌≡◌, true, false, ◌≤◌, ◌<◌, T, pos, nat_abs, ◌≤ℤ◌, ◌<ℤ◌, Float, Option, Some, None}
use Rattle.std.specs.Float.{binary64}
use Rattle.std.specs.Float.Ieee.{neg, le, lt, of_bits}
use Rattle.distribution.specs.declared.CategoricalDistribution.{CategoricalDistribution}
use Rattle.distribution.specs.declared.Distribution.{Distribution}
use Rattle.distribution.specs.declared.Distribution.TheVariants.{Float as FloatD, Int as IntD, Categorical}
use Rattle.distribution.specs.declared.FloatDistribution.{FloatDistribution}
use Rattle.distribution.specs.declared.IntDistribution.{IntDistribution}
use Rattle.distribution.specs.Validate.{is_finite, float_limit, int_limit, ladder_limit, quotient_limit, choices_limit, quotient}

-- ---- Float

pub record GoodBound (x : Float) : Type 0 where
  pub finite : T (is_finite x)
  pub at_most : T (le x float_limit)
  pub at_least : T (le (neg float_limit) x)

pub record GoodStep (low high s : Float) : Type 0 where
  pub finite : T (is_finite s)
  pub above_zero : T (lt (of_bits binary64 0) s)
  pub few : T (le (quotient low high s) quotient_limit)

abbrev pub GoodFloatStep : Float → Float → Option Float → Type 0
GoodFloatStep low high None = Unit {0}
GoodFloatStep low high (Some s) = GoodStep low high s

pub record GoodFloat (d : FloatDistribution) : Type 0 where
  pub good_low : GoodBound d.low
  pub good_high : GoodBound d.high
  pub ordered : T (le d.low d.high)
  pub not_log : d.log_scale ≡ false
  pub good_step : GoodFloatStep d.low d.high d.step

-- ---- Int

abbrev pub GoodIntStep : Option ℤ → Type 0
GoodIntStep None = Unit {0}
GoodIntStep (Some s) = (pos 0 <ℤ s) × (s ≤ℤ pos int_limit)

-- "For Int with the log flag, low at least 1, high at most 2,147,483,648 and no step, use a ladder" (document 02, W9)
pub record GoodLadder (d : IntDistribution) : Type 0 where
  pub from_1 : pos 1 ≤ℤ d.low
  pub to_limit : d.high ≤ℤ pos ladder_limit
  pub no_step : d.step ≡ None

pub record GoodInt (d : IntDistribution) : Type 0 where
  pub small_low : nat_abs d.low ≤ int_limit
  pub small_high : nat_abs d.high ≤ int_limit
  pub ordered : d.low ≤ℤ d.high
  pub ladder : d.log_scale ≡ true → GoodLadder d
  pub good_step : GoodIntStep d.step

-- ---- Categorical

pub record GoodCategorical (d : CategoricalDistribution) : Type 0 where
  pub some_choice : 0 < d.n_choices
  pub few : d.n_choices ≤ choices_limit

abbrev pub Good : Distribution → Type 0
Good (FloatD d) = GoodFloat d
Good (IntD d) = GoodInt d
Good (Categorical d) = GoodCategorical d
