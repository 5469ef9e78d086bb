-- The state in numbers, opened and flattened. What a number that names no case opens to is never used (`Known`).
use Rattle.std.specs.Prelude.{ℕ, Bool, true, false, cond, map, eqb, Float, ℤ, pos, Option, Some, None, is_some, unwrap_or}
use Rattle.common.specs.Bounds.{zero_f}
use Rattle.distribution.specs.declared.DimensionInfo.{DimensionInfo}
use Rattle.distribution.specs.declared.Distribution.{Distribution}
use Rattle.distribution.specs.declared.Distribution.TheVariants as D
use Rattle.distribution.specs.declared.FloatDistribution.{FloatDistribution}
use Rattle.distribution.specs.declared.IntDistribution.{IntDistribution}
use Rattle.evolution.specs.BoundsRule.{rule_number, rule_from}
use Rattle.evolution.specs.Strategy.{strategy_number, strategy_from}
use Rattle.evolution.specs.declared.BoundsRule.{BoundsRule}
use Rattle.evolution.specs.declared.BoundsRule.TheVariants.{Midpoint}
use Rattle.evolution.specs.declared.DEStrategy.{DEStrategy}
use Rattle.evolution.specs.declared.DEStrategy.TheVariants.{CurrentToBest1}
use Rattle.evolution.specs.declared.Setup.{Setup}
use Rattle.state.specs.declared.State.{State}
use Rattle.edge.specs.declared.flat.DeSetup.{DeSetup}
use Rattle.edge.specs.declared.flat.DeDistribution.{DeDistribution}
use Rattle.edge.specs.declared.flat.DeState.{DeState}
use Rattle.edge.specs.declared.flat.Opened.{Opened}

-- ---- opened

-- 0 rand1, 1 best1, 2 current-to-best1
abbrev pub strategy_of : ℕ → DEStrategy
strategy_of k = unwrap_or (strategy_from k) CurrentToBest1

-- 0 clamp, 1 midpoint; any other number is judged by `known_setup` before it is read
abbrev pub rule_of : ℕ → BoundsRule
rule_of k = unwrap_or (rule_from k) Midpoint

-- what there may be: a flag, 0 where there is none and 1 where there is, and the value beside it
abbrev pub option_of : {A : Type 0} → ℕ → A → Option A
option_of set x = cond (eqb set 0) None (Some x)

unfoldable pub setup_of : DeSetup → Setup
setup_of s =
    record {
      mutation_factor = s.mutation_factor;
      crossover_rate = s.crossover_rate;
      strategy = strategy_of s.strategy;
      population_size = option_of s.sized s.population_size;
      seed = s.seed;
      bounds_rule = rule_of s.bounds_rule;
    }

abbrev pub float_of : DeDistribution → FloatDistribution
float_of d = record { low = d.low; high = d.high; log_scale = eqb d.log_scale 1; step = option_of d.stepped d.step }

abbrev pub int_of : DeDistribution → IntDistribution
int_of d = record { low = d.whole_low; high = d.whole_high; log_scale = eqb d.log_scale 1; step = option_of d.stepped d.whole_step }

-- 1 float, 2 int, 3 choice
unfoldable pub distribution_of : DeDistribution → Distribution
distribution_of d = cond (eqb d.kind 1) (D.Float (float_of d)) (cond (eqb d.kind 2) (D.Int (int_of d)) (D.Categorical (record { n_choices = d.n_choices })))

abbrev pub dim_of : DeDistribution → DimensionInfo
dim_of d = record { distribution = distribution_of d }

-- what the numbers of a state stand for
abbrev pub opened_of : DeState → Opened
opened_of f = record { setup = setup_of f.setup; first = option_of f.named f.first; discovered = eqb f.discovered 1; dims = map dim_of f.dims }

-- the state, with what its numbers stand for
unfoldable pub open_with : DeState → Opened → State
open_with f o =
    record {
      setup = o.setup;
      first = o.first;
      discovered = o.discovered;
      n = f.n;
      n_dims = f.n_dims;
      dims = o.dims;
      candidates = f.candidates;
      parents = f.parents;
      n_trials = f.n_trials;
      trials = f.trials;
      best = f.best;
      word = f.word;
      closed = f.closed;
      idle = f.idle;
    }

abbrev pub open_of : DeState → State
open_of f = open_with f (opened_of f)

-- ---- flattened: fields that a kind does not use are 0

abbrev pub bit : Bool → ℕ
bit true = 1
bit false = 0

unfoldable pub flat_setup : Setup → DeSetup
flat_setup S =
    record {
      mutation_factor = S.mutation_factor;
      crossover_rate = S.crossover_rate;
      strategy = strategy_number S.strategy;
      sized = bit (is_some S.population_size);
      population_size = unwrap_or S.population_size 0;
      seed = S.seed;
      bounds_rule = rule_number S.bounds_rule;
    }

-- kind, doubles, whole numbers, scale, step, choices
abbrev flat : ℕ → Float → Float → ℤ → ℤ → ℕ → ℕ → Float → ℤ → ℕ → DeDistribution
flat k a b i j l s x y n =
    record { kind = k; low = a; high = b; whole_low = i; whole_high = j; log_scale = l; stepped = s; step = x; whole_step = y; n_choices = n }

-- every field is 0
abbrev pub flat_none : DeDistribution
flat_none = flat 0 zero_f zero_f (pos 0) (pos 0) 0 0 zero_f (pos 0) 0

abbrev pub flat_float : FloatDistribution → DeDistribution
flat_float d = flat 1 d.low d.high (pos 0) (pos 0) (bit d.log_scale) (bit (is_some d.step)) (unwrap_or d.step zero_f) (pos 0) 0

abbrev pub flat_int : IntDistribution → DeDistribution
flat_int d = flat 2 zero_f zero_f d.low d.high (bit d.log_scale) (bit (is_some d.step)) zero_f (unwrap_or d.step (pos 0)) 0

abbrev pub flat_choice : ℕ → DeDistribution
flat_choice n = flat 3 zero_f zero_f (pos 0) (pos 0) 0 0 zero_f (pos 0) n

unfoldable pub flat_distribution : Distribution → DeDistribution
flat_distribution (D.Float d) = flat_float d
flat_distribution (D.Int d) = flat_int d
flat_distribution (D.Categorical d) = flat_choice d.n_choices

abbrev pub flat_dim : DimensionInfo → DeDistribution
flat_dim d = flat_distribution d.distribution

unfoldable pub flat_of : State → DeState
flat_of s =
    record {
      setup = flat_setup s.setup;
      named = bit (is_some s.first);
      first = unwrap_or s.first 0;
      discovered = bit s.discovered;
      n = s.n;
      n_dims = s.n_dims;
      dims = map flat_dim s.dims;
      candidates = s.candidates;
      parents = s.parents;
      n_trials = s.n_trials;
      trials = s.trials;
      best = s.best;
      word = s.word;
      closed = s.closed;
      idle = s.idle;
    }
