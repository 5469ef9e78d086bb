-- The bounds rule, "a set-up choice" (document 02, W7), and its number in C: 0 clamp, as where a caller names none, 1 midpoint.
use Rattle.std.specs.Prelude.{ℕ, cond, eqb, Option, Some, None}
use Rattle.evolution.specs.declared.BoundsRule.{BoundsRule}
use Rattle.evolution.specs.declared.BoundsRule.TheVariants.{Clamp, Midpoint}
use Rattle.evolution.specs.declared.Setup.{Setup}

abbrev pub rule_number : BoundsRule → ℕ
rule_number Clamp = 0
rule_number Midpoint = 1

-- the rule of a number; any other number has none
abbrev pub rule_from : ℕ → Option BoundsRule
rule_from k = cond (eqb k 0) (Some Clamp) (cond (eqb k 1) (Some Midpoint) None)

-- the same set-up with another rule
abbrev pub ruled : BoundsRule → Setup → Setup
ruled rule S =
    record {
      mutation_factor = S.mutation_factor;
      crossover_rate = S.crossover_rate;
      strategy = S.strategy;
      population_size = S.population_size;
      seed = S.seed;
      bounds_rule = rule;
    }
