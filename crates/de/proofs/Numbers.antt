-- The refusals of the set-up, in the table's numbers.
use Rattle.std.specs.Prelude.{Result, Ok}
use mathlib.Core.Path.{◌≡◌, refl, ap, ◌∙◌}
use mathlib.Core.Bool.{Bool, true, false}
use Rattle.distribution.specs.Validate.{refused_if}
use Rattle.distribution.specs.declared.Refusal.TheVariants.{MutationFactor, CrossoverRate, PopulationSize}
use Rattle.ledger.specs.Words.{or_else, refuse_if}
use Rattle.kernel.specs.Setup.{factor_fails, rate_fails, size_fails, setup_verdict}
use Rattle.de.specs.Build.{built_by, built_of, built_refusal, setup_refusal}
use Rattle.de.specs.declared.build.DESamplerBuilder.{DESamplerBuilder}
use Rattle.distribution.specs.declared.Refusal.{Refusal}
use Rattle.evolution.specs.declared.Setup.{Setup}

-- the set-up: 1, 2, 3, the first that applies
pub built-by : (b : DESamplerBuilder) → built_refusal (built_of b) ≡ setup_refusal b.setup
unfolding built_of setup_verdict setup_refusal
built-by b = go (factor_fails b.setup.mutation_factor) (rate_fails b.setup.crossover_rate) (size_fails b.setup.population_size)
  where
    go : (x y z : Bool)
        → built_refusal (built_by (refused_if x MutationFactor (refused_if y CrossoverRate (refused_if z PopulationSize (Ok tt)))) b.setup)
        ≡ or_else (refuse_if x 1) (or_else (refuse_if y 2) (refuse_if z 3))
    go true y z = refl
    go false true z = refl
    go false false true = refl
    go false false false = refl

pub built-meets : (b : DESamplerBuilder) (r : Result Setup Refusal) → r ≡ built_of b → (r ≡ built_of b) × (built_refusal r ≡ setup_refusal b.setup)
built-meets b r e = (e, ap built_refusal e ∙ built-by b)
