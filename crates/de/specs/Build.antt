-- The set-up: "Set-up: F, CR, strategy, perhaps a size, and a seed, which is the generator's first word. Nothing is seeded at random."
-- And document 02's "set-up choice" (W7), the bounds rule.
use Rattle.std.specs.Prelude.{ℕ, false, Float, Option, Some, None, Result, Ok, Err, ⊤}
use Rattle.std.specs.Float.{binary64}
use Rattle.std.specs.Float.Ieee.{round}
use Rattle.distribution.specs.Refusals.{refusal_number}
use Rattle.evolution.specs.declared.BoundsRule.{BoundsRule}
use Rattle.evolution.specs.declared.BoundsRule.TheVariants.{Clamp}
use Rattle.evolution.specs.declared.DEStrategy.{DEStrategy}
use Rattle.evolution.specs.declared.DEStrategy.TheVariants.{Rand1}
use Rattle.evolution.specs.declared.Setup.{Setup}
use Rattle.ledger.specs.Words.{or_else, refuse_if}
use Rattle.ledger.specs.State.{fresh}
use Rattle.kernel.specs.De.{de}
use Rattle.kernel.specs.Setup.{factor_fails, rate_fails, size_fails, setup_verdict}
use Rattle.state.specs.View.{laid}
use Rattle.state.specs.declared.State.{State}
use Rattle.de.specs.declared.build.DESamplerBuilder.{DESamplerBuilder}
use Rattle.distribution.specs.declared.Refusal.{Refusal}

-- ---- the builder: the Rust's options and defaults

abbrev builder_of : Float → Float → DEStrategy → Option ℕ → ℕ → BoundsRule → DESamplerBuilder
builder_of F CR strategy size seed rule =
    record { setup = record { mutation_factor = F; crossover_rate = CR; strategy = strategy; population_size = size; seed = seed; bounds_rule = rule } }

-- a decimal literal: the double nearest to n / 10
abbrev tenths : ℕ → Float
tenths n = round binary64 false n 10

unfoldable pub defaults : DESamplerBuilder
unfolding round
defaults = builder_of (tenths 8) (tenths 9) Rand1 None 0 Clamp

abbrev pub with_size : DESamplerBuilder → ℕ → DESamplerBuilder
with_size b n = let S = b.setup in builder_of S.mutation_factor S.crossover_rate S.strategy (Some n) S.seed S.bounds_rule

abbrev pub with_factor : DESamplerBuilder → Float → DESamplerBuilder
with_factor b F = let S = b.setup in builder_of F S.crossover_rate S.strategy S.population_size S.seed S.bounds_rule

abbrev pub with_rate : DESamplerBuilder → Float → DESamplerBuilder
with_rate b CR = let S = b.setup in builder_of S.mutation_factor CR S.strategy S.population_size S.seed S.bounds_rule

abbrev pub with_strategy : DESamplerBuilder → DEStrategy → DESamplerBuilder
with_strategy b strategy = let S = b.setup in builder_of S.mutation_factor S.crossover_rate strategy S.population_size S.seed S.bounds_rule

abbrev pub with_seed : DESamplerBuilder → ℕ → DESamplerBuilder
with_seed b seed = let S = b.setup in builder_of S.mutation_factor S.crossover_rate S.strategy S.population_size seed S.bounds_rule

-- "Offer a set-up choice" (document 02, W7)
abbrev pub with_rule : DESamplerBuilder → BoundsRule → DESamplerBuilder
with_rule b rule = let S = b.setup in builder_of S.mutation_factor S.crossover_rate S.strategy S.population_size S.seed rule

-- ---- refusals 1, 2, 3: "A set-up refusal hands out no state"

abbrev pub built_by : Result ⊤ Refusal → Setup → Result Setup Refusal
built_by (Ok tt) S = Ok S
built_by (Err r) S = Err r

unfoldable pub built_of : DESamplerBuilder → Result Setup Refusal
built_of b = built_by (setup_verdict b.setup) b.setup

-- the number of the refusal, if the answer is one
abbrev pub built_refusal : Result Setup Refusal → Option ℕ
built_refusal (Ok S) = None
built_refusal (Err r) = Some (refusal_number r)

-- the table's 1, 2 and 3, the first that applies
unfoldable pub setup_refusal : Setup → Option ℕ
setup_refusal S =
    or_else (refuse_if (factor_fails S.mutation_factor) 1)
    (or_else (refuse_if (rate_fails S.crossover_rate) 2) (refuse_if (size_fails S.population_size) 3))

-- ---- "Fresh is what an accepted set-up returns"

unfoldable pub fresh_state : Setup → State
fresh_state S = laid S (fresh de S)
