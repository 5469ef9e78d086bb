-- The number of a strategy in C and in a saved file: 0 rand1, 1 best1, 2 current-to-best1.
use Rattle.std.specs.Prelude.{ℕ, cond, eqb, Option, Some, None}
use Rattle.evolution.specs.declared.DEStrategy.{DEStrategy}
use Rattle.evolution.specs.declared.DEStrategy.TheVariants.{Rand1, Best1, CurrentToBest1}

abbrev pub strategy_number : DEStrategy → ℕ
strategy_number Rand1 = 0
strategy_number Best1 = 1
strategy_number CurrentToBest1 = 2

-- the strategy of a number; any other number has none
abbrev pub strategy_from : ℕ → Option DEStrategy
strategy_from k = cond (eqb k 0) (Some Rand1) (cond (eqb k 1) (Some Best1) (cond (eqb k 2) (Some CurrentToBest1) None))
