-- W1, the draw ceiling in numbers.
use Rattle.std.specs.Prelude.{ℕ, cond, leb}
use Rattle.de.specs.Ceiling.{ceiling_for}
use Rattle.edge.specs.Flat.{strategy_of}

-- by a state's `n`, `n_dims` and strategy; a state whose strategy names no case is refused, and a refusal "counts zero draws"
unfoldable pub ceiling_at : ℕ → ℕ → ℕ → ℕ
ceiling_at n dims strategy = cond (leb strategy 2) (ceiling_for (strategy_of strategy) n dims) 0
