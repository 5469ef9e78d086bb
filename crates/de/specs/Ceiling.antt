-- W1, the draw ceiling of the code's sample call, and what callers can ask of it.
use Rattle.std.specs.Prelude.{ℕ, ◌&&◌, cond, eqb, leb}
use Rattle.evolution.specs.declared.DEStrategy.{DEStrategy}
use Rattle.kernel.specs.Ceiling.{generation_ceiling, step_ceiling}
use Rattle.state.specs.View.{view}
use Rattle.state.specs.declared.State.{State}

-- "how much one sample call can draw", by the state that is handed in, the one that comes back and the trial's number: document 02's sentence, of their views
abbrev pub draw_ceiling : State → State → ℕ → ℕ
draw_ceiling before after n = step_ceiling before.setup.strategy (view before) (view after) n

-- ---- for callers, who know N and D and not what the call will do

-- what any call draws at most that leaves N slots, 0 before discovery has ended, and D dimensions
abbrev pub call_ceiling : DEStrategy → ℕ → ℕ → ℕ
call_ceiling strategy N D = cond (eqb N 0) D (generation_ceiling strategy N D)

-- nothing over 160 slots or 16 dimensions: such a state is not sound, and a refusal "counts zero draws"
unfoldable pub ceiling_for : DEStrategy → ℕ → ℕ → ℕ
ceiling_for strategy N D = cond (leb N 160 && leb D 16) (call_ceiling strategy N D) 0

-- and whatever they are: 160 × (3,072 + 16)
abbrev pub most_draws : ℕ
most_draws = 494080
