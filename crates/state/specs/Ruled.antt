-- A state under the other bounds rule.
use Rattle.evolution.specs.BoundsRule.{ruled}
use Rattle.evolution.specs.declared.BoundsRule.{BoundsRule}
use Rattle.state.specs.declared.State.{State}

-- the same state with another bounds rule (document 02, W7)
abbrev pub state_ruled : BoundsRule → State → State
state_ruled r s =
    record {
      setup = ruled r s.setup;
      first = s.first;
      discovered = s.discovered;
      n = s.n;
      n_dims = s.n_dims;
      dims = s.dims;
      candidates = s.candidates;
      parents = s.parents;
      n_trials = s.n_trials;
      trials = s.trials;
      best = s.best;
      word = s.word;
      closed = s.closed;
      idle = s.idle;
    }
