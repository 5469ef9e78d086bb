-- Refusal 0: when a state of the code is sound. Its view is judged by the ledger's test; what only the code's state has, the set-up and the unused
-- places of its arrays, is judged here.
use Rattle.std.specs.Prelude.{◌≤◌, Bool, ◌&&◌, ◌||◌, List, [], ◌∷◌, leb, eqb, drop, is_ok}
use Rattle.ledger.specs.Words.{all, every}
use Rattle.ledger.specs.Soundness.{sound_test}
use Rattle.kernel.specs.De.{de}
use Rattle.state.specs.Blank.{is_blank_dim, is_blank_trial, is_blank_candidate, is_blank_member}
use Rattle.kernel.specs.Setup.{setup_verdict}
use Rattle.state.specs.View.{view, candidate_count, parent_count}
use Rattle.state.specs.declared.State.{State}

-- "counts keep the bounds below", as far as they are places of arrays; "unused places are as in a fresh state"
abbrev pub clean_tests : State → List Bool
clean_tests s =
    leb s.n_dims 16
    ∷ leb s.n_trials 224
    ∷ all is_blank_dim (drop s.n_dims s.dims)
    ∷ all is_blank_candidate (drop (candidate_count s) s.candidates)
    ∷ all is_blank_member (drop (parent_count s) s.parents)
    ∷ all is_blank_trial (drop s.n_trials s.trials)
    ∷ (s.discovered || eqb s.n 0)
    ∷ []

unfoldable pub clean_test : State → Bool
clean_test s = every (clean_tests s)

-- "It is sound when: the set-up passes 1 to 3 and every dimension 4 to 7; ..": the rest is clause by clause in the ledger's Soundness
unfoldable pub sound_state : State → Bool
sound_state s = clean_test s && (is_ok (setup_verdict s.setup) && sound_test de s.setup (view s))

-- what is in use has room in the arrays
pub record Few (s : State) : Type 0 where
  pub dims : s.n_dims ≤ 16
  pub slots : s.n ≤ 160
  pub trials : s.n_trials ≤ 224
