-- The six kinds of records, and the words of each: docs/SAVED.md, "The six kinds".
use Rattle.std.specs.Prelude.{ℕ, ◌≤◌, Bool, ◌&&◌, List, [], ◌∷◌, cond, take, eqb, is_some, unwrap_or}
use Rattle.std.specs.List.{flat_map, list_all}
use Rattle.distribution.specs.declared.DimensionInfo.{DimensionInfo}
use Rattle.state.specs.View.{candidate_count, parent_count}
use Rattle.state.specs.declared.State.{State}
use Rattle.kinds.specs.Rows.{candidate_words, dim_has_place, dim_words, flag, member_words, setup_has_place, setup_words, trial_words}
use Rattle.kinds.specs.declared.kind.Kind.{Kind}
use Rattle.kinds.specs.declared.kind.Kind.TheVariants as K

-- the dimensions in use
abbrev pub dims_of : State → List DimensionInfo
dims_of s = take s.n_dims s.dims

-- kind 2: whether there is a first trial, its number, whether discovery has ended, N, D, open trials, closed and idle generations, best slot, generator word
unfoldable pub count_words : State → List ℕ
count_words s =
    flag (is_some s.first)
    ∷ unwrap_or s.first 0
    ∷ flag s.discovered
    ∷ s.n
    ∷ s.n_dims
    ∷ s.n_trials
    ∷ s.closed
    ∷ s.idle
    ∷ s.best
    ∷ s.word
    ∷ []

-- kinds 3 to 6: the dimensions, the open trials, the parents, the candidates: those in use, in order
unfoldable pub dims_words : State → List ℕ
dims_words s = flat_map dim_words (dims_of s)

unfoldable pub trials_words : State → List ℕ
trials_words s = flat_map trial_words (take s.n_trials s.trials)

unfoldable pub parents_words : State → List ℕ
parents_words s = flat_map (member_words (dims_of s)) (take (parent_count s) s.parents)

unfoldable pub candidates_words : State → List ℕ
candidates_words s = flat_map (candidate_words (dims_of s)) (take (candidate_count s) s.candidates)

-- the kinds' numbers
abbrev pub kind_number : Kind → ℕ
kind_number K.Setup = 1
kind_number K.Counts = 2
kind_number K.Dimensions = 3
kind_number K.Trials = 4
kind_number K.Parents = 5
kind_number K.Candidates = 6

-- the table of kinds, 1 being the set-up: a kind that is none of the six has no words
unfoldable pub kind_words : State → ℕ → List ℕ
kind_words s kind =
    cond (eqb kind 1) (setup_words s.setup)
    (cond (eqb kind 2) (count_words s)
    (cond (eqb kind 3) (dims_words s)
    (cond (eqb kind 4) (trials_words s)
    (cond (eqb kind 5) (parents_words s)
    (cond (eqb kind 6) (candidates_words s) [])))))

-- whether the words hold all of a state: midpoint and ladders have no place
abbrev pub has_place : State → Bool
has_place s = setup_has_place s.setup && list_all dim_has_place (dims_of s)

-- the counts of a state are places of its arrays: so it is of every sound state
pub record Roomy (s : State) : Type 0 where
  pub dims : s.n_dims ≤ 16
  pub trials : s.n_trials ≤ 224
  pub candidates : candidate_count s ≤ 224
  pub parents : parent_count s ≤ 160
