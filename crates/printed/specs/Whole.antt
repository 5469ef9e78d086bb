-- The whole state, as bytes: a line for itself, then one for each parent, candidate and open trial.
use Rattle.std.specs.Prelude.{ℕ, Bool, List, [], ◌++◌, cond, take, zip, Option, Some, None, codes, decimal, flat_map}
use Rattle.std.specs.List.{enumerate_from}
use Rattle.candidates.specs.Space.{continuous_count}
use Rattle.candidates.specs.declared.Candidate.{Candidate}
use Rattle.distribution.specs.Dims.{is_continuous}
use Rattle.distribution.specs.declared.DimensionInfo.{DimensionInfo}
use Rattle.evolution.specs.declared.Member.{Member}
use Rattle.state.specs.View.{candidate_count, parent_count}
use Rattle.state.specs.declared.State.{State}
use Rattle.state.specs.declared.TrialProgress.{TrialProgress}
use Rattle.printed.specs.Rows.{hex_text, pattern_text, values_text}

-- "every line ends with a line feed"
abbrev pub ended : List ℕ → List ℕ
ended row = row ++ codes "\n"

-- the dimensions in use
abbrev pub dims_in : State → List DimensionInfo
dims_in s = take s.n_dims s.dims

-- ` DIM:CHOICE`, of a dimension with choices, with its index
abbrev pub choice_text : ℕ × (DimensionInfo × ℕ) → List ℕ
choice_text (i, (d, c)) = cond (is_continuous d) [] (codes " " ++ decimal i ++ codes ":" ++ decimal c)

-- "the choices in dimension order, each with its dimension's index"
abbrev pub choices_text : List DimensionInfo → List ℕ → List ℕ
choices_text dims choices = flat_map choice_text (enumerate_from 0 (zip dims choices))

-- ` X0 X1 .. DIM:CHOICE ..`: an entry for each continuous dimension, then the choices
unfoldable pub vector_text : List DimensionInfo → Candidate → List ℕ
vector_text dims c = values_text (take (continuous_count dims) c.x) ++ choices_text dims c.choices

-- `parent VALUE X0 X1 .. DIM:CHOICE ..`
abbrev pub parent_text : List DimensionInfo → Member → List ℕ
parent_text dims m = ended (codes "parent " ++ pattern_text m.value ++ vector_text dims m.candidate)

-- `candidate X0 X1 .. DIM:CHOICE ..`
abbrev pub candidate_text : List DimensionInfo → Candidate → List ℕ
candidate_text dims c = ended (codes "candidate" ++ vector_text dims c)

-- `trial NUMBER NEXT`
abbrev pub trial_text : TrialProgress → List ℕ
trial_text t = ended (codes "trial " ++ decimal t.number ++ codes " " ++ decimal t.next_dim)

-- "FIRST is `-` before the first trial"
abbrev pub first_text : Option ℕ → List ℕ
first_text None = codes "-"
first_text (Some number) = decimal number

-- "PHASE is `discovery` or `active`"
abbrev pub phase_text : Bool → List ℕ
phase_text discovered = cond discovered (codes "state active ") (codes "state discovery ")

-- `state PHASE FIRST N D BEST WORD`
unfoldable pub head_text : State → List ℕ
head_text s =
    ended (phase_text s.discovered ++ first_text s.first ++ codes " " ++ decimal s.n ++ codes " "
    ++ decimal s.n_dims ++ codes " " ++ decimal s.best ++ codes " " ++ hex_text 16 s.word)

unfoldable pub state_text : State → List ℕ
state_text s =
    head_text s ++ flat_map (parent_text (dims_in s)) (take (parent_count s) s.parents)
    ++ flat_map (candidate_text (dims_in s)) (take (candidate_count s) s.candidates) ++ flat_map trial_text (take s.n_trials s.trials)
