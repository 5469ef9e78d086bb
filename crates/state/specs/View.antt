-- The code's state as a plain state of demand 2's definition, and a plain state laid out in the code's arrays.
use Rattle.std.specs.Prelude.{ℕ, max, Bool, true, false, cond, List, map, eqb, length, take, Option, Some, None}
use Rattle.rng_util.specs.Many.{pad_to}
use Rattle.distribution.specs.declared.DimensionInfo.{DimensionInfo}
use Rattle.candidates.specs.Candidate.{blank_candidate}
use Rattle.candidates.specs.declared.Candidate.{Candidate}
use Rattle.evolution.specs.declared.Member.{Member}
use Rattle.evolution.specs.declared.Setup.{Setup}
use Rattle.selection.specs.Records.{blank_member}
use Rattle.ledger.specs.Kernel.{Parent}
use Rattle.ledger.specs.State as Plain
use Rattle.kernel.specs.De.{de, member_of}
use Rattle.state.specs.Blank.{blank_dim, blank_trial}
use Rattle.state.specs.declared.State.{State}
use Rattle.state.specs.declared.TrialProgress.{TrialProgress}

-- ---- one element

abbrev pub trial_of : TrialProgress → Plain.Trial
trial_of t = record { number = t.number; next = t.next_dim }

abbrev pub progress_of : Plain.Trial → TrialProgress
progress_of t = record { number = t.number; next_dim = t.next }

abbrev pub parent_of : Member → Parent Candidate
parent_of m = record { candidate = m.candidate; value = m.value }

-- N, once discovery has ended
abbrev pub size_in : Bool → ℕ → Option ℕ
size_in true n = Some n
size_in false n = None

abbrev pub has_size : Option ℕ → Bool
has_size None = false
has_size (Some n) = true

abbrev pub size_number : Option ℕ → ℕ
size_number None = 0
size_number (Some n) = n

-- ---- the whole

-- "candidates are N plus one for each trial past N", after discovery
abbrev pub candidate_count : State → ℕ
candidate_count s = cond s.discovered (max s.n s.n_trials) 0

-- "N parents exist exactly when the count of closed generations is at least 1"
abbrev pub parent_count : State → ℕ
parent_count s = cond (eqb s.closed 0) 0 s.n

-- what is in use of the arrays
abbrev pub dims_of : State → List DimensionInfo
dims_of s = take s.n_dims s.dims

abbrev pub candidates_of : State → List Candidate
candidates_of s = take (candidate_count s) s.candidates

abbrev pub trials_of : State → List TrialProgress
trials_of s = take s.n_trials s.trials

abbrev pub members_of : State → List Member
members_of s = take (parent_count s) s.parents

unfoldable pub view : State → Plain.State de
view s =
    record {
      word = s.word;
      first = s.first;
      dims = take s.n_dims s.dims;
      size = size_in s.discovered s.n;
      candidates = take (candidate_count s) s.candidates;
      trials = map trial_of (take s.n_trials s.trials);
      slots = record { parents = map parent_of (take (parent_count s) s.parents); best = s.best; closed = s.closed; idle = s.idle };
    }

-- unused places are as in a fresh state
unfoldable pub laid : Setup → Plain.State de → State
laid S m =
    record {
      setup = S;
      first = m.first;
      discovered = has_size m.size;
      n = size_number m.size;
      n_dims = length m.dims;
      dims = pad_to 16 blank_dim m.dims;
      candidates = pad_to 224 blank_candidate m.candidates;
      parents = pad_to 160 blank_member (map member_of m.slots.parents);
      n_trials = length m.trials;
      trials = pad_to 224 blank_trial (map progress_of m.trials);
      best = m.slots.best;
      word = m.word;
      closed = m.slots.closed;
      idle = m.slots.idle;
    }
