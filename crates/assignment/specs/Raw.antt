-- What the code does to its own arrays in steps 1 and 5: the contracts of the parts. proofs/Refine shows that on a state that is laid out it is the
-- ledger's step, laid out.
use Rattle.std.specs.Prelude.{ℕ, ◌+◌, ◌≤◌, ◌<◌, ◌^◌, min, max, ◌≡◌, Bool, true, cond, List, [], map, ltb, length, get_or, set, take, Some, Ok}
use Rattle.rng_util.specs.Gen.{Made, made}
use Rattle.rng_util.specs.Many.{pad_to}
use Rattle.rng_util.specs.declared.Gen.{Gen}
use Rattle.distribution.specs.Dims.{continuous}
use Rattle.distribution.specs.Validate.{verdict_of}
use Rattle.distribution.specs.declared.Ci.{Ci}
use Rattle.distribution.specs.declared.DimIdx.{DimIdx}
use Rattle.distribution.specs.declared.DimensionInfo.{DimensionInfo}
use Rattle.distribution.specs.declared.Distribution.{Distribution}
use Rattle.distribution.specs.declared.ParamValue.{ParamValue}
use Rattle.distribution.specs.declared.ParamValue.TheVariants.{Categorical}
use Rattle.common.specs.FromInternal.{from_internal}
use Rattle.common.specs.Random.{random_setting}
use Rattle.candidates.specs.Candidate.{blank_candidate, entry_of, choice_of}
use Rattle.candidates.specs.Random.{random_candidate, random_candidates}
use Rattle.candidates.specs.Space.{FewChoices, space_of}
use Rattle.candidates.specs.declared.Candidate.{Candidate}
use Rattle.ledger.specs.Assignment.{place_in}
use Rattle.kernel.specs.De.{decode_of, population_size_of}
use Rattle.state.specs.Blank.{blank_trial}
use Rattle.state.specs.View.{candidate_count, dims_of}
use Rattle.state.specs.declared.State.{State}
use Rattle.state.specs.declared.TrialProgress.{TrialProgress}

-- ---- what is in use

abbrev pub number_in : TrialProgress → ℕ
number_in t = t.number

-- the numbers of the first n trials
abbrev pub open_numbers : ℕ → List TrialProgress → List ℕ
open_numbers n ts = map number_in (take n ts)

-- a trial's place among the open ones
abbrev pub place_of : State → ℕ → ℕ
place_of s n = place_in (open_numbers s.n_trials s.trials) n

-- the generator as a call finds it
abbrev pub start_of : State → Gen
start_of s = record { word = s.word; draws = 0 }

-- what a read past the end of an array of candidates gives
abbrev pub no_candidate : Candidate
no_candidate = record { x = []; choices = [] }

-- ---- step 5

-- by a distribution, the dimension's place and its place among the continuous ones
unfoldable pub decoded_by : Distribution → DimIdx → Ci → Candidate → ParamValue
decoded_by d at ci y = cond (continuous d) (from_internal (entry_of y ci) d) (Categorical (choice_of y at))

-- "gives its next dimension, decoded by the stored distribution, not the one lent. Past the last dimension: `sample_random` of the lent one"
unfoldable pub setting_for : List DimensionInfo → Distribution → ℕ → Candidate → Gen → Made ParamValue
setting_for ds lent k y g = cond (ltb k (length ds)) (made (decode_of ds k y) g) (random_setting lent g)

-- by whether the trial has a candidate: "After N trials each extra gets a random candidate"
unfoldable pub candidate_for : Bool → Candidate → List DimensionInfo → Gen → Made Candidate
candidate_for known own ds g = cond known (made own g) (random_candidate (space_of ds) g)

-- an accepted call
pub record Given : Type 0 where
  pub setting : ParamValue
  pub draws : ℕ
  pub state : State

-- a setting and the draws that it took, with the state then
abbrev pub given : ParamValue × ℕ → State → Given
given x s = record { setting = x.0; draws = x.1; state = s }

-- the trial n at a place has candidate y, its next place is k, and the generator's word is w
abbrev pub with_trial : State → ℕ → ℕ → Candidate → ℕ → ℕ → State
with_trial s n place y k w =
    record {
      setup = s.setup;
      first = s.first;
      discovered = s.discovered;
      n = s.n;
      n_dims = s.n_dims;
      dims = s.dims;
      candidates = set s.candidates place y;
      parents = s.parents;
      n_trials = max s.n_trials (place + 1);
      trials = set s.trials place (record { number = n; next_dim = k });
      best = s.best;
      word = w;
      closed = s.closed;
      idle = s.idle;
    }

-- the dimension that the trial at a place gives next; 0 where none is open yet
abbrev pub next_at : State → ℕ → ℕ
next_at s place = (get_or s.trials place blank_trial).next_dim

-- the call of trial n, whose candidate is y, gives setting m of dimension k: "the next place stops at D"
abbrev pub given_at : State → ℕ → ℕ → Candidate → ℕ → Made ParamValue → Given
given_at s n place y k m =
    record { setting = m.out; draws = m.after.draws; state = with_trial s n place y (min (k + 1) s.n_dims) m.after.word }

-- by the trial's candidate
abbrev pub served_with : State → Distribution → ℕ → ℕ → Made Candidate → Given
served_with s lent n place a = given_at s n place a.out (next_at s place) (setting_for (dims_of s) lent (next_at s place) a.out a.after)

-- the candidate at the place if it is in use, else an extra's
abbrev pub assigned_at : State → ℕ → Gen → Made Candidate
assigned_at s place g = candidate_for (ltb place (candidate_count s)) (get_or s.candidates place no_candidate) (dims_of s) g

-- the whole call
unfoldable pub raw_active : State → Distribution → ℕ → Gen → Given
raw_active s lent n g = served_with s lent n (place_of s n) (assigned_at s (place_of s n) g)

-- what a call after discovery finds: bounds of places, and distributions that pass 4 to 7
pub record Ready (s : State) (lent : Distribution) (n : ℕ) (g : Gen) : Type 0 where
  pub few_dims : s.n_dims ≤ 16
  pub few_choices : FewChoices (dims_of s)
  pub few_trials : s.n_trials ≤ 224
  pub place : place_of s n < 224
  pub valid : verdict_of lent ≡ (Ok tt)
  pub few_draws : g.draws < 2 ^ 60

-- ---- step 1

-- "The first trial's calls each append a dimension and answer `sample_random`"
abbrev pub with_dim : State → Distribution → ℕ → ℕ → State
with_dim s d n w =
    record {
      setup = s.setup;
      first = Some n;
      discovered = s.discovered;
      n = s.n;
      n_dims = s.n_dims + 1;
      dims = set s.dims s.n_dims (record { distribution = d });
      candidates = s.candidates;
      parents = s.parents;
      n_trials = s.n_trials;
      trials = s.trials;
      best = s.best;
      word = w;
      closed = s.closed;
      idle = s.idle;
    }

-- the call's answer is that random setting
abbrev pub discovered_by : State → Distribution → ℕ → Made ParamValue → Given
discovered_by s d n m = record { setting = m.out; draws = m.after.draws; state = with_dim s d n m.after.word }

unfoldable pub raw_discovery : State → Distribution → ℕ → Gen → Given
raw_discovery s d n g = discovered_by s d n (random_setting d g)

-- "A call with another trial number fixes N, fills N random candidates"; the word stays: the generator is handed on beside the state
abbrev pub with_size : State → ℕ → List Candidate → State
with_size s N cs =
    record {
      setup = s.setup;
      first = s.first;
      discovered = true;
      n = N;
      n_dims = s.n_dims;
      dims = s.dims;
      candidates = pad_to 224 blank_candidate cs;
      parents = s.parents;
      n_trials = s.n_trials;
      trials = s.trials;
      best = s.best;
      word = s.word;
      closed = s.closed;
      idle = s.idle;
    }

-- with N slots, by the candidates
abbrev pub begun_with : State → ℕ → Made (List Candidate) → Made State
begun_with s N m = made (with_size s N m.out) m.after

-- N, by the size rule
abbrev pub slot_count : State → ℕ
slot_count s = population_size_of s.setup (dims_of s)

unfoldable pub raw_begin : State → Gen → Made State
raw_begin s g = begun_with s (slot_count s) (random_candidates (space_of (dims_of s)) (slot_count s) g)

-- what the end of discovery finds
pub record Complete (s : State) : Type 0 where
  pub few_dims : s.n_dims ≤ 16
  pub few_choices : FewChoices (dims_of s)
  pub few_slots : slot_count s ≤ 160
