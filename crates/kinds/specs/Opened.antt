-- The state that the words of the six kinds stand for, whether sound or not.
use Rattle.std.specs.Prelude.{ℕ, ◌+◌, ◌*◌, ◌%◌, ◌^◌, min, max, List, [], cond, take, drop, get_or, eqb}
use Rattle.rng_util.specs.Many.{pad_to, listed}
use Rattle.distribution.specs.declared.DimensionInfo.{DimensionInfo}
use Rattle.candidates.specs.Candidate.{blank_candidate}
use Rattle.selection.specs.Records.{blank_member}
use Rattle.state.specs.declared.State.{State}
use Rattle.state.specs.Blank.{blank_dim, blank_trial}
use Rattle.records.specs.declared.Table.{Table}
use Rattle.kinds.specs.Rows.{candidate_in, dim_in, member_in, setup_in, trial_in, word_option}

-- the i-th part of so many words
abbrev pub row : List ℕ → ℕ → ℕ → List ℕ
row ws width i = take width (drop (i * width) ws)

abbrev pub dim_at : List ℕ → ℕ → DimensionInfo
dim_at ws i = dim_in (row ws 5 i)

-- us, ns, ds, ts, ps and cs are the words of kinds 1 to 6. A count past its array, and a counter past its type, is cut here: that is found when the state's own
-- words are compared with these.
unfoldable pub state_in : List ℕ → List ℕ → List ℕ → List ℕ → List ℕ → List ℕ → State
state_in us ns ds ts ps cs =
    let D = min (get_or ns 4 0) 16 in
    let dims = listed (dim_at ds) D 0 in
    let discovered = eqb (get_or ns 2 0) 1 in
    let closed = get_or ns 6 0 % 2 ^ 32 in
    let candidates = cond discovered (max (get_or ns 3 0) (get_or ns 5 0)) 0 in
    let parents = cond (eqb closed 0) 0 (get_or ns 3 0) in
    record {
      setup = setup_in us;
      first = word_option (get_or ns 0 0) (get_or ns 1 0);
      discovered = discovered;
      n = get_or ns 3 0;
      n_dims = get_or ns 4 0;
      dims = pad_to 16 blank_dim dims;
      candidates = pad_to 224 blank_candidate (listed (λ i. candidate_in dims (row cs D i)) (min candidates 224) 0);
      parents = pad_to 160 blank_member (listed (λ i. member_in dims (row ps (D + 1) i)) (min parents 160) 0);
      n_trials = get_or ns 5 0;
      trials = pad_to 224 blank_trial (listed (λ i. trial_in (row ts 2 i)) (min (get_or ns 5 0) 224) 0);
      best = get_or ns 8 0;
      word = get_or ns 9 0;
      closed = closed;
      idle = get_or ns 7 0 % 2 ^ 32;
    }

-- the same, of six tables in the order of their kinds
abbrev pub words_at : List Table → ℕ → List ℕ
words_at ts k = (get_or ts k (record { words = []; filled = [] })).words

abbrev pub state_of : List Table → State
state_of ts = state_in (words_at ts 0) (words_at ts 1) (words_at ts 2) (words_at ts 3) (words_at ts 4) (words_at ts 5)
