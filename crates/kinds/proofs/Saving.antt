-- A sound state comes back from its own records, if these have a place for all of it.
use Rattle.std.specs.Prelude.{Option, Some, None, is_none, not}
use Prim.Native.Nat.{ℕ, ◌+◌, ◌-◌, ◌%◌, ◌^◌, ◌≤◌, min, max}
use native.Mathlib.Omega.{arith}
use mathlib.Core.Bool.{Bool, true, false, cond, true≢false}
use mathlib.Core.List.{List}
use mathlib.Core.Path.{◌≡◌, refl, sym, ap, ◌∙◌}
use lib.Dec.{eqb}
use lib.ListN.{length, take, drop, replicate}
use lib.Seq.{length-take-le}
use Rattle.rng_util.specs.Many.{pad_to, listed}
use Rattle.distribution.specs.Good.{Good}
use Rattle.distribution.specs.Validate.{judged}
use Rattle.distribution.specs.declared.DimensionInfo.{DimensionInfo}
use Rattle.distribution.specs.declared.Distribution.{Distribution}
use Rattle.distribution.specs.declared.Distribution.TheVariants as D
use Rattle.distribution.proofs.Meaning.{judged-good}
use Rattle.distribution.specs.Dims.{is_ladder}
use Rattle.ledger.specs.State.{cap}
use Rattle.ledger.specs.Words.{All, all}
use Rattle.candidates.specs.Candidate.{blank_candidate}
use Rattle.evolution.specs.declared.Member.{Member}
use Rattle.selection.specs.Records.{blank_member}
use Rattle.kernel.specs.De.{member_of}
use Rattle.kernel.specs.Fits.{fits}
use Rattle.state.specs.Blank.{blank_dim, blank_trial, is_blank_dim, is_blank_candidate, is_blank_member}
use Rattle.state.specs.Places.{places_fit, passes, member_fits}
use Rattle.state.specs.Sound.{sound_state}
use Rattle.state.specs.View.{candidate_count, parent_count, trial_of, progress_of, parent_of, view, laid}
use Rattle.state.specs.declared.State.{State}
use Rattle.std.proofs.lemmas.Bool.{and_parts}
use Rattle.state.proofs.Laid.{back}
use Rattle.state.proofs.Parts.{Parts}
use Rattle.state.proofs.Tidy.{sound-few, is-laid}
use Rattle.state.proofs.Measured.{arrays-of}
use Rattle.state.proofs.Whole.{of-sound, few-candidates, few-parents}
use Rattle.records.proofs.Lists.{all_of, all_take}
use Rattle.kinds.specs.Opened.{row, dim_at, state_in}
use Rattle.kinds.specs.Rows.{flag, setup_words, dim_words, dim_in, trial_words, trial_in, candidate_words, candidate_in, member_words, member_in}
use Rattle.std.specs.List.{flat_map}
use Rattle.kinds.specs.Kinds.{dims_of, has_place, count_words, dims_words, trials_words, parents_words, candidates_words}
use Rattle.kinds.specs.Typed.{Double, TypedDistribution, TypedState, TypedCandidate}
use Rattle.kinds.proofs.Back.{Sayable, Returns, option_back, setup-back, rows_back, dim-returns, trial-returns, candidate-returns, member-returns}
use Rattle.kinds.proofs.Place.{setup-placed, dims-placed}
use Rattle.kinds.proofs.Typed.{measured-of}

-- a flag that is not set
not-set : (b : Bool) → not b ≡ true → b ≡ false
not-set false e = refl
not-set true e = absurd (true≢false (sym e))

-- a good Float has no log flag, and an Int that has a place has none
sayable : (d : Distribution) → TypedDistribution d → Good d → not (is_ladder d) ≡ true → Sayable d
sayable (D.Float d) t g h = (t.0, t.1, g.not_log, t.2)
sayable (D.Int d) t g h = (t.0, t.1, not-set d.log_scale h, t.2)
sayable (D.Categorical d) t g h = tt

-- ---- lists

pub none_of : (o : Option ℕ) → is_none o ≡ true → o ≡ None
none_of None e = refl
none_of (Some n) e = absurd (true≢false (sym e))

pub in_use : {A : Type 0} (right blank : A → Bool) (n : ℕ) (xs : List A) → places_fit right blank n xs ≡ true → All (λ x. right x ≡ true) (take n xs)
unfolding places_fit
in_use right blank n xs e = all_of right (take n xs) (and_parts (all right (take n xs)) (all blank (drop n xs)) e).0

min-is : (n m : ℕ) → n ≤ m → min n m ≡ n
min-is n m h = omega arith

pub flag-back : (b : Bool) → eqb (flag b) 1 ≡ b
flag-back true = refl
flag-back false = refl

small-back : (n : ℕ) → n ≤ cap → n % 2 ^ 32 ≡ n
small-back n h = omega arith

-- ---- the state

module _ (s : State) (e : sound_state s ≡ true) (p : TypedState s) (h : has_place s ≡ true) where
  parts : Parts s
  parts = of-sound s (arrays-of (measured-of s p)) e

  whole : s ≡ laid s.setup (view s)
  whole = is-laid s e (measured-of s p)

  -- the words of each kind, with zeros after them
  abbrev in_table : List ℕ → List ℕ
  in_table ws = pad_to 3600 0 ws

  pub dims-count : length (dims_of s) ≡ s.n_dims
  dims-count = length-take-le s.n_dims s.dims (omega (arith, (measured-of s p).dims, parts.few_dims))

  pub trials-count : length (take s.n_trials s.trials) ≡ s.n_trials
  trials-count = length-take-le s.n_trials s.trials (omega (arith, (measured-of s p).trials, (sound-few s e (measured-of s p)).trials))

  pub candidates-count : length (take (candidate_count s) s.candidates) ≡ candidate_count s
  candidates-count = length-take-le (candidate_count s) s.candidates (omega (arith, (measured-of s p).candidates, few-candidates s (sound-few s e (measured-of s p))))

  pub parents-count : length (take (parent_count s) s.parents) ≡ parent_count s
  parents-count = length-take-le (parent_count s) s.parents (omega (arith, (measured-of s p).parents, few-parents s (sound-few s e (measured-of s p))))

  pub dims-return : All (Returns dim_words dim_in 5) (dims_of s)
  dims-return d m =
      dim-returns d (sayable d.distribution (all_take (λ (d : DimensionInfo). TypedDistribution d.distribution) s.n_dims s.dims p.dims d m)
      (judged-good d.distribution (none_of (judged d.distribution) (in_use passes is_blank_dim s.n_dims s.dims parts.dims d m)))
      (dims-placed s h d m))

  pub candidates-return : All (Returns (candidate_words (dims_of s)) (candidate_in (dims_of s)) (length (dims_of s))) (take (candidate_count s) s.candidates)
  candidates-return y m =
      candidate-returns (dims_of s) y (all_take TypedCandidate (candidate_count s) s.candidates p.candidates y m)
      (in_use (fits (dims_of s)) is_blank_candidate (candidate_count s) s.candidates parts.candidates y m)

  pub parents-return : All (Returns (member_words (dims_of s)) (member_in (dims_of s)) (length (dims_of s) + 1)) (take (parent_count s) s.parents)
  parents-return y m =
      let t = all_take (λ (m : Member). TypedCandidate m.candidate × Double m.value) (parent_count s) s.parents p.parents y m in
      member-returns (dims_of s) y t.0 t.1
      (and_parts (fits (dims_of s) y.candidate) _ (in_use (member_fits (dims_of s)) is_blank_member (parent_count s) s.parents parts.parents y m)).0

  -- ---- each array

  dims-least : min s.n_dims 16 ≡ length (dims_of s)
  dims-least = min-is s.n_dims 16 parts.few_dims ∙ sym dims-count

  pub dims-read : listed (dim_at (in_table (dims_words s))) (min s.n_dims 16) 0 ≡ dims_of s
  unfolding dims_words
  dims-read = ap (λ (n : ℕ). listed (dim_at (in_table (flat_map dim_words (dims_of s)))) n 0) dims-least ∙ rows_back dim_words dim_in 5 (dims_of s) _ dims-return

  trials-read : listed (λ i. trial_in (row (in_table (trials_words s)) 2 i)) (min s.n_trials 224) 0 ≡ take s.n_trials s.trials
  unfolding trials_words
  trials-read =
      ap (λ (n : ℕ). listed (λ i. trial_in (row (in_table (flat_map trial_words (take s.n_trials s.trials))) 2 i)) n 0)
      (min-is s.n_trials 224 (sound-few s e (measured-of s p)).trials ∙ sym trials-count)
      ∙ rows_back trial_words trial_in 2 (take s.n_trials s.trials) _ (λ t m. trial-returns t)

  -- by how many, of which dimensions and in rows how wide: as the table says, and as the state has them
  candidates-read : (k : ℕ) → k ≡ candidate_count s
      → listed (λ i. candidate_in (listed (dim_at (in_table (dims_words s))) (min s.n_dims 16) 0) (row (in_table (candidates_words s)) (min s.n_dims 16) i)) (min k 224) 0
      ≡ take (candidate_count s) s.candidates
  unfolding candidates_words
  candidates-read k q =
      let c : min k 224 ≡ length (take (candidate_count s) s.candidates) =
      ap (λ (n : ℕ). min n 224) q ∙ min-is (candidate_count s) 224 (few-candidates s (sound-few s e (measured-of s p))) ∙ sym candidates-count in
      (λ j. listed (λ i. candidate_in (dims-read j) (row (in_table (flat_map (candidate_words (dims_of s)) (take (candidate_count s) s.candidates))) (dims-least j) i)) (c j) 0)
      ∙ rows_back (candidate_words (dims_of s)) (candidate_in (dims_of s)) (length (dims_of s)) (take (candidate_count s) s.candidates) _ candidates-return

  parents-read : (k : ℕ) → k ≡ parent_count s
      → listed (λ i. member_in (listed (dim_at (in_table (dims_words s))) (min s.n_dims 16) 0) (row (in_table (parents_words s)) (min s.n_dims 16 + 1) i)) (min k 160) 0
      ≡ take (parent_count s) s.parents
  unfolding parents_words
  parents-read k q =
      let c : min k 160 ≡ length (take (parent_count s) s.parents) =
      ap (λ (n : ℕ). min n 160) q ∙ min-is (parent_count s) 160 (few-parents s (sound-few s e (measured-of s p))) ∙ sym parents-count in
      (λ j. listed (λ i. member_in (dims-read j) (row (in_table (flat_map (member_words (dims_of s)) (take (parent_count s) s.parents))) (dims-least j + 1) i)) (c j) 0)
      ∙ rows_back (member_words (dims_of s)) (member_in (dims_of s)) (length (dims_of s) + 1) (take (parent_count s) s.parents) _ parents-return

  -- ---- unused places

  dims-whole : pad_to 16 blank_dim (dims_of s) ≡ s.dims
  unfolding laid view
  dims-whole = ap (λ (t : State). t.dims) (sym whole)

  candidates-whole : pad_to 224 blank_candidate (take (candidate_count s) s.candidates) ≡ s.candidates
  unfolding laid view
  candidates-whole = ap (λ (t : State). t.candidates) (sym whole)

  trials-whole : pad_to 224 blank_trial (take s.n_trials s.trials) ≡ s.trials
  unfolding laid view
  trials-whole = ap (pad_to 224 blank_trial) (sym (back progress_of trial_of (take s.n_trials s.trials) (λ x. refl))) ∙ ap (λ (t : State). t.trials) (sym whole)

  parents-whole : pad_to 160 blank_member (take (parent_count s) s.parents) ≡ s.parents
  unfolding laid view
  parents-whole = ap (pad_to 160 blank_member) (sym (back member_of parent_of (take (parent_count s) s.parents) (λ x. refl))) ∙ ap (λ (t : State). t.parents) (sym whole)

  -- THE STATE COMES BACK from the tables of its words
  pub state-back : state_in (in_table (setup_words s.setup)) (in_table (count_words s)) (in_table (dims_words s)) (in_table (trials_words s)) (in_table (parents_words s)) (in_table (candidates_words s)) ≡ s
  unfolding state_in count_words
  state-back =
      let closed = small-back s.closed (measured-of s p).closed in
      λ i. record {
        setup = setup-back s.setup (replicate (3600 - length (setup_words s.setup)) 0) (setup-placed s h) p.factor p.rate i;
        first = option_back s.first i;
        discovered = flag-back s.discovered i;
        n = s.n;
        n_dims = s.n_dims;
        dims = (ap (pad_to 16 blank_dim) dims-read ∙ dims-whole) i;
        candidates = (ap (pad_to 224 blank_candidate) (candidates-read _ (ap (λ (b : Bool). cond b (max s.n s.n_trials) 0) (flag-back s.discovered))) ∙ candidates-whole) i;
        parents = (ap (pad_to 160 blank_member) (parents-read _ (ap (λ (n : ℕ). cond (eqb n 0) 0 s.n) closed)) ∙ parents-whole) i;
        n_trials = s.n_trials;
        trials = (ap (pad_to 224 blank_trial) trials-read ∙ trials-whole) i;
        best = s.best;
        word = s.word;
        closed = closed i;
        idle = small-back s.idle (measured-of s p).idle i;
      }
