-- The reader's loops: each row of a table is a part of the state.
use Rattle.std.specs.Prelude.{Option}
use Prim.Native.Nat.{ℕ, zero, suc, ◌+◌, ◌*◌, ◌-◌, ◌%◌, ◌^◌, ◌≤◌, ◌<◌, min, max}
use native.Mathlib.Nat.{mul-le-mul}
use native.Mathlib.Numerals.{add-one}
use native.Mathlib.Omega.{arith}
use mathlib.Core.Bool.{cond}
use mathlib.Core.List.{List, [], ◌∷◌, ◌++◌}
use mathlib.Core.Path.{◌≡◌, sym, ap, ◌∙◌}
use lib.Dec.{eqb}
use lib.ListN.{length, take, drop, get_or, set, replicate}
use lib.Seq.{take_at}
use Rattle.rng_util.specs.Many.{pad_to, listed}
use Rattle.rng_util.proofs.Parts.{pad-put}
use Rattle.distribution.specs.declared.DimensionInfo.{DimensionInfo}
use Rattle.candidates.specs.Candidate.{blank_candidate}
use Rattle.candidates.specs.declared.Candidate.{Candidate}
use Rattle.evolution.specs.declared.Member.{Member}
use Rattle.evolution.specs.declared.Setup.{Setup}
use Rattle.selection.specs.Records.{blank_member}
use Rattle.state.specs.Blank.{blank_dim, blank_trial}
use Rattle.state.specs.declared.State.{State}
use Rattle.state.specs.declared.TrialProgress.{TrialProgress}
use Rattle.records.proofs.Lists.{listed-length}
use Rattle.kinds.specs.Opened.{row, dim_at, state_in}
use Rattle.kinds.specs.Rows.{setup_in, word_option, trial_in, candidate_in, member_in}

-- ---- a loop that reads an item from each row

listed-last : {A : Type 0} (f : ℕ → A) (k i : ℕ) → listed f (suc k) i ≡ listed f k i ++ f (i + k) ∷ []
unfolding listed
listed-last f zero i = let e : i ≡ i + 0 = omega arith in ap (λ j. f j ∷ []) e
listed-last f (suc k) i = let e : i + 1 + k ≡ i + suc k = omega arith in ap (λ l. f i ∷ l) (listed-last f k (i + 1) ∙ ap (λ j. listed f k (i + 1) ++ f j ∷ []) e)

module _ {A : Type 0} (N : ℕ) (blank : A) (reads : List ℕ → A) (ws : List ℕ) (w : ℕ) where
  abbrev item : ℕ → A
  item j = reads (row ws w j)

  -- the first n items are read
  abbrev pub read_to : ℕ → List A
  read_to n = pad_to N blank (listed item n 0)

  pub none-read : replicate N blank ≡ read_to 0
  unfolding listed
  none-read = let e : N ≡ N - 0 = omega arith in ap (λ k. replicate k blank) e

  pub next_read : (i : ℕ) (x : A) (part : List ℕ) (xs : List A) → i < N → x ≡ reads part → part ≡ take ((i + 1) * w - i * w) (drop (i * w) ws) → xs ≡ read_to i → set xs i x ≡ read_to (i + 1)
  next_read i x part xs h p q e =
      let n : (i + 1) * w - i * w ≡ w = omega arith in
      let k : length (listed item i 0) ≡ i = listed-length item i 0 in
      let at : 0 + i ≡ i = omega arith in
      (λ j. set (e j) (sym k j) ((p ∙ ap reads (q ∙ ap (λ m. take m (drop (i * w) ws)) n)) j))
      ∙ pad-put N blank (item i) (listed item i 0) (omega (arith, k))
      ∙ ap (λ j. pad_to N blank (listed item i 0 ++ item j ∷ [])) (sym at)
      ∙ ap (pad_to N blank) (sym (listed-last item i 0))
      ∙ ap read_to (sym (add-one i))

-- rows that fit their table
pub parents_fit : (n d : ℕ) → n ≤ 160 → d ≤ 16 → n * (d + 1) ≤ 3600
parents_fit n d h l = let p : d + 1 ≤ 17 = omega arith in omega (arith, mul-le-mul h p)

pub candidates_fit : (n d : ℕ) → n ≤ 224 → d ≤ 16 → n * d ≤ 3600
candidates_fit n d h l = omega (arith, mul-le-mul h l)

-- the dimensions in use, of an array that has them
dims-back : (ds : List ℕ) (n : ℕ) (dims : List DimensionInfo) → dims ≡ pad_to 16 blank_dim (listed (dim_at ds) n 0) → take n dims ≡ listed (dim_at ds) n 0
dims-back ds n dims e = ap (take n) e ∙ take_at (listed (dim_at ds) n 0) (replicate (16 - length (listed (dim_at ds) n 0)) blank_dim) n (listed-length (dim_at ds) n 0)

module _ (us ns ds ts ps cs : List ℕ) where
  pub opened : (setup : Setup) (first : Option ℕ) (d n-trials n-parents n-candidates : ℕ) (dims : List DimensionInfo) (candidates : List Candidate) (parents : List Member) (trials : List TrialProgress)
      (bm : Member) (bc : Candidate)
      → setup ≡ setup_in us
      → first ≡ word_option (get_or ns 0 0) (get_or ns 1 0)
      → d ≡ min (get_or ns 4 0) 16
      → dims ≡ pad_to 16 blank_dim (listed (dim_at ds) d 0)
      → n-trials ≡ min (get_or ns 5 0) 224
      → trials ≡ pad_to 224 blank_trial (listed (λ i. trial_in (row ts 2 i)) n-trials 0)
      → n-parents ≡ min (cond (eqb (get_or ns 6 0 % 2 ^ 32) 0) 0 (get_or ns 3 0)) 160
      → bm ≡ blank_member
      → parents ≡ pad_to 160 bm (listed (λ i. member_in (take d dims) (row ps (d + 1) i)) n-parents 0)
      → n-candidates ≡ min (cond (eqb (get_or ns 2 0) 1) (max (get_or ns 3 0) (get_or ns 5 0)) 0) 224
      → bc ≡ blank_candidate
      → candidates ≡ pad_to 224 bc (listed (λ i. candidate_in (take d dims) (row cs d i)) n-candidates 0)
      → ◌≡◌ {A = State} (record {
        setup = setup;
        first = first;
        discovered = eqb (get_or ns 2 0) 1;
        n = get_or ns 3 0;
        n_dims = get_or ns 4 0;
        dims = dims;
        candidates = candidates;
        parents = parents;
        n_trials = get_or ns 5 0;
        trials = trials;
        best = get_or ns 8 0;
        word = get_or ns 9 0;
        closed = get_or ns 6 0 % 2 ^ 32;
        idle = get_or ns 7 0 % 2 ^ 32;
      }) (state_in us ns ds ts ps cs)
  unfolding state_in
  opened setup first d n-trials n-parents n-candidates dims candidates parents trials bm bc e1 e2 e3 e4 e5 e6 e7 m e8 e9 c e10 =
      let used : take d dims ≡ listed (dim_at ds) (min (get_or ns 4 0) 16) 0 = dims-back ds d dims e4 ∙ ap (λ (k : ℕ). listed (dim_at ds) k 0) e3 in
      λ j. record {
        setup = e1 j;
        first = e2 j;
        discovered = eqb (get_or ns 2 0) 1;
        n = get_or ns 3 0;
        n_dims = get_or ns 4 0;
        dims = (e4 ∙ ap (λ (k : ℕ). pad_to 16 blank_dim (listed (dim_at ds) k 0)) e3) j;
        candidates = (e10 ∙ (λ k. pad_to 224 (c k) (listed (λ i. candidate_in (used k) (row cs (e3 k) i)) (e9 k) 0))) j;
        parents = (e8 ∙ (λ k. pad_to 160 (m k) (listed (λ i. member_in (used k) (row ps (e3 k + 1) i)) (e7 k) 0))) j;
        n_trials = get_or ns 5 0;
        trials = (e6 ∙ ap (λ (k : ℕ). pad_to 224 blank_trial (listed (λ i. trial_in (row ts 2 i)) k 0)) e5) j;
        best = get_or ns 8 0;
        word = get_or ns 9 0;
        closed = get_or ns 6 0 % 2 ^ 32;
        idle = get_or ns 7 0 % 2 ^ 32;
      }
