-- A state is sound exactly where all parts pass: clause by clause, the definition's test of the view against the code's of counts and arrays.
use Rattle.std.specs.Prelude.{Some, None, is_some, is_ok}
use Prim.Native.Nat.{ℕ, ◌+◌, ◌≤◌, max}
use native.Mathlib.Omega.{arith}
use mathlib.Core.Path.{◌≡◌, refl, sym, ap, ◌∙◌}
use mathlib.Core.Bool.{Bool, true, false, ◌||◌, cond, beq, true≢false}
use mathlib.Core.List.{List, [], map}
use borrow.Author.Tests.{le-leb, leb-true, eq-eqb, eqb-true}
use lib.Dec.{eqb, leb}
use lib.ListN.{length, take, drop, length-map, length-take}
use lib.Seq.{length-take-le}
use Rattle.candidates.specs.Space.{continuous_count}
use Rattle.candidates.specs.declared.Candidate.{Candidate}
use Rattle.candidates.proofs.Passed.{few-continuous}
use Rattle.selection.specs.Size.{size_of}
use Rattle.ledger.specs.Words.{all, every, is_empty, differing}
use Rattle.ledger.specs.Kernel.{Parent}
use Rattle.ledger.specs.State as Plain
use Rattle.ledger.specs.Closing.{best_of}
use Rattle.ledger.specs.Soundness.{is_number, discovering_tests, running_tests, phase_test, sound_tests, sound_test}
use Rattle.kernel.specs.De.{de}
use Rattle.kernel.specs.Fits.{fits}
use Rattle.state.specs.Blank.{is_blank_dim, is_blank_trial, is_blank_candidate, is_blank_member}
use Rattle.kernel.specs.Setup.{setup_verdict}
use Rattle.state.specs.View.{trial_of, parent_of, size_in, dims_of, candidate_count, parent_count, view}
use Rattle.state.specs.Places.{passes, next_fits, member_fits, discovering_counts, running_counts, counts_sound}
use Rattle.state.specs.Sound.{clean_tests, clean_test, sound_state, Few}
use Rattle.state.specs.declared.State.{State}
use Rattle.std.proofs.lemmas.Bool.{and_parts}
use Rattle.state.proofs.Flags.{and-true, bool-ext, every-at, five, all-five}
use Rattle.state.proofs.Measured.{Arrays}
use Rattle.state.proofs.Parts.{Parts, parents_of, all_map, numbers-are, none_of, empty_of, split_places, join-places, split-parents, join-parents}
use Rattle.state.proofs.Sizes.{size_few}

abbrev named : State → Bool
named s = is_some s.first

abbrev size_for : State → ℕ
size_for s = size_of s.setup.population_size (continuous_count (dims_of s))

-- the counts' test, by whether discovery has ended
abbrev phase_counts : State → Bool → Bool
phase_counts s d = cond d (running_counts (size_for s) s) (discovering_counts s)

abbrev pub count_test : State → Bool
count_test s = counts_sound (continuous_count (dims_of s)) s

split-counts : (s : State) → count_test s ≡ true → (is_ok (setup_verdict s.setup) ≡ true) × (phase_counts s s.discovered ≡ true)
unfolding counts_sound
split-counts s e = and_parts (is_ok (setup_verdict s.setup)) _ e

join-counts : (s : State) (d : Bool) → s.discovered ≡ d → is_ok (setup_verdict s.setup) ≡ true → phase_counts s d ≡ true → count_test s ≡ true
unfolding counts_sound
join-counts s d q ok e = and-true ok (ap (phase_counts s) q ∙ e)

-- ---- N and the trials are few

module _ (s : State) (ok : is_ok (setup_verdict s.setup) ≡ true) (few_dims : s.n_dims ≤ 16) where
  size-at-most : size_for s ≤ 160
  size-at-most = size_few s.setup (continuous_count (dims_of s)) ok (omega (arith, few-continuous (dims_of s), length-take s.n_dims s.dims))

  counts-few : (d : Bool) → phase_counts s d ≡ true → Few s
  unfolding running_counts discovering_counts
  counts-few true e =
      let r = five (leb 1 s.n_dims) (named s) (eqb s.n (size_for s)) (leb s.n_trials (size_for s + 64)) (leb s.idle s.closed) e in
      let n : s.n ≡ size_for s = eqb-true s.n (size_for s) r.2 in
      let t : s.n_trials ≤ size_for s + 64 = leb-true s.n_trials (size_for s + 64) r.3 in
      let z : size_for s ≤ 160 = size-at-most in
      record { dims = few_dims; slots = omega arith; trials = omega arith }
  counts-few false e =
      let r = five (eqb s.n 0) (eqb s.n_trials 0) (eqb s.closed 0) (eqb s.idle 0) (beq (named s) (leb 1 s.n_dims)) e in
      let n : s.n ≡ 0 = eqb-true s.n 0 r.0 in
      let t : s.n_trials ≡ 0 = eqb-true s.n_trials 0 r.1 in
      record { dims = few_dims; slots = omega arith; trials = omega arith }

pub few-of : (s : State) → s.n_dims ≤ 16 → count_test s ≡ true → Few s
few-of s h e = let r = split-counts s e in counts-few s r.0 h s.discovered r.1

pub few-candidates : (s : State) → Few s → candidate_count s ≤ 224
few-candidates s f = go s.discovered
  where
    go : (b : Bool) → cond b (max s.n s.n_trials) 0 ≤ 224
    go true = omega (arith, f.slots, f.trials)
    go false = omega arith

pub few-parents : (s : State) → Few s → parent_count s ≤ 160
few-parents s f = go (eqb s.closed 0)
  where
    go : (b : Bool) → cond b 0 s.n ≤ 160
    go true = omega arith
    go false = f.slots

-- ---- how much is in use

module _ (s : State) (m : Arrays s) where
  dims-many : s.n_dims ≤ 16 → length (dims_of s) ≡ s.n_dims
  dims-many h = length-take-le s.n_dims s.dims (omega (arith, m.dims))

  trials-many : s.n_trials ≤ 224 → length (map trial_of (take s.n_trials s.trials)) ≡ s.n_trials
  trials-many h = length-map (take s.n_trials s.trials) trial_of ∙ length-take-le s.n_trials s.trials (omega (arith, m.trials))

  candidates-many : Few s → length (take (candidate_count s) s.candidates) ≡ candidate_count s
  candidates-many f = length-take-le (candidate_count s) s.candidates (omega (arith, few-candidates s f, m.candidates))

  parents-many : Few s → length (parents_of s) ≡ parent_count s
  parents-many f = length-map (take (parent_count s) s.parents) parent_of ∙ length-take-le (parent_count s) s.parents (omega (arith, few-parents s f, m.parents))

  -- none before a closing, N after it
  parents-counted : Few s → cond (eqb s.closed 0) (is_empty (parents_of s)) (eqb (length (parents_of s)) s.n) ≡ true
  parents-counted f = go (eqb s.closed 0) refl
    where
      go : (b : Bool) → eqb s.closed 0 ≡ b → cond b (is_empty (parents_of s)) (eqb (length (parents_of s)) s.n) ≡ true
      go true e = ap is_empty (none_of (parents_of s) (parents-many f ∙ ap (λ (b : Bool). cond b 0 s.n) e))
      go false e = eq-eqb _ _ (parents-many f ∙ ap (λ (b : Bool). cond b 0 s.n) e)

  -- ---- from the parts to the test

  module _ (p : Parts s) where
    ok : is_ok (setup_verdict s.setup) ≡ true
    ok = (split-counts s p.counts).0

    few : Few s
    few = few-of s p.few_dims p.counts

    dims-len : length (dims_of s) ≡ s.n_dims
    dims-len = dims-many p.few_dims

    trials-len : length (map trial_of (take s.n_trials s.trials)) ≡ s.n_trials
    trials-len = trials-many few.trials

    running : s.discovered ≡ true → phase_counts s true ≡ true → phase_test de s.setup (Some s.n) (view s) ≡ true
    unfolding view running_counts
    running q e =
        let r = five (leb 1 s.n_dims) (named s) (eqb s.n (size_for s)) (leb s.n_trials (size_for s + 64)) (leb s.idle s.closed) e in
        let n : s.n ≡ size_for s = eqb-true s.n (size_for s) r.2 in
        let ps = split-parents (dims_of s) (take (parent_count s) s.parents) (split_places (member_fits (dims_of s)) is_blank_member (parent_count s) s.parents p.parents).0 in
        and-true (ap (λ (k : ℕ). leb 1 k) dims-len ∙ r.0)
        (and-true r.1
        (and-true r.2
        (and-true (eq-eqb (length (take (candidate_count s) s.candidates)) _ (candidates-many few ∙ ap (λ (b : Bool). cond b (max s.n s.n_trials) 0) q ∙ ap (λ (k : ℕ). max s.n k) (sym trials-len)))
        (and-true (ap (λ (k : ℕ). leb k (s.n + 64)) trials-len ∙ ap (λ (k : ℕ). leb s.n_trials (k + 64)) n ∙ r.3)
        (and-true (ap differing (numbers-are (take s.n_trials s.trials)) ∙ p.differ)
        (and-true (ap (λ (k : ℕ). all (λ (t : Plain.Trial). leb t.next k) (map trial_of (take s.n_trials s.trials))) dims-len
        ∙ all_map (λ (t : Plain.Trial). leb t.next s.n_dims) trial_of (take s.n_trials s.trials) ∙ (split_places (next_fits s.n_dims) is_blank_trial s.n_trials s.trials p.trials).0)
        (and-true (split_places (fits (dims_of s)) is_blank_candidate (candidate_count s) s.candidates p.candidates).0
        (and-true (parents-counted few)
        (and-true ps.0
        (and-true ps.1
        (and-true p.best
        (and-true r.4
        (and-true (le-leb s.closed Plain.cap m.closed)
        refl)))))))))))))

    discovering : s.discovered ≡ false → phase_counts s false ≡ true → phase_test de s.setup None (view s) ≡ true
    unfolding view discovering_counts best_of
    discovering q e =
        let r = five (eqb s.n 0) (eqb s.n_trials 0) (eqb s.closed 0) (eqb s.idle 0) (beq (named s) (leb 1 s.n_dims)) e in
        let no-parents : parents_of s ≡ [] = ap (λ (b : Bool). map parent_of (take (cond b 0 s.n) s.parents)) r.2 in
        and-true (ap (λ (b : Bool). is_empty (take (cond b (max s.n s.n_trials) 0) s.candidates)) q)
        (and-true (ap (λ (k : ℕ). is_empty (map trial_of (take k s.trials))) (eqb-true s.n_trials 0 r.1))
        (and-true (ap is_empty no-parents)
        (and-true (sym (ap (λ (ps : List (Parent Candidate)). eqb s.best (best_of (Plain.values de ps))) no-parents) ∙ p.best)
        (and-true r.2
        (and-true r.3
        (and-true (ap (λ (k : ℕ). beq (named s) (leb 1 k)) dims-len ∙ r.4)
        refl))))))

    phase : (d : Bool) → s.discovered ≡ d → phase_counts s d ≡ true → ((d || eqb s.n 0) ≡ true) × (phase_test de s.setup (size_in d s.n) (view s) ≡ true)
    unfolding discovering_counts
    phase true q e = (refl, running q e)
    phase false q e =
        ((five (eqb s.n 0) (eqb s.n_trials 0) (eqb s.closed 0) (eqb s.idle 0) (beq (named s) (leb 1 s.n_dims)) e).0, discovering q e)

    pub sound-of : sound_state s ≡ true
    unfolding sound_state clean_test sound_test view
    sound-of =
        let f = phase s.discovered refl (split-counts s p.counts).1 in
        and-true
        (and-true (le-leb _ _ p.few_dims)
        (and-true (le-leb _ _ few.trials)
        (and-true (split_places passes is_blank_dim s.n_dims s.dims p.dims).1
        (and-true (split_places (fits (dims_of s)) is_blank_candidate (candidate_count s) s.candidates p.candidates).1
        (and-true (split_places (member_fits (dims_of s)) is_blank_member (parent_count s) s.parents p.parents).1
        (and-true (split_places (next_fits s.n_dims) is_blank_trial s.n_trials s.trials p.trials).1
        (and-true f.0
        refl)))))))
        (and-true ok
        (and-true (split_places passes is_blank_dim s.n_dims s.dims p.dims).0
        (and-true (ap (λ (k : ℕ). leb k 16) dims-len ∙ le-leb _ _ p.few_dims)
        (and-true f.1
        refl))))

  -- ---- from the test to the parts

  -- what the clean test leaves
  pub record Clean : Type 0 where
    pub few_dims : s.n_dims ≤ 16
    pub few_trials : s.n_trials ≤ 224
    pub dims : all is_blank_dim (drop s.n_dims s.dims) ≡ true
    pub candidates : all is_blank_candidate (drop (candidate_count s) s.candidates) ≡ true
    pub parents : all is_blank_member (drop (parent_count s) s.parents) ≡ true
    pub trials : all is_blank_trial (drop s.n_trials s.trials) ≡ true
    pub no_slots : (s.discovered || eqb s.n 0) ≡ true

  pub clean_of : clean_test s ≡ true → Clean
  unfolding clean_test
  clean_of e =
      let k = every-at (clean_tests s) e in
      record {
        few_dims = leb-true _ _ (k 0 _ refl);
        few_trials = leb-true _ _ (k 1 _ refl);
        dims = k 2 _ refl;
        candidates = k 3 _ refl;
        parents = k 4 _ refl;
        trials = k 5 _ refl;
        no_slots = k 6 _ refl;
      }

  module _ (k : Clean) (valid : is_ok (setup_verdict s.setup) ≡ true) (dims_pass : all passes (dims_of s) ≡ true) where
    dims-len' : length (dims_of s) ≡ s.n_dims
    dims-len' = dims-many k.few_dims

    trials-len' : length (map trial_of (take s.n_trials s.trials)) ≡ s.n_trials
    trials-len' = trials-many k.few_trials

    of-running : s.discovered ≡ true → every (running_tests de s.setup s.n (view s)) ≡ true → Parts s
    unfolding view running_counts
    of-running q x =
        let at = every-at (running_tests de s.setup s.n (view s)) x in
        let n : s.n ≡ size_for s = eqb-true s.n (size_for s) (at 2 _ refl) in
        record {
          few_dims = k.few_dims;
          dims = join-places passes is_blank_dim s.n_dims s.dims dims_pass k.dims;
          counts = join-counts s true q valid
              (all-five (ap (λ (j : ℕ). leb 1 j) (sym dims-len') ∙ at 0 _ refl) (at 1 _ refl) (at 2 _ refl)
              (ap (λ (j : ℕ). leb s.n_trials (j + 64)) (sym n) ∙ ap (λ (j : ℕ). leb j (s.n + 64)) (sym trials-len') ∙ at 4 _ refl) (at 12 _ refl));
          candidates = join-places (fits (dims_of s)) is_blank_candidate (candidate_count s) s.candidates (at 7 _ refl) k.candidates;
          trials = join-places (next_fits s.n_dims) is_blank_trial s.n_trials s.trials
              (sym (all_map (λ (t : Plain.Trial). leb t.next s.n_dims) trial_of (take s.n_trials s.trials))
              ∙ ap (λ (j : ℕ). all (λ (t : Plain.Trial). leb t.next j) (map trial_of (take s.n_trials s.trials))) (sym dims-len') ∙ at 6 _ refl)
              k.trials;
          differ = ap differing (sym (numbers-are (take s.n_trials s.trials))) ∙ at 5 _ refl;
          parents = join-places (member_fits (dims_of s)) is_blank_member (parent_count s) s.parents (join-parents (dims_of s) (take (parent_count s) s.parents) (at 9 _ refl) (at 10 _ refl)) k.parents;
          best = at 11 _ refl;
        }

    of-discovering : s.discovered ≡ false → every (discovering_tests de (view s)) ≡ true → Parts s
    unfolding view discovering_counts best_of differing all
    of-discovering q x =
        let at = every-at (discovering_tests de (view s)) x in
        let no_trials : map trial_of (take s.n_trials s.trials) ≡ [] = empty_of _ (at 1 _ refl) in
        let no_candidates : take (candidate_count s) s.candidates ≡ [] = empty_of _ (at 0 _ refl) in
        let no-parents : parents_of s ≡ [] = empty_of (parents_of s) (at 2 _ refl) in
        record {
          few_dims = k.few_dims;
          dims = join-places passes is_blank_dim s.n_dims s.dims dims_pass k.dims;
          counts = join-counts s false q valid
              (all-five (ap (λ (b : Bool). b || eqb s.n 0) (sym q) ∙ k.no_slots) (eq-eqb s.n_trials 0 (sym trials-len' ∙ ap length no_trials)) (at 4 _ refl) (at 5 _ refl)
              (ap (λ (j : ℕ). beq (named s) (leb 1 j)) (sym dims-len') ∙ at 6 _ refl));
          candidates = join-places (fits (dims_of s)) is_blank_candidate (candidate_count s) s.candidates (ap (all (fits (dims_of s))) no_candidates) k.candidates;
          trials = join-places (next_fits s.n_dims) is_blank_trial s.n_trials s.trials
              (sym (all_map (λ (t : Plain.Trial). leb t.next s.n_dims) trial_of (take s.n_trials s.trials)) ∙ ap (all (λ (t : Plain.Trial). leb t.next s.n_dims)) no_trials)
              k.trials;
          differ = ap differing (sym (numbers-are (take s.n_trials s.trials))) ∙ ap (λ (ts : List Plain.Trial). differing (Plain.numbers ts)) no_trials;
          parents = join-places (member_fits (dims_of s)) is_blank_member (parent_count s) s.parents
              (join-parents (dims_of s) (take (parent_count s) s.parents) (ap (all (λ (p : Parent Candidate). fits (dims_of s) p.candidate)) no-parents) (ap (all (λ (p : Parent Candidate). is_number p.value)) no-parents))
              k.parents;
          best = ap (λ (ps : List (Parent Candidate)). eqb s.best (best_of (Plain.values de ps))) no-parents ∙ at 3 _ refl;
        }

    of-phase : (d : Bool) → s.discovered ≡ d → phase_test de s.setup (size_in d s.n) (view s) ≡ true → Parts s
    of-phase true q x = of-running q x
    of-phase false q x = of-discovering q x

  pub of-sound : sound_state s ≡ true → Parts s
  unfolding sound_state sound_test view
  of-sound e =
      let a = and_parts (clean_test s) _ e in
      let b = and_parts (is_ok (setup_verdict s.setup)) _ a.1 in
      let t = every-at (sound_tests de s.setup (view s)) b.1 in
      of-phase (clean_of a.0) b.0 (t 0 _ refl) s.discovered refl (t 2 _ refl)

  -- ---- THE SOUNDNESS TEST of the code: a part that fails, and the last part where the others pass

  pub refuted : (t : Bool) → (Parts s → t ≡ true) → t ≡ false → false ≡ sound_state s
  refuted t f e = go (sound_state s) refl
    where
      go : (b : Bool) → sound_state s ≡ b → false ≡ b
      go true q = absurd (true≢false (sym (f (of-sound q)) ∙ e))
      go false q = refl

  pub settled : (t : Bool) → (t ≡ true → Parts s) → (Parts s → t ≡ true) → t ≡ sound_state s
  settled t f g = bool-ext t (sound_state s) (λ e. sound-of (f e)) (λ e. g (of-sound e))
