-- A plain state that is sound comes back from its layout, which is a sound state again.
use Rattle.std.specs.Prelude.{Option, Some, None, is_ok}
use Prim.Native.Nat.{ℕ, zero, suc, ◌-◌, ◌≤◌, max}
use native.Mathlib.Omega.{arith}
use native.Mathlib.Nat.{not-suc-le-zero, le_of_suc-le-suc, le_refl}
use mathlib.Core.Path.{◌≡◌, refl, sym, ap, ◌∙◌}
use mathlib.Core.Bool.{Bool, true, false, ◌||◌, cond}
use mathlib.Core.List.{List, [], ◌∷◌, ◌++◌, map}
use borrow.Author.Tests.{le-leb, eqb-true, eqb-false}
use lib.Dec.{eqb}
use lib.Ieee.{of_bits, of_fields, odd}
use lib.Count.{count_trailing_zeros}
use lib.ListN.{length, take, drop, replicate, length-map}
use lib.Seq.{take_at}
use Rattle.rng_util.specs.Many.{pad_to}
use Rattle.candidates.specs.Candidate.{blank_candidate}
use Rattle.candidates.specs.Space.{continuous_dims}
use Rattle.candidates.proofs.Passed.{few-continuous}
use Rattle.evolution.specs.declared.Setup.{Setup}
use Rattle.selection.specs.Records.{blank_member}
use Rattle.ledger.specs.Words.{all}
use Rattle.ledger.specs.Kernel.{Laws}
use Rattle.ledger.specs.State as Plain
use Rattle.ledger.specs.Soundness.{Sound, sound_test}
use Rattle.ledger.proofs.Lists.{T→true}
use Rattle.ledger.proofs.SoundTest.{sound-test}
use Rattle.kernel.specs.De.{de, member_of}
use Rattle.kernel.specs.Fits.{entries_fit, choices_fit, fits}
use Rattle.state.specs.Blank.{blank_dim, blank_trial, is_blank_dim, is_blank_trial, is_blank_candidate, is_blank_member}
use Rattle.kernel.specs.Setup.{setup_verdict}
use Rattle.state.specs.View.{trial_of, progress_of, parent_of, size_in, has_size, size_number, candidate_count, parent_count, view, laid}
use Rattle.state.specs.Sound.{clean_test, sound_state}
use Rattle.state.proofs.Flags.{and-true}
use Rattle.state.proofs.Sizes.{size_few}

-- ---- lists in arrays

pub back : {A B : Type 0} (f : B → A) (g : A → B) (xs : List A) → ((x : A) → f (g x) ≡ x) → map f (map g xs) ≡ xs
back f g [] h = refl
back f g (x ∷ xs) h = λ i. h x i ∷ back f g xs h i

-- what is laid out comes back
back_at : {A B : Type 0} (f : B → A) (g : A → B) (n size : ℕ) (b : B) (xs : List A) → ((x : A) → f (g x) ≡ x) → length xs ≡ n → map f (take n (pad_to size b (map g xs))) ≡ xs
back_at f g n size b xs h e = ap (map f) (take_at (map g xs) (replicate (size - length (map g xs)) b) n (length-map xs g ∙ e)) ∙ back f g xs h

all_same : {A : Type 0} (p : A → Bool) (b : A) (n : ℕ) → p b ≡ true → all p (replicate n b) ≡ true
unfolding all
all_same p b zero e = refl
all_same p b (suc n) e = and-true e (all_same p b n e)

all_drop : {A : Type 0} (p : A → Bool) (b : A) (n k : ℕ) → p b ≡ true → all p (drop k (replicate n b)) ≡ true
unfolding all
all_drop p b n zero e = all_same p b n e
all_drop p b zero (suc k) e = refl
all_drop p b (suc n) (suc k) e = all_drop p b n k e

-- past what is laid out all is blank
rest-blank : {A : Type 0} (p : A → Bool) (b : A) (n k : ℕ) (xs : List A) → p b ≡ true → length xs ≤ k → all p (drop k (xs ++ replicate n b)) ≡ true
rest-blank p b n k [] e h = all_drop p b n k e
rest-blank p b n zero (x ∷ xs) e h = absurd (not-suc-le-zero h)
rest-blank p b n (suc k) (x ∷ xs) e h = rest-blank p b n k xs e (le_of_suc-le-suc h)

pad-blank : {A : Type 0} (p : A → Bool) (b : A) (size k : ℕ) (xs : List A) → p b ≡ true → length xs ≤ k → all p (drop k (pad_to size b xs)) ≡ true
pad-blank p b size k xs e h = rest-blank p b (size - length xs) k xs e h

-- ---- how much of a layout is in use

size_back : (o : Option ℕ) → size_in (has_size o) (size_number o) ≡ o
size_back None = refl
size_back (Some n) = refl

first_back : (o : Option ℕ) → o ≡ o
first_back None = refl
first_back (Some n) = refl

module _ (S : Setup) (m : Plain.State de) (v : Sound de S m) where
  candidates-at : (z : Option ℕ) → m.size ≡ z → length m.candidates ≡ cond (has_size z) (max (size_number z) (length m.trials)) 0
  candidates-at None e = ap length (v.before e).no_candidates
  candidates-at (Some N) e = (v.after N e).candidates

  parents-at : (z : Option ℕ) → m.size ≡ z → length m.slots.parents ≡ cond (eqb m.slots.closed 0) 0 (size_number z)
  parents-at None e = ap (λ (o : Plain.Slots de). length o.parents) (v.before e).no_slots ∙ sym (ap (λ (o : Plain.Slots de). cond (eqb o.closed 0) 0 0) (v.before e).no_slots)
  parents-at (Some N) e = go (eqb m.slots.closed 0) refl
    where
      some-closed : (k : ℕ) → (k ≡ 0 → ⊥) → 1 ≤ k
      some-closed k h = omega arith

      go : (b : Bool) → eqb m.slots.closed 0 ≡ b → length m.slots.parents ≡ cond b 0 N
      go true q = ap length ((v.after N e).none_yet (eqb-true _ _ q))
      go false q = (v.after N e).parents (some-closed m.slots.closed (eqb-false _ _ q))

  pub candidates-laid : length m.candidates ≡ candidate_count (laid S m)
  unfolding laid
  candidates-laid = candidates-at m.size refl

  pub parents-laid : length m.slots.parents ≡ parent_count (laid S m)
  unfolding laid
  parents-laid = parents-at m.size refl

  -- ---- it comes back

  pub view-laid : view (laid S m) ≡ m
  unfolding view laid
  view-laid = λ i.
      record {
        word = m.word;
        first = first_back m.first i;
        dims = take_at m.dims (replicate (16 - length m.dims) blank_dim) (length m.dims) refl i;
        size = size_back m.size i;
        candidates = take_at m.candidates (replicate (224 - length m.candidates) blank_candidate) _ (candidates-at m.size refl) i;
        trials = back_at trial_of progress_of (length m.trials) 224 blank_trial m.trials (λ x. refl) refl i;
        slots = record {
          parents = back_at parent_of member_of _ 160 blank_member m.slots.parents (λ x. refl) (parents-at m.size refl) i;
          best = m.slots.best;
          closed = m.slots.closed;
          idle = m.slots.idle;
        };
      }

  -- ---- the bounds of the arrays

  module _ (ok : is_ok (setup_verdict S) ≡ true) where
    pub slots-few : (N : ℕ) → m.size ≡ Some N → N ≤ 160
    slots-few N e = omega (arith, (v.after N e).sized, size_few S (length (continuous_dims m.dims)) ok (omega (arith, few-continuous m.dims, v.dims_few)))

    pub trials-few : length m.trials ≤ 224
    trials-few = go m.size refl
      where
        go : (z : Option ℕ) → m.size ≡ z → length m.trials ≤ 224
        go None e = omega (arith, ap length (v.before e).no_trials)
        go (Some N) e = omega (arith, (v.after N e).extras, slots-few N e)

    pub candidates-few : length m.candidates ≤ 224
    candidates-few = go m.size refl
      where
        go : (z : Option ℕ) → m.size ≡ z → length m.candidates ≤ 224
        go None e = omega (arith, ap length (v.before e).no_candidates)
        go (Some N) e = omega (arith, (v.after N e).candidates, slots-few N e, trials-few)

    pub parents-few : length m.slots.parents ≤ 160
    parents-few = go m.size refl
      where
        at_most : (N : ℕ) (b : Bool) → N ≤ 160 → cond b 0 N ≤ 160
        at_most N true h = omega arith
        at_most N false h = h

        go : (z : Option ℕ) → m.size ≡ z → length m.slots.parents ≤ 160
        go None e = omega (arith, ap (λ (o : Plain.Slots de). length o.parents) (v.before e).no_slots)
        go (Some N) e = omega (arith, parents-at (Some N) e, at_most N (eqb m.slots.closed 0) (slots-few N e))

    -- ---- and it is sound

    clean-laid : clean_test (laid S m) ≡ true
    unfolding clean_test laid entries_fit choices_fit fits continuous_dims all of_bits of_fields odd count_trailing_zeros
    clean-laid =
        and-true (le-leb _ _ v.dims_few)
        (and-true (le-leb _ _ trials-few)
        (and-true (pad-blank is_blank_dim blank_dim 16 (length m.dims) m.dims refl (le_refl _))
        (and-true (pad-blank is_blank_candidate blank_candidate 224 (candidate_count (laid S m)) m.candidates refl (omega (arith, candidates-laid)))
        (and-true (pad-blank is_blank_member blank_member 160 (parent_count (laid S m)) (map member_of m.slots.parents) refl (omega (arith, parents-laid, length-map m.slots.parents member_of)))
        (and-true (pad-blank is_blank_trial blank_trial 224 (length m.trials) (map progress_of m.trials) refl (omega (arith, length-map m.trials progress_of)))
        (and-true (sized-or-none m.size)
        refl))))))
      where
        sized-or-none : (z : Option ℕ) → (has_size z || eqb (size_number z) 0) ≡ true
        sized-or-none None = refl
        sized-or-none (Some n) = refl

    pub laid-sound : Laws de → sound_state (laid S m) ≡ true
    unfolding sound_state laid
    laid-sound L = and-true clean-laid (and-true ok (ap (sound_test de S) view-laid ∙ T→true (sound_test de S m) ((sound-test de L S m).1 v)))
