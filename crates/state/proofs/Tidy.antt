-- A state that passes the test is its view laid out, and its view is sound.
use Rattle.std.specs.Prelude.{Option, Some, None, is_ok}
use Prim.Native.Nat.{ℕ, zero, suc, ◌-◌, ◌≤◌}
use native.Mathlib.Omega.{arith}
use mathlib.Core.Path.{◌≡◌, refl, sym, ap, subst, ◌∙◌}
use mathlib.Core.Bool.{Bool, true, false, ◌||◌, true≢false}
use mathlib.Core.List.Memᴰ
use mathlib.Core.List.{List, [], ◌∷◌, ◌++◌, map}
use borrow.Author.Tests.{eqb-true}
use lib.Dec.{T, eqb}
use lib.ListN.{length, take, drop, replicate, take-append-drop, length-map, length-drop}
use lib.Seq.{length-take-le}
use Rattle.rng_util.specs.Many.{pad_to}
use Rattle.distribution.specs.declared.DimensionInfo.{DimensionInfo}
use Rattle.distribution.specs.declared.Distribution.{Distribution}
use Rattle.distribution.specs.declared.Distribution.TheVariants.{Float as FloatD, Int as IntD, Categorical}
use Rattle.common.specs.Bounds.{zero_f}
use Rattle.candidates.specs.Candidate.{blank_candidate}
use Rattle.candidates.specs.Space.{continuous_dims}
use Rattle.candidates.specs.declared.Candidate.{Candidate}
use Rattle.evolution.specs.declared.Member.{Member}
use Rattle.selection.specs.Records.{blank_member}
use Rattle.ledger.specs.Words.{All, all}
use Rattle.ledger.specs.Kernel.{Laws}
use Rattle.ledger.specs.Soundness.{Sound, sound_test}
use Rattle.ledger.proofs.SoundTest.{sound-test}
use Rattle.kernel.specs.De.{de, member_of}
use Rattle.kernel.specs.Fits.{is_zero, entries_fit, choices_fit, fits}
use Rattle.state.specs.Blank.{blank_dim, blank_trial, is_blank_distribution, is_blank_dim, is_blank_trial, is_blank_candidate, is_blank_member}
use Rattle.kernel.specs.Setup.{setup_verdict}
use Rattle.state.specs.View.{trial_of, progress_of, parent_of, size_in, has_size, size_number, candidate_count, parent_count, view, laid}
use Rattle.state.specs.Sound.{clean_test, sound_state, Few}
use Rattle.state.specs.declared.State.{State}
use Rattle.state.specs.declared.TrialProgress.{TrialProgress}
use Rattle.std.proofs.lemmas.Bool.{and_parts}
use Rattle.state.proofs.Floats.{zero-true}
use Rattle.state.proofs.Laid.{back}
use Rattle.state.proofs.Measured.{Sized, Measured, arrays-of}
use Rattle.state.proofs.Whole.{Clean, clean_of, of-sound, few-of, few-candidates, few-parents}

-- ---- what passes a test of blankness is blank

module _ {A : Type 0} (p : A → Bool) (b : A) where
  same-all : (xs : List A) → ((a : A) → p a ≡ true → a ≡ b) → all p xs ≡ true → xs ≡ replicate (length xs) b
  unfolding all
  same-all [] h e = refl
  same-all (x ∷ xs) h e = let r = and_parts (p x) (all p xs) e in λ i. h x r.0 i ∷ same-all xs h r.1 i

  -- the same of elements of which more is known
  same_known : (P : A → Type 0) (xs : List A) → All P xs → ((a : A) → P a → p a ≡ true → a ≡ b) → all p xs ≡ true → xs ≡ replicate (length xs) b
  unfolding all
  same_known P [] k h e = refl
  same_known P (x ∷ xs) k h e =
      let r = and_parts (p x) (all p xs) e in λ i. h x (k x (Memᴰ.head refl)) r.0 i ∷ same_known P xs (λ a m. k a (Memᴰ.tail m)) h r.1 i

known-drop : {A : Type 0} (P : A → Type 0) (n : ℕ) (xs : List A) → All P xs → All P (drop n xs)
known-drop P zero xs k = k
known-drop P (suc n) [] k = k
known-drop P (suc n) (x ∷ xs) k = known-drop P n xs (λ a m. k a (Memᴰ.tail m))

blank-trial : (t : TrialProgress) → is_blank_trial t ≡ true → t ≡ blank_trial
blank-trial t e = let r = and_parts (eqb t.number 0) (eqb t.next_dim 0) e in λ i. record { number = eqb-true t.number 0 r.0 i; next_dim = eqb-true t.next_dim 0 r.1 i }

blank-distribution : (d : Distribution) → is_blank_distribution d ≡ true → d ≡ Categorical (record { n_choices = 0 })
blank-distribution (FloatD f) e = absurd (true≢false (sym e))
blank-distribution (IntD f) e = absurd (true≢false (sym e))
blank-distribution (Categorical k) e = λ i. Categorical (record { n_choices = eqb-true k.n_choices 0 e i })

blank-dim : (d : DimensionInfo) → is_blank_dim d ≡ true → d ≡ blank_dim
blank-dim d e = λ i. record { distribution = blank-distribution d.distribution e i }

blank-candidate : (c : Candidate) → Sized c → is_blank_candidate c ≡ true → c ≡ blank_candidate
unfolding fits entries_fit choices_fit continuous_dims
blank-candidate c z e =
    let r = and_parts (all is_zero c.x) (all (eqb 0) c.choices) e in
    let x : c.x ≡ replicate 16 zero_f = same-all is_zero zero_f c.x zero-true r.0 ∙ ap (λ (n : ℕ). replicate n zero_f) z.x in
    let y : c.choices ≡ replicate 16 0 = same-all (eqb 0) 0 c.choices (λ k q. sym (eqb-true 0 k q)) r.1 ∙ ap (λ (n : ℕ). replicate n 0) z.choices in
    λ i. record { x = x i; choices = y i }

blank-member : (m : Member) → Sized m.candidate → is_blank_member m ≡ true → m ≡ blank_member
blank-member m z e =
    let r = and_parts (is_blank_candidate m.candidate) _ e in λ i. record { candidate = blank-candidate m.candidate z r.0 i; value = zero-true m.value r.1 i }

-- ---- an array whose unused places are blank

module _ {A : Type 0} (b : A) (n size : ℕ) (xs : List A) (l : length xs ≡ size) (few : n ≤ size) (e : drop n xs ≡ replicate (length (drop n xs)) b) where
  pub padded : pad_to size b (take n xs) ≡ xs
  padded =
      let q : length (take n xs) ≡ n = length-take-le n xs (omega arith) in
      let r : drop n xs ≡ replicate (size - n) b = e ∙ ap (λ (j : ℕ). replicate j b) (length-drop n xs ∙ ap (λ (j : ℕ). j - n) l) in
      ap (λ (j : ℕ). take n xs ++ replicate (size - j) b) q ∙ ap (λ (t : List A). take n xs ++ t) (sym r) ∙ take-append-drop n xs

  -- through another form of the elements
  pub padded-by : {B : Type 0} (f : A → B) (g : B → A) → ((a : A) → g (f a) ≡ a) → pad_to size b (map g (map f (take n xs))) ≡ xs
  padded-by f g h = ap (pad_to size b) (back g f (take n xs) h) ∙ padded

first-again : (f : Option ℕ) → f ≡ f
first-again None = refl
first-again (Some n) = refl

has-again : (d : Bool) (n : ℕ) → has_size (size_in d n) ≡ d
has-again true n = refl
has-again false n = refl

number-again : (d : Bool) (n : ℕ) → (d || eqb n 0) ≡ true → size_number (size_in d n) ≡ n
number-again true n e = refl
number-again false n e = sym (eqb-true n 0 e)

-- ---- the whole

again : (s : State) (m : Measured s) → Few s → Clean s (arrays-of m) → laid s.setup (view s) ≡ s
unfolding laid view
again s m f k = λ i.
    record {
      setup = s.setup;
      first = first-again s.first i;
      discovered = has-again s.discovered s.n i;
      n = number-again s.discovered s.n k.no_slots i;
      n_dims = length-take-le s.n_dims s.dims (omega (arith, m.dims, k.few_dims)) i;
      dims = padded blank_dim s.n_dims 16 s.dims m.dims k.few_dims (same-all is_blank_dim blank_dim (drop s.n_dims s.dims) blank-dim k.dims) i;
      candidates = padded blank_candidate (candidate_count s) 224 s.candidates m.candidates (few-candidates s f)
          (same_known is_blank_candidate blank_candidate Sized (drop (candidate_count s) s.candidates) (known-drop Sized (candidate_count s) s.candidates m.candidates_sized) blank-candidate k.candidates) i;
      parents = padded-by blank_member (parent_count s) 160 s.parents m.parents (few-parents s f)
          (same_known is_blank_member blank_member (λ (p : Member). Sized p.candidate) (drop (parent_count s) s.parents) (known-drop (λ (p : Member). Sized p.candidate) (parent_count s) s.parents m.parents_sized) blank-member k.parents)
          parent_of member_of (λ a. refl) i;
      n_trials = (length-map (take s.n_trials s.trials) trial_of ∙ length-take-le s.n_trials s.trials (omega (arith, m.trials, k.few_trials))) i;
      trials = padded-by blank_trial s.n_trials 224 s.trials m.trials k.few_trials (same-all is_blank_trial blank_trial (drop s.n_trials s.trials) blank-trial k.trials) trial_of progress_of (λ a. refl) i;
      best = s.best;
      word = s.word;
      closed = s.closed;
      idle = s.idle;
    }

module _ (s : State) (e : sound_state s ≡ true) where
  pub setup-valid : is_ok (setup_verdict s.setup) ≡ true
  unfolding sound_state
  setup-valid = (and_parts (is_ok (setup_verdict s.setup)) _ (and_parts (clean_test s) _ e).1).0

  pub view-sound : Laws de → Sound de s.setup (view s)
  unfolding sound_state
  view-sound L =
      let r = and_parts (is_ok (setup_verdict s.setup)) (sound_test de s.setup (view s)) (and_parts (clean_test s) _ e).1 in
      (sound-test de L s.setup (view s)).0 (subst T (sym r.1) tt)

  module _ (m : Measured s) where
    clean : Clean s (arrays-of m)
    unfolding sound_state
    clean = clean_of s (arrays-of m) (and_parts (clean_test s) _ e).0

    pub sound-few : Few s
    sound-few = few-of s clean.few_dims (of-sound s (arrays-of m) e).counts

    pub is-laid : s ≡ laid s.setup (view s)
    is-laid = sym (again s m sound-few clean)
