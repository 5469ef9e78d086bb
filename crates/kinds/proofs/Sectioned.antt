-- The words of several parts laid one after another, as the loops do it, and the section of each kind.
use Prim.Native.Nat.{ℕ, suc, ◌+◌, ◌*◌, ◌≤◌, ◌<◌}
use native.Mathlib.Nat.{mul-le-mul_left}
use native.Mathlib.Omega.{arith}
use mathlib.Core.List.{List, [], ◌∷◌, ◌++◌}
use mathlib.Core.Path.{◌≡◌, refl, sym, ap, ◌∙◌}
use lib.ListN.{length, take, get_or, length-append}
use lib.Seq.{length-take-le}
use Rattle.std.proofs.lemmas.List.{take_more, flat_map_more}
use Rattle.distribution.specs.declared.DimensionInfo.{DimensionInfo}
use Rattle.candidates.specs.declared.Candidate.{Candidate}
use Rattle.evolution.specs.declared.Member.{Member}
use Rattle.state.specs.View.{candidate_count, parent_count}
use Rattle.state.specs.declared.State.{State}
use Rattle.state.specs.declared.TrialProgress.{TrialProgress}
use Rattle.state.proofs.Measured.{Measured}
use Rattle.std.specs.List.{flat_map}
use Rattle.kinds.specs.Kinds.{Roomy, dims_of, dims_words, trials_words, parents_words, candidates_words}
use Rattle.kinds.specs.Rows.{double_word, dim_words, trial_words, candidate_words, member_words}
use Rattle.kinds.proofs.Back.{dim-length, vector-length}

-- ---- how wide a part is

pub dim-width : (d : DimensionInfo) → length (dim_words d) ≡ 5
dim-width d = dim-length d.distribution

pub trial-width : (t : TrialProgress) → length (trial_words t) ≡ 2
unfolding trial_words
trial-width t = refl

pub candidate-width : (ds : List DimensionInfo) (c : Candidate) → length (candidate_words ds c) ≡ length ds
candidate-width ds c = vector-length ds c.x c.choices

pub member-width : (ds : List DimensionInfo) (m : Member) → length (member_words ds m) ≡ length ds + 1
member-width ds m = length-append (candidate_words ds m.candidate) (double_word m.value ∷ []) ∙ ap (λ (k : ℕ). k + 1) (candidate-width ds m.candidate)

-- ---- several of them

pub flat_map_length : {A : Type 0} (f : A → List ℕ) (w : ℕ) → ((x : A) → length (f x) ≡ w) → (xs : List A) → length (flat_map f xs) ≡ length xs * w
flat_map_length f w width [] = omega arith
flat_map_length f w width (x ∷ xs) = length-append (f x) (flat_map f xs) ∙ (λ i. width x i + flat_map_length f w width xs i) ∙ next (length xs)
  where
    next : (n : ℕ) → w + n * w ≡ suc n * w
    next n = omega arith

-- a turn of the loop that puts the words of each: s is what stands there, with the first i of them put
module _ {A : Type 0} (f : A → List ℕ) (w : ℕ) (width : (x : A) → length (f x) ≡ w) (s0 s : List ℕ) (xs : List A) (i : ℕ) (h : i < length xs) (e : s ≡ s0 ++ flat_map f (take i xs)) where
  pub room : length s0 + w * length xs ≤ 3600 → length s + w ≤ 3600
  room m =
      let l : length s ≡ length s0 + i * w =
      ap length e ∙ length-append s0 (flat_map f (take i xs)) ∙ ap (λ (n : ℕ). length s0 + n) (flat_map_length f w width (take i xs) ∙ ap (λ (n : ℕ). n * w) (length-take-le i xs (omega arith))) in
      omega (arith, l, mul-le-mul_left w h)

  pub more : (s' row : List ℕ) (z : A) → row ≡ f (get_or xs i z) → s' ≡ s ++ row → s' ≡ s0 ++ flat_map f (take (i + 1) xs)
  more s' row z q p =
      p ∙ (λ k. e k ++ q k) ∙ flat_map_more f s0 (take i xs) (get_or xs i z) ∙ ap (λ (l : List A). s0 ++ flat_map f l) (sym (take_more xs i z h))

-- ---- by kind

module _ (s : State) (m : Measured s) (r : Roomy s) where
  dims-many : length (dims_of s) ≡ s.n_dims
  dims-many = length-take-le s.n_dims s.dims (omega (arith, m.dims, r.dims))

  pub dims_length : length (dims_words s) ≡ s.n_dims * 5
  unfolding dims_words
  dims_length = flat_map_length dim_words 5 dim-width (dims_of s) ∙ ap (λ (n : ℕ). n * 5) dims-many

  pub trials_length : length (trials_words s) ≡ s.n_trials * 2
  unfolding trials_words
  trials_length =
      flat_map_length trial_words 2 trial-width (take s.n_trials s.trials)
      ∙ ap (λ (n : ℕ). n * 2) (length-take-le s.n_trials s.trials (omega (arith, m.trials, r.trials)))

  pub parents_length : length (parents_words s) ≡ parent_count s * (s.n_dims + 1)
  unfolding parents_words
  parents_length =
      flat_map_length (member_words (dims_of s)) (s.n_dims + 1) (λ x. member-width (dims_of s) x ∙ ap (λ (n : ℕ). n + 1) dims-many) (take (parent_count s) s.parents)
      ∙ ap (λ (n : ℕ). n * (s.n_dims + 1)) (length-take-le (parent_count s) s.parents (omega (arith, m.parents, r.parents)))

  pub candidates_length : length (candidates_words s) ≡ candidate_count s * s.n_dims
  unfolding candidates_words
  candidates_length =
      flat_map_length (candidate_words (dims_of s)) s.n_dims (λ x. candidate-width (dims_of s) x ∙ dims-many) (take (candidate_count s) s.candidates)
      ∙ ap (λ (n : ℕ). n * s.n_dims) (length-take-le (candidate_count s) s.candidates (omega (arith, m.candidates, r.candidates)))
