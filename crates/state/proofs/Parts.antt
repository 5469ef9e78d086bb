-- The parts that the code tests pass exactly where the definition's test does: a state is sound where all of them pass.
use Prim.Native.Nat.{ℕ, suc, ◌≤◌}
use native.Mathlib.Omega.{arith}
use mathlib.Core.Path.{◌≡◌, refl, sym, ap, ◌∙◌}
use mathlib.Core.Bool.{Bool, true, false, ◌&&◌, true≢false}
use mathlib.Core.List.{List, [], ◌∷◌, map}
use lib.Dec.{eqb}
use lib.ListN.{length, take, drop}
use Rattle.distribution.specs.declared.DimensionInfo.{DimensionInfo}
use Rattle.candidates.specs.Space.{continuous_count}
use Rattle.candidates.specs.declared.Candidate.{Candidate}
use Rattle.evolution.specs.declared.Member.{Member}
use Rattle.ledger.specs.Words.{all, is_empty, differing}
use Rattle.ledger.specs.Kernel.{Parent}
use Rattle.ledger.specs.State as Plain
use Rattle.ledger.specs.Closing.{best_of}
use Rattle.ledger.specs.Soundness.{is_number}
use Rattle.kernel.specs.De.{de}
use Rattle.kernel.specs.Fits.{fits}
use Rattle.state.specs.Blank.{is_blank_dim, is_blank_trial, is_blank_candidate, is_blank_member}
use Rattle.state.specs.View.{trial_of, parent_of, candidate_count, parent_count, dims_of}
use Rattle.state.specs.Places.{places_fit, passes, next_fits, member_fits, numbers_of, counts_sound}
use Rattle.state.specs.declared.State.{State}
use Rattle.state.specs.declared.TrialProgress.{TrialProgress}
use Rattle.std.proofs.lemmas.Bool.{and_parts}
use Rattle.state.proofs.Flags.{and-true}

abbrev pub parents_of : State → List (Parent Candidate)
parents_of s = map parent_of (take (parent_count s) s.parents)

pub record Parts (s : State) : Type 0 where
  pub few_dims : s.n_dims ≤ 16
  pub dims : places_fit passes is_blank_dim s.n_dims s.dims ≡ true
  pub counts : counts_sound (continuous_count (dims_of s)) s ≡ true
  pub candidates : places_fit (fits (dims_of s)) is_blank_candidate (candidate_count s) s.candidates ≡ true
  pub trials : places_fit (next_fits s.n_dims) is_blank_trial s.n_trials s.trials ≡ true
  pub differ : differing (numbers_of (take s.n_trials s.trials)) ≡ true
  pub parents : places_fit (member_fits (dims_of s)) is_blank_member (parent_count s) s.parents ≡ true
  pub best : eqb s.best (best_of (Plain.values de (parents_of s))) ≡ true

-- ---- lists

pub all_map : {A B : Type 0} (p : B → Bool) (f : A → B) (xs : List A) → all p (map f xs) ≡ all (λ x. p (f x)) xs
unfolding all
all_map p f [] = refl
all_map p f (x ∷ xs) = ap (λ (b : Bool). p (f x) && b) (all_map p f xs)

and-mix : (a b c d : Bool) → ((a && b) && (c && d)) ≡ ((a && c) && (b && d))
and-mix true b true d = refl
and-mix true true false d = refl
and-mix true false false d = refl
and-mix false b c d = refl

all_both : {A : Type 0} (p q : A → Bool) (xs : List A) → all (λ x. p x && q x) xs ≡ (all p xs && all q xs)
unfolding all
all_both p q [] = refl
all_both p q (x ∷ xs) = ap (λ (b : Bool). (p x && q x) && b) (all_both p q xs) ∙ and-mix (p x) (q x) (all p xs) (all q xs)

pub numbers-are : (ts : List TrialProgress) → Plain.numbers (map trial_of ts) ≡ numbers_of ts
numbers-are [] = refl
numbers-are (t ∷ ts) = ap (λ (l : List ℕ). t.number ∷ l) (numbers-are ts)

pub none_of : {A : Type 0} (xs : List A) → length xs ≡ 0 → xs ≡ []
none_of [] e = refl
none_of (x ∷ xs) e = absurd (let q : ◌≡◌ {A = ℕ} (suc (length xs)) 0 = e in omega arith)

pub empty_of : {A : Type 0} (xs : List A) → is_empty xs ≡ true → xs ≡ []
empty_of [] e = refl
empty_of (x ∷ xs) e = absurd (true≢false (sym e))

-- ---- places

pub split_places : {A : Type 0} (right blank : A → Bool) (n : ℕ) (xs : List A) → places_fit right blank n xs ≡ true → (all right (take n xs) ≡ true) × (all blank (drop n xs) ≡ true)
unfolding places_fit
split_places right blank n xs e = and_parts (all right (take n xs)) (all blank (drop n xs)) e

pub join-places : {A : Type 0} (right blank : A → Bool) (n : ℕ) (xs : List A) → all right (take n xs) ≡ true → all blank (drop n xs) ≡ true → places_fit right blank n xs ≡ true
unfolding places_fit
join-places right blank n xs p q = and-true p q

-- the parents: candidates that fit, and values that are numbers
pub split-parents : (ds : List DimensionInfo) (ms : List Member) → all (member_fits ds) ms ≡ true
    → (all (λ (p : Parent Candidate). fits ds p.candidate) (map parent_of ms) ≡ true) × (all (λ (p : Parent Candidate). is_number p.value) (map parent_of ms) ≡ true)
split-parents ds ms e =
    let r = and_parts _ _ (sym (all_both (λ (m : Member). fits ds m.candidate) (λ (m : Member). is_number m.value) ms) ∙ e) in
    (all_map (λ (p : Parent Candidate). fits ds p.candidate) parent_of ms ∙ r.0, all_map (λ (p : Parent Candidate). is_number p.value) parent_of ms ∙ r.1)

pub join-parents : (ds : List DimensionInfo) (ms : List Member) → all (λ (p : Parent Candidate). fits ds p.candidate) (map parent_of ms) ≡ true → all (λ (p : Parent Candidate). is_number p.value) (map parent_of ms) ≡ true → all (member_fits ds) ms ≡ true
join-parents ds ms p q =
    all_both (λ (m : Member). fits ds m.candidate) (λ (m : Member). is_number m.value) ms
    ∙ and-true (sym (all_map (λ (p : Parent Candidate). fits ds p.candidate) parent_of ms) ∙ p) (sym (all_map (λ (p : Parent Candidate). is_number p.value) parent_of ms) ∙ q)
