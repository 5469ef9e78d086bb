-- On a sound state every entry is small. Idea: the entries in use are tested, and the others are zero.
use Rattle.std.specs.Prelude.{Option, Some, None, drop}
use Rattle.std.proofs.lemmas.Bool.{and_parts}
use mathlib.Core.Path.{◌≡◌, refl, sym, subst, ◌∙◌}
use mathlib.Core.Bool.{Bool, true, false, not}
use mathlib.Core.List.Memᴰ
use mathlib.Core.List.{List, [], ◌∷◌, ◌++◌, map}
use Prim.Native.Nat.{ℕ, zero, suc}
use lib.Dec.{T}
use lib.IntN.{pos, negsuc}
use lib.Ieee.{Float, nan, inf, fin, neg, le, lt, is_nan}
use lib.ListN.{take}
use Rattle.distribution.specs.declared.DimensionInfo.{DimensionInfo}
use Rattle.distribution.proofs.Flags.{both-fail}
use Rattle.distribution.proofs.FloatRows.{not-above}
use Rattle.distribution.proofs.Order.{finite_number}
use Rattle.candidates.specs.Space.{continuous_count}
use Rattle.candidates.specs.declared.Candidate.{Candidate}
use Rattle.evolution.specs.declared.Member.{Member}
use Rattle.evolution.specs.declared.Setup.{Setup}
use Rattle.ledger.specs.Words.{All, all}
use Rattle.ledger.specs.State as Plain
use Rattle.ledger.specs.Kernel.{Parent}
use Rattle.ledger.specs.Soundness.{Sound}
use Rattle.ledger.proofs.Lists.{all_nil, all-mapped, true→T}
use Rattle.ledger.proofs.Tests.{and_split, all_split}
use Rattle.kernel.specs.De.{de}
use Rattle.kernel.specs.Fits.{is_zero, entry_limit, entry_fits, entries_fit, choices_fit, fits}
use Rattle.kernel.proofs.Fit.{all_cons}
use Rattle.kernel.proofs.Kernel.{de-laws}
use Rattle.kernel.proofs.Small.{small-finite}
use Rattle.state.specs.Blank.{is_blank_candidate, is_blank_member}
use Rattle.state.specs.Small.{Small, SmallEntries, over_limit, LargeEntry}
use Rattle.state.specs.Sound.{clean_tests, clean_test, sound_state}
use Rattle.state.specs.View.{view, candidate_count, parent_count, parent_of}
use Rattle.state.specs.declared.State.{State}
use Rattle.state.proofs.Flags.{every-at}
use Rattle.state.proofs.Tidy.{view-sound}

-- ---- one entry, the entries of one candidate

zero-small : (x : Float) → T (is_zero x) → Small x
unfolding entry_limit le neg
zero-small nan t = elim t [ ]
zero-small (inf s) t = elim t [ ]
zero-small (fin true m d) t = elim t [ ]
zero-small (fin false (suc m) d) t = elim t [ ]
zero-small (fin false zero (negsuc k)) t = elim t [ ]
zero-small (fin false zero (pos (suc k))) t = elim t [ ]
zero-small (fin false zero (pos zero)) t = record { finite = tt; at_least = tt; at_most = tt }

entry-small : (x : Float) → T (entry_fits x) → Small x
unfolding entry_fits
entry-small x t = let p = and_split (le (neg entry_limit) x) (le x entry_limit) t in record { finite = small-finite x t; at_least = p.0; at_most = p.1 }

entries-small : (n : ℕ) (xs : List Float) → T (entries_fit n xs) → All Small xs
unfolding entries_fit
entries-small zero xs t = λ x m. zero-small x (all_split is_zero xs t x m)
entries-small (suc n) [] t = elim t [ ]
entries-small (suc n) (x ∷ xs) t = let p = and_split (entry_fits x) (entries_fit n xs) t in all_cons Small x xs (entry-small x p.0) (entries-small n xs p.1)

candidate-small : (ds : List DimensionInfo) (c : Candidate) → T (fits ds c) → All Small c.x
unfolding fits
candidate-small ds c t = entries-small (continuous_count ds) c.x (and_split (entries_fit (continuous_count ds) c.x) (choices_fit ds c.choices) t).0

-- ---- those in use, and the others

all-parts : {A : Type 0} (P : A → Type 0) (n : ℕ) (xs : List A) → All P (take n xs) → All P (drop n xs) → All P xs
all-parts P zero xs h k = k
all-parts P (suc n) [] h k = k
all-parts P (suc n) (x ∷ xs) h k = all_cons P x xs (h x (Memᴰ.head refl)) (all-parts P n xs (λ a t. h a (Memᴰ.tail t)) k)

-- a test of each, as what it says of each
each : {A : Type 0} (p : A → Bool) (P : A → Type 0) → ((a : A) → T (p a) → P a) → (xs : List A) → all p xs ≡ true → All P xs
each p P f xs e a m = f a (all_split p xs (true→T (all p xs) e) a m)

all-append : {A : Type 0} (P : A → Type 0) (xs ys : List A) → All P xs → All P ys → All P (xs ++ ys)
all-append P [] ys h k = k
all-append P (x ∷ xs) ys h k = all_cons P x (xs ++ ys) (h x (Memᴰ.head refl)) (all-append P xs ys (λ a t. h a (Memᴰ.tail t)) k)

unmapped : {A B : Type 0} (P : B → Type 0) (f : A → B) (xs : List A) → All P (map f xs) → All (λ x. P (f x)) xs
unmapped P f [] h x m = elim m [ ]
unmapped P f (y ∷ ys) h x (Memᴰ.head e) = subst (λ z. P (f z)) (sym e) (h (f y) (Memᴰ.head refl))
unmapped P f (y ∷ ys) h x (Memᴰ.tail m) = unmapped P f ys (λ a t. h a (Memᴰ.tail t)) x m

-- what a state in the ledger's form says of its candidates, in discovery and after it
module _ (S : Setup) (m : Plain.State de) (v : Sound de S m) where
  all-fit : (z : Option ℕ) → m.size ≡ z → All (λ y. T (fits m.dims y)) m.candidates × All (λ (p : Parent Candidate). T (fits m.dims p.candidate)) m.slots.parents
  all-fit None e =
      let w = v.before e in
      rw (w.no_candidates, w.no_slots) (all_nil (λ y. T (fits m.dims y)), all_nil (λ (p : Parent Candidate). T (fits m.dims p.candidate)))
  all-fit (Some N) e = let w = v.after N e in (w.fit, w.parents_fit)

-- ---- the whole

module _ (s : State) (e : sound_state s ≡ true) where
  fit : All (λ y. T (fits (view s).dims y)) (view s).candidates × All (λ (p : Parent Candidate). T (fits (view s).dims p.candidate)) (view s).slots.parents
  fit = all-fit s.setup (view s) (view-sound s e de-laws) (view s).size refl

  unused : all is_blank_candidate (drop (candidate_count s) s.candidates) ≡ true × (all is_blank_member (drop (parent_count s) s.parents) ≡ true)
  unfolding sound_state clean_test
  unused = let k = every-at (clean_tests s) (and_parts (clean_test s) _ e).0 in (k 3 _ refl, k 4 _ refl)

  pub sound-small : SmallEntries s
  unfolding view
  sound-small =
      all-append (λ (c : Candidate). All Small c.x) s.candidates _
      (all-parts (λ (c : Candidate). All Small c.x) (candidate_count s) s.candidates
      (λ c m. candidate-small (view s).dims c (fit.0 c m))
      (each is_blank_candidate (λ (c : Candidate). All Small c.x) (λ c t. candidate-small [] c t) _ unused.0))
      (all-mapped (λ (c : Candidate). All Small c.x) (λ (p : Member). p.candidate) s.parents
      (all-parts (λ (p : Member). All Small p.candidate.x) (parent_count s) s.parents
      (λ p m. candidate-small (view s).dims p.candidate (unmapped (λ (q : Parent Candidate). T (fits (view s).dims q.candidate)) parent_of _ fit.1 p m))
      (each is_blank_member (λ (p : Member). All Small p.candidate.x) (λ p t. candidate-small [] p.candidate (and_split (is_blank_candidate p.candidate) _ t).0) _ unused.1)))

-- ---- "A state with an entry over 4e300 in size is no longer sound"

limits-numbers : T (not (is_nan entry_limit)) × T (not (is_nan (neg entry_limit)))
unfolding is_nan entry_limit neg
limits-numbers = (tt, tt)

not-over : (x : Float) → Small x → over_limit x ≡ false
not-over x h =
    let n = finite_number x h.finite in
    both-fail (not-above x entry_limit n limits-numbers.0 h.at_most) (not-above (neg entry_limit) x limits-numbers.1 n h.at_least)

pub large-unsound : (s : State) → LargeEntry s → sound_state s ≡ false
large-unsound s h = go (sound_state s) refl
  where
    go : (b : Bool) → sound_state s ≡ b → b ≡ false
    go true e = elim (subst T (not-over h.entry (sound-small s e h.candidate h.of h.entry h.at)) h.over) [ ]
    go false e = refl
