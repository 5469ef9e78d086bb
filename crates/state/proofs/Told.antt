-- What each step of the soundness test tells: dimensions that pass have few choices, N is in bounds, the best slot of parents that pass is the first least.
use Rattle.std.specs.Prelude.{Option, Some, None, is_none}
use Prim.Native.Nat.{ℕ, zero, suc, ◌≤◌, ◌<◌}
use native.Mathlib.Omega.{arith}
use native.Mathlib.Nat.{not-suc-le-zero, le_of_suc-le-suc}
use mathlib.Core.Path.{◌≡◌, refl, sym, ap, subst, ◌∙◌}
use mathlib.Core.Logic.{◌≢◌}
use mathlib.Core.Bool.{Bool, true, true≢false, ◌&&◌}
use mathlib.Core.List.Memᴰ
use mathlib.Core.List.{List, [], ◌∷◌, map}
use lib.Dec.{eqb}
use lib.Ieee.{Float, nan, inf, fin}
use lib.ListN.{length, get_or, take, length-take}
use Rattle.distribution.specs.Dims.{choices, choices_of, no_dim}
use Rattle.distribution.specs.Good.{Good}
use Rattle.distribution.specs.Validate.{judged}
use Rattle.distribution.specs.declared.DimensionInfo.{DimensionInfo}
use Rattle.distribution.specs.declared.Distribution.{Distribution}
use Rattle.distribution.specs.declared.Distribution.TheVariants.{Float as FloatD, Int as IntD, Categorical}
use Rattle.distribution.proofs.Meaning.{judged-good}
use Rattle.candidates.specs.Space.{FewChoices}
use Rattle.candidates.specs.declared.Candidate.{Candidate}
use Rattle.candidates.proofs.Passed.{few-continuous}
use Rattle.evolution.specs.declared.Member.{Member}
use Rattle.selection.specs.Best.{values, best_slot}
use Rattle.selection.proofs.Best.{Numbers, best-is}
use Rattle.ledger.specs.Words.{all, differing}
use Rattle.ledger.specs.State as Plain
use Rattle.ledger.specs.Closing.{best_of}
use Rattle.ledger.specs.Soundness.{is_number}
use Rattle.kernel.specs.De.{de}
use Rattle.kernel.specs.Fits.{fits}
use Rattle.state.specs.Blank.{is_blank_dim, is_blank_candidate, is_blank_trial, is_blank_member}
use Rattle.state.specs.Sound.{Few}
use Rattle.state.specs.View.{parent_of, candidate_count, parent_count, dims_of, trials_of, members_of}
use Rattle.state.specs.Places.{places_fit, passes, next_fits, member_fits, numbers_of, limits_of, counts_sound}
use Rattle.state.specs.declared.State.{State}
use Rattle.state.specs.declared.places.Limits.{Limits}
use Rattle.std.proofs.lemmas.Bool.{and_parts}
use Rattle.state.proofs.Flags.{five, all-five}
use Rattle.state.proofs.Parts.{Parts, parents_of, split_places}
use Rattle.state.proofs.Whole.{count_test, few-of}

-- ---- dimensions that pass 7

none_of : (o : Option ℕ) → is_none o ≡ true → o ≡ None
none_of None e = refl
none_of (Some n) e = absurd (true≢false (sym e))

good-few : (d : Distribution) → Good d → choices d ≤ 65535
good-few (FloatD f) g = omega arith
good-few (IntD k) g = omega arith
good-few (Categorical k) g = g.few

all-few : (ds : List DimensionInfo) → all passes ds ≡ true → (i : ℕ) → i < length ds → choices_of (get_or ds i no_dim) ≤ 65535
unfolding all
all-few [] e i h = absurd (not-suc-le-zero h)
all-few (d ∷ ds) e zero h = good-few d.distribution (judged-good d.distribution (none_of (judged d.distribution) (and_parts (passes d) (all passes ds) e).0))
all-few (d ∷ ds) e (suc i) h = all-few ds (and_parts (passes d) (all passes ds) e).1 i (le_of_suc-le-suc h)

pub dims-fit : (s : State) → places_fit passes is_blank_dim s.n_dims s.dims ≡ true → s.n_dims ≤ 16 → (length (dims_of s) ≤ 16) × FewChoices (dims_of s)
unfolding FewChoices
dims-fit s e h = (omega (arith, length-take s.n_dims s.dims), all-few (dims_of s) (split_places passes is_blank_dim s.n_dims s.dims e).0)

-- ---- the best slot

values-are : (ms : List Member) → Plain.values de (map parent_of ms) ≡ values ms
values-are [] = refl
values-are (m ∷ ms) = ap (λ (l : List Float). m.value ∷ l) (values-are ms)

number_of : (v : Float) → is_number v ≡ true → v ≢ nan
number_of nan e q = true≢false (sym e)
number_of (inf s) e q = true≢false (ap is_number q)
number_of (fin s m d) e q = true≢false (ap is_number q)

numbers-of : (ds : List DimensionInfo) (ms : List Member) → all (member_fits ds) ms ≡ true → Numbers (values ms)
unfolding all
numbers-of ds [] e a m = elim m [ ]
numbers-of ds (m ∷ ms) e a (Memᴰ.head q) =
    subst (λ (v : Float). v ≢ nan) (sym q) (number_of m.value (and_parts (fits ds m.candidate) _ (and_parts (member_fits ds m) (all (member_fits ds) ms) e).0).1)
numbers-of ds (m ∷ ms) e a (Memᴰ.tail q) = numbers-of ds ms (and_parts (member_fits ds m) (all (member_fits ds) ms) e).1 a q

pub best-are : (ds : List DimensionInfo) (n : ℕ) (ms : List Member) → places_fit (member_fits ds) is_blank_member n ms ≡ true → best_slot (values (take n ms)) ≡ best_of (Plain.values de (map parent_of (take n ms)))
best-are ds n ms e =
    best-is (values (take n ms)) (numbers-of ds (take n ms) (split_places (member_fits ds) is_blank_member n ms e).0)
    ∙ ap best_of (sym (values-are (take n ms)))

-- ---- the code's calls on a state's own fields

module _ (s : State) (limits : Limits) (few : s.n_dims ≤ 16) (e : limits ≡ limits_of (dims_of s)) where
  dims_few : length (dims_of s) ≤ 16
  dims_few = omega (arith, length-take s.n_dims s.dims)

  pub continuous-few : limits.n ≤ 16
  continuous-few = rw e (omega (arith, few-continuous (dims_of s), dims_few))

  pub counts-told : {t : Bool} → t ≡ counts_sound limits.n s → t ≡ count_test s
  counts-told q = q ∙ ap (λ (l : Limits). counts_sound l.n s) e

  pub few-told : {t : Bool} → t ≡ counts_sound limits.n s → t ≡ true → Few s
  few-told q f = few-of s few (sym (counts-told q) ∙ f)

  pub fits-told : (c : Candidate) (r : Bool) → ((ds : List DimensionInfo) → length ds ≤ 16 → limits ≡ limits_of ds → r ≡ fits ds c) → r ≡ fits (dims_of s) c
  fits-told c r f = f (dims_of s) dims_few e

  pub member-told : (m : Member) (r : Bool) → ((ds : List DimensionInfo) → length ds ≤ 16 → limits ≡ limits_of ds → r ≡ member_fits ds m) → r ≡ member_fits (dims_of s) m
  member-told m r f = f (dims_of s) dims_few e

-- ---- the last five tests, as the code joins them

module _ (s : State) (candidates trials parents differ : Bool) (best : ℕ) where
  abbrev joined : Bool
  joined = candidates && trials && parents && differ && eqb s.best best

  module _
      (at_candidates : candidates ≡ places_fit (fits (dims_of s)) is_blank_candidate (candidate_count s) s.candidates)
      (at_trials : trials ≡ places_fit (next_fits s.n_dims) is_blank_trial s.n_trials s.trials)
      (at_parents : parents ≡ places_fit (member_fits (dims_of s)) is_blank_member (parent_count s) s.parents)
      (at_differ : differ ≡ differing (numbers_of (trials_of s)))
      (at_best : best ≡ best_slot (values (members_of s))) where
    best-told : parents ≡ true → eqb s.best best ≡ eqb s.best (best_of (Plain.values de (parents_of s)))
    best-told e = ap (eqb s.best) (at_best ∙ best-are (dims_of s) (parent_count s) s.parents (sym at_parents ∙ e))

    pub pass-all : Parts s → joined ≡ true
    pass-all p =
        let five = at_parents ∙ p.parents in
        all-five (at_candidates ∙ p.candidates) (at_trials ∙ p.trials) five (at_differ ∙ p.differ) (best-told five ∙ p.best)

    pub all-pass : s.n_dims ≤ 16 → places_fit passes is_blank_dim s.n_dims s.dims ≡ true → count_test s ≡ true → joined ≡ true → Parts s
    all-pass n dims counts e =
        let f = five candidates trials parents differ (eqb s.best best) e in
        record {
          few_dims = n;
          dims = dims;
          counts = counts;
          candidates = sym at_candidates ∙ f.0;
          trials = sym at_trials ∙ f.1;
          differ = sym at_differ ∙ f.3;
          parents = sym at_parents ∙ f.2;
          best = sym (best-told f.2) ∙ f.4;
        }
