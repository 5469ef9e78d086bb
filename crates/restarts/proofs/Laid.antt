-- A sound plain state of the machine's numbers, laid out in the code's arrays, can be saved, if it has a place in a file.
use Rattle.std.specs.Prelude.{Option, Some, None, is_ok, unwrap_or}
use Prim.Native.Nat.{ℕ, suc, ◌^◌, ◌≤◌, ◌<◌}
use native.Mathlib.Omega.{arith}
use mathlib.Core.Path.{◌≡◌, refl, sym, ap, subst}
use mathlib.Core.Bool.{Bool, true, false, cond}
use mathlib.Core.List.Memᴰ
use mathlib.Core.List.{List, [], ◌∷◌, map, Memᴰ}
use borrow.Author.Tests.{ltb-true, eqb-true}
use lib.Dec.{T, ltb, eqb}
use lib.Ieee.{Float, binary64}
use lib.Ieee.Bits.{of_bits-fits}
use lib.ListN.{length, length-map}
use Rattle.rng_util.proofs.Parts.{pad-length}
use Rattle.distribution.specs.Dims.{continuous, choices}
use Rattle.distribution.specs.Good.{Good}
use Rattle.distribution.specs.Validate.{judged}
use Rattle.distribution.specs.declared.DimensionInfo.{DimensionInfo}
use Rattle.distribution.specs.declared.Distribution.{Distribution}
use Rattle.distribution.specs.declared.Distribution.TheVariants as D
use Rattle.distribution.proofs.Meaning.{judged-good}
use Rattle.ledger.specs.Words.{All}
use Rattle.ledger.specs.Kernel.{Parent}
use Rattle.ledger.specs.State as Plain
use Rattle.ledger.specs.State.{cap}
use Rattle.ledger.specs.Closing.{at_most, best_of}
use Rattle.ledger.specs.Soundness.{Sound}
use Rattle.ledger.proofs.Lists.{T→true, all-mapped}
use Rattle.candidates.specs.Candidate.{blank_candidate}
use Rattle.candidates.specs.Space.{continuous_count}
use Rattle.candidates.specs.declared.Candidate.{Candidate}
use Rattle.evolution.specs.declared.Member.{Member}
use Rattle.evolution.specs.declared.Setup.{Setup}
use Rattle.selection.specs.Records.{blank_member}
use Rattle.kernel.specs.De.{de, member_of}
use Rattle.kernel.specs.Fits.{entries_fit, choice_limit, choices_fit, fits}
use Rattle.kernel.proofs.Kernel.{de-laws}
use Rattle.state.specs.Blank.{blank_dim, blank_trial}
use Rattle.kernel.specs.Setup.{setup_verdict}
use Rattle.state.specs.View.{progress_of, size_number, laid}
use Rattle.state.specs.declared.State.{State}
use Rattle.state.specs.declared.TrialProgress.{TrialProgress}
use Rattle.std.proofs.lemmas.Bool.{and_parts}
use Rattle.state.proofs.Laid.{slots-few, trials-few, candidates-few, parents-few, laid-sound}
use Rattle.state.proofs.Measured.{Measured}
use Rattle.records.proofs.Lists.{all-padded, all_of}
use Rattle.kinds.specs.Kinds.{has_place}
use Rattle.kinds.specs.Typed.{Double, Word, Choices, TypedSetup, TypedCandidate, TypedState, TypedNumbers}
use Rattle.kinds.proofs.Decoded.{blank-typed}
use Rattle.kinds.proofs.Typed.{sized_of}
use Rattle.saved.proofs.RoundTrip.{Savable, typed-savable}
use Rattle.restarts.proofs.Keep.{Fine}
use Rattle.restarts.proofs.Made.{TypedDim, Doubles}

abbrev pub FineState : Plain.State de → Type 0
FineState = Fine de Word Doubles TypedDim Double Word

-- ---- choices

limit-small : (d : Distribution) → Good d → cond (continuous d) 1 (choices d) ≤ 65535
limit-small (D.Float d) g = omega arith
limit-small (D.Int d) g = omega arith
limit-small (D.Categorical d) g = g.few

choices-fit : (ds : List DimensionInfo) (cs : List ℕ) → All (λ (d : DimensionInfo). judged d.distribution ≡ None) ds → choices_fit ds cs ≡ true → All (λ (c : ℕ). c < 2 ^ 16) cs
unfolding choices_fit
choices-fit [] cs h e a m = let q = eqb-true 0 a (all_of (eqb 0) cs e a m) in omega arith
choices-fit (d ∷ ds) [] h e a m = absurd (Memᴰ.not-nil m)
choices-fit (d ∷ ds) (c ∷ cs) h e a (Memᴰ.head r) =
    let p = ltb-true c (choice_limit d) (and_parts (ltb c (choice_limit d)) (choices_fit ds cs) e).0 in
    let q = limit-small d.distribution (judged-good d.distribution (h d (Memᴰ.head refl))) in
    subst (λ (c : ℕ). c < 2 ^ 16) (sym r) (omega arith)
choices-fit (d ∷ ds) (c ∷ cs) h e a (Memᴰ.tail m) = choices-fit ds cs (λ b t. h b (Memᴰ.tail t)) (and_parts (ltb c (choice_limit d)) (choices_fit ds cs) e).1 a m

fits-typed : (ds : List DimensionInfo) (y : Candidate) → All (λ (d : DimensionInfo). judged d.distribution ≡ None) ds → Doubles y → T (fits ds y) → TypedCandidate y
unfolding fits
fits-typed ds y h d t =
    record {
      x = d.0.x;
      choices = d.0.choices;
      doubles = d.1;
      small = choices-fit ds y.choices h (and_parts (entries_fit (continuous_count ds) y.x) (choices_fit ds y.choices) (T→true _ t)).1;
    }

pub few_choices : (d : Distribution) → Good d → Choices d
few_choices (D.Float d) g = tt
few_choices (D.Int d) g = tt
few_choices (D.Categorical d) g = let h = g.few in omega arith

best-few : (vs : List Float) → best_of vs ≤ length vs
unfolding best_of
best-few [] = omega arith
best-few (v ∷ vs) = go (at_most v vs) (best-few vs)
  where
    go : (b : Bool) → best_of vs ≤ length vs → cond b 0 (suc (best_of vs)) ≤ suc (length vs)
    go true h = omega arith
    go false h = omega arith

-- ---- the state

module _ (S : Setup) (ok : is_ok (setup_verdict S) ≡ true) (typed : TypedSetup S) (m : Plain.State de) (v : Sound de S m) (f : FineState m) where
  abbrev s : State
  s = laid S m

  typed-candidates : (z : Option ℕ) → m.size ≡ z → All TypedCandidate m.candidates
  typed-candidates None e y t = absurd (Memᴰ.not-nil (subst (Memᴰ y) (v.before e).no_candidates t))
  typed-candidates (Some N) e y t = fits-typed m.dims y v.dims_pass (f.candidates y t) ((v.after N e).fit y t)

  abbrev TypedMember : Member → Type 0
  TypedMember p = TypedCandidate p.candidate × Double p.value

  typed-parents : (z : Option ℕ) → m.size ≡ z → All (λ (p : Parent Candidate). TypedCandidate p.candidate × Double p.value) m.slots.parents
  typed-parents None e p t = absurd (Memᴰ.not-nil (subst (Memᴰ p) (ap (λ (o : Plain.Slots de). o.parents) (v.before e).no_slots) t))
  typed-parents (Some N) e p t = let d = f.parents p t in (fits-typed m.dims p.candidate v.dims_pass d.0 ((v.after N e).parents_fit p t), d.1)

  counters : (z : Option ℕ) → m.size ≡ z → (m.slots.closed ≤ cap) × (m.slots.idle ≤ cap) × (m.slots.best ≤ 160)
  counters None e =
      let q = (v.before e).no_slots in
      let a : m.slots.closed ≡ 0 = ap (λ (o : Plain.Slots de). o.closed) q in
      let b : m.slots.idle ≡ 0 = ap (λ (o : Plain.Slots de). o.idle) q in
      let c : m.slots.best ≡ 0 = ap (λ (o : Plain.Slots de). o.best) q in
      (omega arith, omega arith, omega arith)
  counters (Some N) e =
      let w = v.after N e in
      let a = w.capped in
      let b = w.idle in
      let c = best-few (Plain.values de m.slots.parents) in
      (a, omega arith, omega (arith, w.best, length-map m.slots.parents (λ (p : Parent Candidate). p.value), parents-few S m v ok))

  parents_length : length (map member_of m.slots.parents) ≤ 160
  parents_length = omega (arith, length-map m.slots.parents member_of, parents-few S m v ok)

  trials_length : length (map progress_of m.trials) ≤ 224
  trials_length = omega (arith, length-map m.trials progress_of, trials-few S m v ok)

  all-candidates : All TypedCandidate s.candidates
  unfolding laid
  all-candidates = all-padded TypedCandidate 224 blank_candidate m.candidates (typed-candidates m.size refl) blank-typed

  all-parents : All TypedMember s.parents
  unfolding laid
  all-parents = all-padded TypedMember 160 blank_member (map member_of m.slots.parents) (all-mapped TypedMember member_of m.slots.parents (typed-parents m.size refl)) (blank-typed, of_bits-fits binary64 0)

  laid-measured : Measured s
  unfolding laid
  laid-measured =
      let c = counters m.size refl in
      record {
        dims = pad-length 16 blank_dim m.dims v.dims_few;
        candidates = pad-length 224 blank_candidate m.candidates (candidates-few S m v ok);
        parents = pad-length 160 blank_member (map member_of m.slots.parents) parents_length;
        trials = pad-length 224 blank_trial (map progress_of m.trials) trials_length;
        candidates_sized = λ y t. sized_of y (all-candidates y t);
        parents_sized = λ p t. sized_of p.candidate (all-parents p t).0;
        closed = c.0;
        idle = c.1;
      }

  pub laid-typed : TypedState s
  unfolding laid
  laid-typed =
      record {
        dims_length = laid-measured.dims;
        candidates_length = laid-measured.candidates;
        parents_length = laid-measured.parents;
        trials_length = laid-measured.trials;
        closed = let h = laid-measured.closed in omega arith;
        idle = let h = laid-measured.idle in omega arith;
        factor = typed.factor;
        rate = typed.rate;
        dims = all-padded TypedDim 16 blank_dim m.dims f.dims tt;
        candidates = all-candidates;
        parents = all-parents;
      }

  first_small : (o : Option ℕ) → m.first ≡ o → unwrap_or o 0 < 2 ^ 64
  first_small None e = omega arith
  first_small (Some n) e = f.first n e

  size_small : (z : Option ℕ) → m.size ≡ z → size_number z < 2 ^ 64
  size_small None e = omega arith
  size_small (Some N) e = let h = slots-few S m v ok N e in omega arith

  next-few : (z : Option ℕ) → m.size ≡ z → All (λ (t : Plain.Trial). t.next ≤ 16) m.trials
  next-few None e t k = absurd (Memᴰ.not-nil (subst (Memᴰ t) (v.before e).no_trials k))
  next-few (Some N) e t k = let a = (v.after N e).places t k in let b = v.dims_few in omega arith

  abbrev TypedTrial : TrialProgress → Type 0
  TypedTrial t = (t.number < 2 ^ 64) × (t.next_dim < 2 ^ 64)

  pub laid-numbers : TypedNumbers s
  unfolding laid
  laid-numbers =
      let c = counters m.size refl in
      record {
        size = typed.size;
        seed = typed.seed;
        first = first_small m.first refl;
        n = size_small m.size refl;
        dims = let h = v.dims_few in omega arith;
        trials = let h = trials-few S m v ok in omega arith;
        best = let h = c.2 in omega arith;
        word = f.word;
        choices = all-padded (λ (d : DimensionInfo). Choices d.distribution) 16 blank_dim m.dims
            (λ d t. few_choices d.distribution (judged-good d.distribution (v.dims_pass d t))) (omega arith);
        numbers = all-padded TypedTrial 224 blank_trial (map progress_of m.trials)
            (all-mapped TypedTrial progress_of m.trials (λ t k. (f.trials t k, (let h = next-few m.size refl t k in omega arith)))) (omega arith, omega arith);
      }

  pub laid-savable : has_place s ≡ true → Savable s
  laid-savable h = typed-savable s (laid-sound S m v ok de-laws) h laid-typed laid-numbers
