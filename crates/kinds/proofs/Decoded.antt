-- Whatever words stand for is a state of the machine's numbers, where it is sound: lengths of arrays, doubles, numbers of 64 bits. Nothing is asked of the words.
use Rattle.std.specs.Prelude.{Option, Some, None, option_map, IfSome}
use Prim.Native.Nat.{ℕ, suc, ◌+◌, ◌%◌, ◌^◌, ◌≤◌, ◌<◌, min, max}
use native.Mathlib.Omega.{arith}
use mathlib.Core.Path.{◌≡◌, refl, sym, subst}
use mathlib.Core.Bool.{Bool, true, false, cond, true≢false}
use mathlib.Core.List.Memᴰ
use mathlib.Core.List.{List, [], ◌∷◌}
use lib.Dec.{eqb}
use lib.Ieee.{binary64}
use lib.Ieee.Bits.{of_bits-fits}
use lib.IntN.{ℤ, pos, negsuc, nat_abs}
use lib.ListN.{length, take, drop, get_or}
use Rattle.rng_util.specs.Many.{listed}
use Rattle.rng_util.proofs.Parts.{pad-length}
use Rattle.distribution.specs.Dims.{is_continuous}
use Rattle.distribution.specs.Good.{Good, GoodIntStep}
use Rattle.distribution.specs.Validate.{judged, int_limit}
use Rattle.distribution.specs.declared.DimensionInfo.{DimensionInfo}
use Rattle.distribution.specs.declared.Distribution.{Distribution}
use Rattle.distribution.specs.declared.Distribution.TheVariants as D
use Rattle.distribution.proofs.IntRows.{natural-step}
use Rattle.distribution.proofs.Meaning.{judged-good}
use Rattle.common.specs.Bounds.{zero_f}
use Rattle.ledger.specs.Words.{All, all}
use Rattle.candidates.specs.Candidate.{blank_candidate}
use Rattle.candidates.specs.declared.Candidate.{Candidate}
use Rattle.evolution.specs.declared.Member.{Member}
use Rattle.selection.specs.Records.{blank_member}
use Rattle.state.specs.Blank.{blank_dim, blank_trial, is_blank_distribution, is_blank_dim}
use Rattle.state.specs.Places.{places_fit, passes}
use Rattle.state.specs.Sound.{sound_state}
use Rattle.state.specs.declared.State.{State}
use Rattle.std.proofs.lemmas.Bool.{and_parts}
use Rattle.state.proofs.Measured.{arrays-of, Measured}
use Rattle.state.proofs.Whole.{of-sound}
use Rattle.records.proofs.Lists.{all_of, all_take, all_listed, all-padded, all_same, all-with, listed-length}
use Rattle.kinds.specs.Rows.{word_double, float_in, int_in, dim_in, setup_in, trial_in, entries_in, choices_in, candidate_in, member_in}
use Rattle.kinds.specs.Opened.{row, dim_at, state_in}
use Rattle.kinds.specs.Typed.{TypedMember, Double, Whole, TypedDistribution, TypedState, TypedCandidate}
use Rattle.kinds.proofs.Typed.{sized_of}
use Rattle.kinds.proofs.Saving.{in_use, none_of}

pub word-double : (w : ℕ) → Double (word_double w)
word-double w = of_bits-fits binary64 w

-- ---- a candidate

module _ (ds : List DimensionInfo) (few : length ds ≤ 16) where
  entries-few : (ds : List DimensionInfo) (ws : List ℕ) → length (entries_in ds ws) ≤ length ds
  unfolding entries_in
  entries-few [] ws = omega arith
  entries-few (d ∷ ds) [] = omega arith
  entries-few (d ∷ ds) (w ∷ ws) = go (is_continuous d) (entries-few ds ws)
    where
      go : (b : Bool) → length (entries_in ds ws) ≤ length ds → length (cond b (word_double w ∷ entries_in ds ws) (entries_in ds ws)) ≤ suc (length ds)
      go true h = omega arith
      go false h = omega arith

  choices-few : (ds : List DimensionInfo) (ws : List ℕ) → length (choices_in ds ws) ≤ length ds
  unfolding choices_in
  choices-few [] ws = omega arith
  choices-few (d ∷ ds) [] = omega arith
  choices-few (d ∷ ds) (w ∷ ws) = let h = choices-few ds ws in omega arith

  entries-double : (ds : List DimensionInfo) (ws : List ℕ) → All Double (entries_in ds ws)
  unfolding entries_in
  entries-double [] ws a m = absurd (Memᴰ.not-nil m)
  entries-double (d ∷ ds) [] a m = absurd (Memᴰ.not-nil m)
  entries-double (d ∷ ds) (w ∷ ws) a m = go (is_continuous d) (entries-double ds ws) a m
    where
      go : (b : Bool) → All Double (entries_in ds ws) → All Double (cond b (word_double w ∷ entries_in ds ws) (entries_in ds ws))
      go true h a (Memᴰ.head e) = subst Double (sym e) (word-double w)
      go true h a (Memᴰ.tail m) = h a m
      go false h a m = h a m

  choices-small : (ds : List DimensionInfo) (ws : List ℕ) → All (λ (c : ℕ). c < 2 ^ 16) (choices_in ds ws)
  unfolding choices_in
  choices-small [] ws a m = absurd (Memᴰ.not-nil m)
  choices-small (d ∷ ds) [] a m = absurd (Memᴰ.not-nil m)
  choices-small (d ∷ ds) (w ∷ ws) a (Memᴰ.head e) = subst (λ (c : ℕ). c < 2 ^ 16) (sym e) (go (is_continuous d))
    where
      go : (b : Bool) → cond b 0 (w % 2 ^ 16) < 2 ^ 16
      go true = omega arith
      go false = omega arith
  choices-small (d ∷ ds) (w ∷ ws) a (Memᴰ.tail m) = choices-small ds ws a m

  pub candidate-typed : (ws : List ℕ) → TypedCandidate (candidate_in ds ws)
  candidate-typed ws =
      record {
        x = pad-length 16 zero_f (entries_in ds ws) (omega (arith, entries-few ds ws));
        choices = pad-length 16 0 (choices_in ds ws) (omega (arith, choices-few ds ws));
        doubles = all-padded Double 16 zero_f (entries_in ds ws) (entries-double ds ws) (word-double 0);
        small = all-padded (λ (c : ℕ). c < 2 ^ 16) 16 0 (choices_in ds ws) (choices-small ds ws) (omega arith);
      }

pub blank-typed : TypedCandidate blank_candidate
blank-typed =
    record {
      x = refl;
      choices = refl;
      doubles = all_same Double 16 zero_f (word-double 0);
      small = all_same (λ (c : ℕ). c < 2 ^ 16) 16 0 (omega arith);
    }

-- ---- a dimension

-- a distribution's doubles; its whole numbers are small where it passes 4 to 7
abbrev pub Doubles : Distribution → Type 0
Doubles (D.Float d) = Double d.low × Double d.high × IfSome d.step Double
Doubles (D.Int d) = Unit {0}
Doubles (D.Categorical d) = Unit {0}

small-whole : (z : ℤ) → nat_abs z ≤ int_limit → Whole z
small-whole (pos n) h = omega arith
small-whole (negsuc n) h = omega arith

small-step : (s : Option ℤ) → GoodIntStep s → IfSome s Whole
small-step None g = tt
small-step (Some s) g = small-whole s (natural-step s g).most

pub good-typed : (d : Distribution) → Doubles d → Good d → TypedDistribution d
good-typed (D.Float d) t g = t
good-typed (D.Int d) t g = (small-whole d.low g.small_low, small-whole d.high g.small_high, small-step d.step g.good_step)
good-typed (D.Categorical d) t g = tt

pub dim-doubles : (ws : List ℕ) → Doubles (dim_in ws).distribution
unfolding dim_in
dim-doubles ws = go (eqb (get_or ws 0 0) 1) (eqb (get_or ws 0 0) 2)
  where
    step : (b : Bool) → IfSome (option_map word_double (cond b None (Some (get_or ws 4 0)))) Double
    step true = tt
    step false = word-double (get_or ws 4 0)

    go : (b c : Bool) → Doubles (cond b (D.Float (float_in (get_or ws 1 0) (get_or ws 2 0) (get_or ws 3 0) (get_or ws 4 0)))
        (cond c (D.Int (int_in (get_or ws 1 0) (get_or ws 2 0) (get_or ws 3 0) (get_or ws 4 0))) (D.Categorical (record { n_choices = get_or ws 1 0 }))))
    go true c = (word-double (get_or ws 1 0), word-double (get_or ws 2 0), step (eqb (get_or ws 3 0) 0))
    go false true = tt
    go false false = tt

pub blank-fits : (d : Distribution) → is_blank_distribution d ≡ true → TypedDistribution d
blank-fits (D.Float d) e = absurd (true≢false (sym e))
blank-fits (D.Int d) e = absurd (true≢false (sym e))
blank-fits (D.Categorical d) e = tt

pub not-in-use : {A : Type 0} (right blank : A → Bool) (n : ℕ) (xs : List A) → places_fit right blank n xs ≡ true → All (λ x. blank x ≡ true) (drop n xs)
unfolding places_fit
not-in-use right blank n xs e = all_of blank (drop n xs) (and_parts (all right (take n xs)) (all blank (drop n xs)) e).1

-- ---- the state

module _ (us ns ds ts ps cs : List ℕ) where
  abbrev s : State
  s = state_in us ns ds ts ps cs

  abbrev width : ℕ
  width = min (get_or ns 4 0) 16

  abbrev dims : List DimensionInfo
  dims = listed (dim_at ds) width 0

  dims_few : length dims ≤ 16
  dims_few = omega (arith, listed-length (dim_at ds) width 0)

  abbrev nc : ℕ
  nc = cond (eqb (get_or ns 2 0) 1) (max (get_or ns 3 0) (get_or ns 5 0)) 0

  abbrev np : ℕ
  np = cond (eqb (get_or ns 6 0 % 2 ^ 32) 0) 0 (get_or ns 3 0)

  abbrev candidates : List Candidate
  candidates = listed (λ i. candidate_in dims (row cs width i)) (min nc 224) 0

  abbrev parents : List Member
  parents = listed (λ i. member_in dims (row ps (width + 1) i)) (min np 160) 0

  all-candidates : All TypedCandidate s.candidates
  unfolding state_in
  all-candidates = all-padded TypedCandidate 224 blank_candidate candidates (all_listed TypedCandidate _ (min nc 224) 0 (λ i. candidate-typed dims dims_few (row cs width i))) blank-typed

  all-parents : All TypedMember s.parents
  unfolding state_in
  all-parents =
      all-padded TypedMember 160 blank_member parents
      (all_listed TypedMember _ (min np 160) 0 (λ i. (candidate-typed dims dims_few (row ps (width + 1) i), word-double _))) (blank-typed, word-double 0)

  pub in-measured : Measured s
  unfolding state_in
  in-measured =
      record {
        dims = pad-length 16 blank_dim dims dims_few;
        candidates = pad-length 224 blank_candidate candidates (omega (arith, listed-length (λ i. candidate_in dims (row cs width i)) (min nc 224) 0));
        parents = pad-length 160 blank_member parents (omega (arith, listed-length (λ i. member_in dims (row ps (width + 1) i)) (min np 160) 0));
        trials = pad-length 224 blank_trial (listed (λ i. trial_in (row ts 2 i)) (min (get_or ns 5 0) 224) 0) (omega (arith, listed-length (λ i. trial_in (row ts 2 i)) (min (get_or ns 5 0) 224) 0));
        candidates_sized = λ c m. sized_of c (all-candidates c m);
        parents_sized = λ p m. sized_of p.candidate (all-parents p m).0;
        closed = omega arith;
        idle = omega arith;
      }

  dims-double : All (λ (d : DimensionInfo). Doubles d.distribution) s.dims
  unfolding state_in
  dims-double = all-padded (λ (d : DimensionInfo). Doubles d.distribution) 16 blank_dim dims (all_listed (λ (d : DimensionInfo). Doubles d.distribution) (dim_at ds) width 0 (λ i. dim-doubles (row ds 5 i))) tt

  pub decoded : sound_state s ≡ true → TypedState s
  unfolding state_in setup_in
  decoded e =
      let parts = of-sound s (arrays-of in-measured) e in
      record {
        dims_length = in-measured.dims;
        candidates_length = in-measured.candidates;
        parents_length = in-measured.parents;
        trials_length = in-measured.trials;
        closed = omega arith;
        idle = omega arith;
        factor = word-double (get_or us 0 0);
        rate = word-double (get_or us 1 0);
        dims = all-with (λ (d : DimensionInfo). TypedDistribution d.distribution) s.n_dims s.dims
            (λ d m. good-typed d.distribution (all_take (λ (d : DimensionInfo). Doubles d.distribution) s.n_dims s.dims dims-double d m)
            (judged-good d.distribution (none_of (judged d.distribution) (in_use passes is_blank_dim s.n_dims s.dims parts.dims d m))))
            (λ d m. blank-fits d.distribution (not-in-use passes is_blank_dim s.n_dims s.dims parts.dims d m));
        candidates = all-candidates;
        parents = all-parents;
      }
