-- Step 5 on a state that is laid out is the ledger's `assign`, laid out: the candidate at the trial's place, or a new one for an extra, and the trial's record moved on.
use Rattle.std.specs.Prelude.{Option, Some, None, slice_get}
use Prim.Native.Nat.{ℕ, ◌+◌, ◌-◌, ◌<◌, min, max}
use mathlib.Core.Path.{◌≡◌, refl, sym, ap, ◌∙◌}
use mathlib.Core.Bool.{Bool, true, false, cond}
use mathlib.Core.List.{List, [], ◌∷◌, ◌++◌, map}
use native.Mathlib.Omega.{arith}
use borrow.Author.Tests.{lt-ltb, le-ltb}
use lib.Dec.{ltb}
use lib.ListN.{length, set, replicate, length-map, get_or-append}
use lib.Seq.{take-append_seam, set-get_or}
use Rattle.rng_util.specs.Gen.{made}
use Rattle.rng_util.specs.Many.{pad_to}
use Rattle.rng_util.proofs.Parts.{pad-put}
use Rattle.distribution.specs.declared.DimensionInfo.{DimensionInfo}
use Rattle.distribution.specs.declared.Distribution.{Distribution}
use Rattle.distribution.specs.declared.ParamValue.{ParamValue}
use Rattle.common.specs.Random.{random_setting}
use Rattle.candidates.specs.Candidate.{blank_candidate}
use Rattle.candidates.specs.Random.{random_candidate}
use Rattle.candidates.specs.Space.{space_of}
use Rattle.candidates.specs.declared.Candidate.{Candidate}
use Rattle.evolution.specs.declared.Setup.{Setup}
use Rattle.ledger.specs.Kernel as L
use Rattle.ledger.specs.Call.{Call}
use Rattle.ledger.specs.State.{numbers}
use Rattle.ledger.specs.State as Plain
use Rattle.ledger.specs.Assignment.{place_in, next_in, move, setting_of, hand_out, serve, assign}
use Rattle.ledger.proofs.Lists.{at-below, past_end}
use Rattle.ledger.proofs.Trials.{move-length}
use Rattle.kernel.specs.De.{de, code_gen, decode_of}
use Rattle.kernel.specs.De as De
use Rattle.state.specs.Blank.{blank_trial}
use Rattle.state.specs.View.{laid, candidate_count, progress_of, has_size, size_number}
use Rattle.state.specs.View.{dims_of}
use Rattle.assignment.specs.Raw.{no_candidate, place_of, setting_for, candidate_for, with_trial, next_at, given_at, served_with, assigned_at, raw_active}
use Rattle.assignment.specs.Laid.{laid_given}
use Rattle.assignment.proofs.Laws.{cond-true, cond-false}
use Rattle.assignment.proofs.Arrays.{at-get_or, place-numbers, numbers-laid, next-laid, moved, move-laid}

-- the ledger's setting is the code's
setting-is : (b : Bool) (m : Plain.State de) (c : Call de) (k : ℕ) (y : Candidate) (g : L.Gen ℕ)
    → De.made (cond b (made (decode_of m.dims k y) (code_gen g)) (random_setting c.distribution.distribution (code_gen g))) ≡ setting_of de b m c k y g
setting-is true m c k y g = refl
setting-is false m c k y g = refl

pub dims-laid : (S : Setup) (m : Plain.State de) → dims_of (laid S m) ≡ m.dims
unfolding laid
dims-laid S m = take-append_seam m.dims _

pub place-laid : (S : Setup) (m : Plain.State de) (n : ℕ) → place_of (laid S m) n ≡ place_in (numbers m.trials) n
unfolding laid
place-laid S m n = ap (λ (ns : List ℕ). place_in ns n) (numbers-laid m.trials _)

-- a generation is open, and there is a place for the trial n: N candidates, and one for each trial past N
pub record Open (m : Plain.State de) (N n : ℕ) : Type 0 where
  pub sized : m.size ≡ Some N
  pub candidates : length m.candidates ≡ max N (length m.trials)
  pub place : place_in (numbers m.trials) n < 224

module _ (S : Setup) (m : Plain.State de) (c : Call de) (N : ℕ) (o : Open m N c.number) where
  abbrev place : ℕ
  place = place_in (numbers m.trials) c.number

  abbrev next : ℕ
  next = next_in m.trials c.number

  abbrev lent : Distribution
  lent = c.distribution.distribution

  count-laid : candidate_count (laid S m) ≡ length m.candidates
  unfolding laid
  count-laid = ap (λ (z : Option ℕ). cond (has_size z) (max (size_number z) (length m.trials)) 0) o.sized ∙ sym o.candidates

  -- the trial's record, moved on in the array
  trials-laid : set (pad_to 224 blank_trial (map progress_of m.trials)) place (moved c.number next (length m.dims)) ≡ pad_to 224 blank_trial (map progress_of (move (length m.dims) m.trials c.number))
  trials-laid =
      let ts = m.trials in
      let D = length m.dims in
      let n = c.number in
      let p = o.place in
      let j : 224 - length (map progress_of ts) ≡ 224 - length ts = ap (λ (l : ℕ). 224 - l) (length-map ts progress_of) in
      let q : length ts + (224 - length ts) - length (move D ts n) ≡ 224 - length (map progress_of (move D ts n)) = omega (arith, length-map (move D ts n) progress_of, move-length D ts n) in
      ap (λ (l : ℕ). set (map progress_of ts ++ replicate l blank_trial) place (moved n next D)) j
      ∙ move-laid D ts n (224 - length ts) (omega (arith, move-length D ts n))
      ∙ ap (λ (l : ℕ). map progress_of (move D ts n) ++ replicate l blank_trial) q

  module _ (cs : List Candidate) (y : Candidate) (g : L.Gen ℕ) (h : set (pad_to 224 blank_candidate m.candidates) place y ≡ pad_to 224 blank_candidate cs) where
    given-laid : (r : L.Made ℕ ParamValue) → record { setting = r.out; draws = r.gen.draws; state = with_trial (laid S m) c.number place y (min (next + 1) (length m.dims)) r.gen.word }
        ≡ laid_given S (hand_out de m c cs r)
    unfolding laid
    given-laid r =
        let k : max (length m.trials) (place + 1) ≡ length (move (length m.dims) m.trials c.number) = omega (arith, move-length (length m.dims) m.trials c.number) in
        rw (h, trials-laid, k)

    -- the call of a trial whose candidate is y
    serve-laid : served_with (laid S m) lent c.number place (made y (code_gen g)) ≡ laid_given S (serve de m c cs y g)
    unfolding setting_for laid
    serve-laid =
        ap (λ (ds : List DimensionInfo). given_at (laid S m) c.number place y (next_at (laid S m) place) (setting_for ds lent (next_at (laid S m) place) y (code_gen g))) (dims-laid S m)
        ∙ ap (λ (k : ℕ). given_at (laid S m) c.number place y k (setting_for m.dims lent k y (code_gen g))) (next-laid m.trials c.number (224 - length (map progress_of m.trials)))
        ∙ given-laid (De.made (setting_for m.dims lent next y (code_gen g)))
        ∙ ap (λ (r : L.Made ℕ ParamValue). laid_given S (hand_out de m c cs r)) (setting-is (ltb next (length m.dims)) m c next y g)

  known-laid : (y : Candidate) (g : L.Gen ℕ) → slice_get m.candidates place ≡ Some y → assigned_at (laid S m) place (code_gen g) ≡ made y (code_gen g)
  unfolding candidate_for laid
  known-laid y g e =
      let t : ltb place (candidate_count (laid S m)) ≡ true = lt-ltb place (candidate_count (laid S m)) (rw count-laid (at-below m.candidates place y e)) in
      cond-true _ _ _ t
      ∙ ap (λ (z : Candidate). made z (code_gen g))
      (get_or-append m.candidates _ no_candidate place (at-below m.candidates place y e) ∙ at-get_or m.candidates place y no_candidate e)

  stays : (y : Candidate) → slice_get m.candidates place ≡ Some y → set (pad_to 224 blank_candidate m.candidates) place y ≡ pad_to 224 blank_candidate m.candidates
  stays y e =
      ap (λ (z : Candidate). set (pad_to 224 blank_candidate m.candidates) place z)
      (sym (get_or-append m.candidates _ no_candidate place (at-below m.candidates place y e) ∙ at-get_or m.candidates place y no_candidate e))
      ∙ set-get_or (pad_to 224 blank_candidate m.candidates) place no_candidate

  extra-laid : (g : L.Gen ℕ) → slice_get m.candidates place ≡ None → assigned_at (laid S m) place (code_gen g) ≡ random_candidate (space_of m.dims) (code_gen g)
  unfolding candidate_for
  extra-laid g e =
      let t : ltb place (candidate_count (laid S m)) ≡ false = le-ltb place (candidate_count (laid S m)) (rw count-laid (past_end m.candidates place e)) in
      cond-false _ _ _ t ∙ ap (λ (ds : List DimensionInfo). random_candidate (space_of ds) (code_gen g)) (dims-laid S m)

  joins : (y : Candidate) → slice_get m.candidates place ≡ None → set (pad_to 224 blank_candidate m.candidates) place y ≡ pad_to 224 blank_candidate (m.candidates ++ (y ∷ []))
  joins y e =
      let p = o.place in
      let end : place ≡ length m.candidates = omega (arith, past_end m.candidates place e, place-numbers m.trials c.number, o.candidates) in
      ap (λ (i : ℕ). set (pad_to 224 blank_candidate m.candidates) i y) end ∙ pad-put 224 blank_candidate y m.candidates (omega arith)

  -- The theorem for step 5: `sample_active` on a state laid out is the ledger's assignment.
  pub active-laid : (g : L.Gen ℕ) → raw_active (laid S m) lent c.number (code_gen g) ≡ laid_given S (assign de S m c g (slice_get m.candidates place))
  unfolding raw_active
  active-laid g =
      ap (λ (i : ℕ). served_with (laid S m) lent c.number i (assigned_at (laid S m) i (code_gen g))) (place-laid S m c.number)
      ∙ go (slice_get m.candidates place) refl
    where
      go : (z : Option Candidate) → slice_get m.candidates place ≡ z → served_with (laid S m) lent c.number place (assigned_at (laid S m) place (code_gen g)) ≡ laid_given S (assign de S m c g z)
      go (Some y) e = unfold assign in ap (served_with (laid S m) lent c.number place) (known-laid y g e) ∙ serve-laid m.candidates y g (stays y e)
      go None e =
          unfold assign De.extra_of in let r = random_candidate (space_of m.dims) (code_gen g) in
          ap (served_with (laid S m) lent c.number place) (extra-laid g e) ∙ serve-laid (m.candidates ++ (r.out ∷ [])) r.out (De.made r).gen (joins r.out e)
