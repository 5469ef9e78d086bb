-- What the parts of a closing make, put together: the calls' results are the definition's, for N parents and N new candidates stand in their arrays' first places.
use mathlib.Core.Path.{◌≡◌, sym, ap, ap₂, ◌∙◌}
use mathlib.Core.Bool.{Bool, true, false, cond}
use mathlib.Core.List.{List}
use Prim.Native.Nat.{ℕ, ◌-◌, ◌≤◌, ◌<◌, min}
use native.Mathlib.Omega.{arith}
use lib.Dec.{eqb}
use lib.Ieee.{Float, lt}
use lib.ListN.{length, take, replicate, length-map}
use lib.Seq.{take_at, length-take-le}
use Rattle.std.specs.List.{zip}
use Rattle.std.proofs.lemmas.Slice.Zip.{length-zip}
use Rattle.rng_util.specs.Gen.{Made, made}
use Rattle.rng_util.specs.Many.{padded}
use Rattle.rng_util.specs.declared.Gen.{Gen}
use Rattle.candidates.specs.Candidate.{blank_candidate}
use Rattle.candidates.specs.Space.{space_of}
use Rattle.candidates.specs.declared.Candidate.{Candidate}
use Rattle.candidates.specs.declared.Space.{Space}
use Rattle.evolution.specs.Trial.{next_candidates}
use Rattle.evolution.specs.declared.Member.{Member}
use Rattle.selection.specs.Best.{values, best_slot, least_value}
use Rattle.selection.specs.Records.{blank_member, members_rec}
use Rattle.selection.specs.Select.{selected, stored}
use Rattle.selection.proofs.Best.{best-below}
use Rattle.selection.proofs.Slots.{stored_one, stored-zip, selected_one, selected-zip}
use Rattle.ledger.specs.Closing.{up, new_idle}
use Rattle.state.specs.Blank.{blank_trial}
use Rattle.state.specs.declared.State.{State}
use Rattle.closing.specs.Raw.{parents_after, became_smaller, settled, raw_parents, raw_slots, raw_nexts, raw_close}
use Rattle.closing.specs.declared.Slots.{Slots}

-- ---- how many

stored-length : (cs : List Candidate) (rs : List Float) → length (stored cs rs) ≡ min (length cs) (length rs)
stored-length cs rs = ap (λ (ms : List Member). length ms) (sym (stored-zip cs rs)) ∙ length-map (zip cs rs) stored_one ∙ length-zip cs rs

selected-length : (ps : List Member) (cs : List Candidate) (rs : List Float) → length (selected ps cs rs) ≡ min (min (length ps) (length cs)) (length rs)
selected-length ps cs rs = ap (λ (ms : List Member). length ms) (sym (selected-zip ps cs rs)) ∙ length-map (zip (zip ps cs) rs) selected_one ∙ length-zip (zip ps cs) rs ∙ ap (λ (n : ℕ). min n (length rs)) (length-zip ps cs)

parents_length : (k : ℕ) (ps : List Member) (cs : List Candidate) (rs : List Float) → length cs ≡ length ps → length rs ≡ length ps → length (parents_after k ps cs rs) ≡ length ps
unfolding parents_after
parents_length k ps cs rs c r = go (eqb k 0)
  where
    go : (b : Bool) → length (cond b (stored cs rs) (selected ps cs rs)) ≡ length ps
    go true = omega (arith, stored-length cs rs)
    go false = omega (arith, selected-length ps cs rs)

-- ---- the new parents

-- they stand in the first places of their array
first-members : (n : ℕ) (q xs : List Member) → q ≡ members_rec xs → length xs ≡ n → take n q ≡ xs
first-members n q xs e l = ap (take n) e ∙ take_at xs (replicate (160 - length xs) blank_member) n l

pub kept : (k : ℕ) (ps : List Member) (cs : List Candidate) (rs : List Float) (q : List Member) → length cs ≡ length ps → length rs ≡ length ps
    → q ≡ members_rec (parents_after k ps cs rs) → take (length ps) q ≡ parents_after k ps cs rs
kept k ps cs rs q c r e = first-members (length ps) q _ e (parents_length k ps cs rs c r)

-- ---- the slots

module _ (s : State) (rs : List Float) (q : List Member) (whole : q ≡ members_rec (raw_parents s rs)) (first : take s.n q ≡ raw_parents s rs) where
  pub slots-are : (v w : Float) (b k i : ℕ) → v ≡ least_value (values (take s.n q)) → w ≡ least_value (values (take s.n s.parents)) → b ≡ best_slot (values (take s.n q)) → k ≡ up s.closed
      → i ≡ new_idle s.closed s.idle (lt v w) → record { parents = q; best = b; closed = k; idle = i } ≡ raw_slots s rs
  unfolding settled
  slots-are v w b k i f g h u d =
      let best : b ≡ best_slot (values (raw_parents s rs)) = h ∙ ap (λ (l : List Member). best_slot (values l)) first in
      let least : v ≡ least_value (values (raw_parents s rs)) = f ∙ ap (λ (l : List Member). least_value (values l)) first in
      let idle : i ≡ new_idle s.closed s.idle (became_smaller (take s.n s.parents) (raw_parents s rs)) = d ∙ ap₂ (λ (y z : Float). new_idle s.closed s.idle (lt y z)) least g in
      λ j. record { parents = whole j; best = best j; closed = u j; idle = idle j }

-- ---- the closing, from the results of its calls

module _ (s : State) (rs : List Float) (o : Slots) (p : o ≡ raw_slots s rs) (first-parents : take s.n o.parents ≡ raw_parents s rs) where
  best-is : o.best ≡ best_slot (values (raw_parents s rs))
  unfolding settled
  best-is = ap (λ (q : Slots). q.best) p

  counted : s.n ≤ length o.parents → length (raw_parents s rs) ≡ s.n
  counted long = ap (λ (l : List Member). length l) (sym first-parents) ∙ length-take-le s.n o.parents long

  -- it is a slot
  pub best-fits : 4 ≤ s.n → s.n ≤ length o.parents → o.best < s.n
  best-fits h long =
      let k : length (values (raw_parents s rs)) ≡ s.n = length-map (raw_parents s rs) (λ (m : Member). m.value) ∙ counted long in
      omega (arith, best-is, best-below (values (raw_parents s rs)) (omega arith))

  module _ (sp : Space) (q : sp ≡ space_of (take s.n_dims s.dims)) (g g' : Gen) (cs : List Candidate)
      (h : made cs g' ≡ padded 224 blank_candidate (next_candidates s.setup (take s.n o.parents) o.best sp g)) where
    abbrev nexts : Made (List Candidate)
    nexts = raw_nexts s (raw_parents s rs) g

    next-is : made cs g' ≡ padded 224 blank_candidate nexts
    next-is = h ∙ λ i. padded 224 blank_candidate (next_candidates s.setup (first-parents i) (best-is i) (q i) g)

    -- the state as the code puts it together
    abbrev with-slots : List Candidate → Slots → State
    with-slots ys k =
        record {
          setup = s.setup;
          first = s.first;
          discovered = s.discovered;
          n = s.n;
          n_dims = s.n_dims;
          dims = s.dims;
          candidates = ys;
          parents = k.parents;
          n_trials = 0;
          trials = replicate 224 blank_trial;
          best = k.best;
          word = s.word;
          closed = k.closed;
          idle = k.idle;
        }

    pub closed-so : made (with-slots cs o) g' ≡ raw_close s rs g
    unfolding raw_close
    closed-so = λ j. made (with-slots (next-is j).out (p j)) (next-is j).after
