-- Steps 6 and 5 on a sound state: what a closing leaves, and what an assignment leaves, as records of facts that the later files go by.
use Rattle.std.specs.Prelude.{Option, Some, None, slice_get}
use Rattle.ledger.specs.Words.{All}
use Rattle.ledger.specs.Kernel.{Gen, Made, Parent, Kernel, Laws}
use Rattle.ledger.specs.Call.{Call}
use Rattle.ledger.specs.State.{Trial, numbers, State, values}
use Rattle.ledger.specs.Closing.{up, new_idle, new_parents, settle, reopen, close}
use Rattle.ledger.specs.Assignment.{place_in, move, Accepted, serve, assign}
use Rattle.ledger.specs.Soundness.{Running, Sound}
use Rattle.ledger.proofs.Lists.{none≢some, some_inj, at-below, past_end, snoc_old, snoc_new, snoc-length, all_nil, all_snoc, length-map}
use Rattle.ledger.proofs.Trials.{place-le, move-length}
use Rattle.ledger.proofs.Results.{Counted}
use Rattle.ledger.proofs.Slots.{store_length, store-all, select-length, select-all, best-below}
use mathlib.Core.Path.{◌≡◌, refl, sym, ap, subst, ◌∙◌}
use mathlib.Core.Logic.{◌≢◌}
use mathlib.Core.Bool.{Bool, true, false}
use mathlib.Core.List.{List, [], ◌∷◌, ◌++◌}
use Prim.Native.Nat.{ℕ, zero, suc, ◌≤◌, ◌<◌, max}
use native.Mathlib.Omega.{arith}
use lib.ListN.{length}
use lib.Ieee.{Float, nan}

module _ (K : Kernel) (L : Laws K) where
  open K use {Setup, Candidate, Word, accepts, extra, nexts, Fits}
  open L use {sized, nexts_length, nexts_fit, extra_fits}

  -- ---- step 6

  module _ (S : Setup) (N : ℕ) (s : State K) (w : Running K S N s) (many : ℕ) (row : List Float) (q : Counted K L N many row) where
    pub slots_length : length (settle K s.slots s.candidates row).parents ≡ N
    slots_length = go s.slots.closed refl
      where
        go : (k : ℕ) → s.slots.closed ≡ k → length (new_parents K k s.slots.parents s.candidates row) ≡ N
        go zero z = omega (arith, store_length K s.candidates row, w.candidates, q.each)
        go (suc k) z =
            let p = w.parents (omega arith) in
            omega (arith, select-length K s.slots.parents s.candidates row, w.candidates, q.each, p)

    pub slots-all : All (λ p. Fits s.dims p.candidate × (p.value ≢ nan)) (settle K s.slots s.candidates row).parents
    slots-all = go s.slots.closed
      where
        go : (k : ℕ) → All (λ p. Fits s.dims p.candidate × (p.value ≢ nan)) (new_parents K k s.slots.parents s.candidates row)
        go zero = store-all K (Fits s.dims) (λ v. v ≢ nan) s.candidates row w.fit q.good
        go (suc k) = select-all K (Fits s.dims) (λ v. v ≢ nan) s.slots.parents s.candidates row (λ p m. (w.parents_fit p m, w.good p m)) w.fit q.good

    idle-le : (k : ℕ) (b : Bool) → s.slots.idle ≤ k → new_idle k s.slots.idle b ≤ up k
    idle-le zero b h = omega arith
    idle-le (suc k) true h = omega arith
    idle-le (suc k) false h = omega arith

    pub close-running : (cs : List Candidate) → length cs ≡ N → All (Fits s.dims) cs → Running K S N (reopen K s (settle K s.slots s.candidates row) cs)
    close-running cs e f =
        record {
          some_dim = w.some_dim;
          named = w.named;
          sized = w.sized;
          candidates = omega (arith, e);
          extras = omega arith;
          differ = λ i j n x y. absurd (none≢some x);
          places = all_nil (λ t. t.next ≤ length s.dims);
          fit = f;
          none_yet = λ z. absurd (omega arith);
          parents = λ z. slots_length;
          parents_fit = λ p m. (slots-all p m).0;
          good = λ p m. (slots-all p m).1;
          best = refl;
          idle = idle-le s.slots.closed _ w.idle;
          capped = omega arith;
        }

  pub close-sound : (S : Setup) (N : ℕ) (s : State K) → Sound K S s → s.size ≡ Some N → (many : ℕ) (row : List Float) → Counted K L N many row → (cs : List Candidate) → length cs ≡ N → All (Fits s.dims) cs
      → Sound K S (reopen K s (settle K s.slots s.candidates row) cs)
  close-sound S N s v sz many row q cs e f =
      record {
        dims_pass = v.dims_pass;
        dims_few = v.dims_few;
        before = λ z. absurd (none≢some (sym z ∙ sz));
        after = λ M z. subst (λ (n : ℕ). Running K S n (reopen K s (settle K s.slots s.candidates row) cs)) (some_inj (sym sz ∙ z)) (close-running S N s (v.after N sz) many row q cs e f);
      }

  -- what a closing leaves
  pub record Reopened (N : ℕ) (s : State K) (row : List Float) (m : Made Word (State K)) : Type 0 where
    pub cs : List Candidate
    pub is : m.out ≡ reopen K s (settle K s.slots s.candidates row) cs
    pub many : length cs ≡ N
    pub fit : All (Fits s.dims) cs

  pub closing : (S : Setup) → accepts S ≡ true → (N : ℕ) (s : State K) → Sound K S s → s.size ≡ Some N → (many : ℕ) (row : List Float)
      → Counted K L N many row → (g : Gen Word) → Reopened N s row (close K S s g (Some row))
  unfolding close
  closing S ok N s v sz many row q g =
      let w = v.after N sz in
      let o = settle K s.slots s.candidates row in
      let each : length o.parents ≡ N = slots_length S N s w many row q in
      let four : 4 ≤ length o.parents = omega (arith, sized S s.dims, w.sized, each) in
      let vs : length (values K o.parents) ≡ length o.parents = length-map (λ (p : Parent Candidate). p.value) o.parents in
      record {
        cs = (nexts S s.dims o.parents o.best g).out;
        is = refl;
        many = nexts_length S s.dims o.parents o.best g ∙ each;
        fit = nexts_fit S s.dims o.parents o.best g ok v.dims_pass (λ x y. (slots-all S N s w many row q x y).0) four
            (omega (arith, best-below (values K o.parents) (omega (arith, vs, four)), vs));
      }

  -- ---- step 5

  -- what an assignment leaves: the trial's candidate y at its place among the candidates cs, which may have grown by it
  pub record Assigned (N : ℕ) (s : State K) (c : Call K) (a : Accepted K) : Type 0 where
    pub cs : List Candidate
    pub y : Candidate
    pub gen : Gen Word
    pub is : a ≡ serve K s c cs y gen
    pub at : slice_get cs (place_in (numbers s.trials) c.number) ≡ Some y
    pub many : length cs ≡ max N (length (move (length s.dims) s.trials c.number))
    pub kept : (i : ℕ) → i < N → slice_get cs i ≡ slice_get s.candidates i
    pub fit : All (Fits s.dims) cs

  -- step 5 on a state: assignment by the candidate at the trial's place
  abbrev pub assign_on : Setup → Call K → Gen Word → State K → Accepted K
  assign_on S c g t = assign K S t c g (slice_get t.candidates (place_in (numbers t.trials) c.number))

  pub assigned : (S : Setup) (N : ℕ) (s : State K) → Sound K S s → s.size ≡ Some N → (c : Call K) (g : Gen Word) → Assigned N s c (assign_on S c g s)
  unfolding assign
  assigned S N s v sz c g = go (slice_get s.candidates (place_in (numbers s.trials) c.number)) refl
    where
      w : Running K S N s
      w = v.after N sz

      small : place_in (numbers s.trials) c.number ≤ length s.trials
      small = omega (arith, place-le (numbers s.trials) c.number, length-map (λ (t : Trial). t.number) s.trials)

      moved : length (move (length s.dims) s.trials c.number) ≡ max (length s.trials) (suc (place_in (numbers s.trials) c.number))
      moved = move-length (length s.dims) s.trials c.number

      go : (o : Option Candidate) → slice_get s.candidates (place_in (numbers s.trials) c.number) ≡ o → Assigned N s c (assign K S s c g o)
      go (Some y) x =
          record {
            cs = s.candidates;
            y = y;
            gen = g;
            is = refl;
            at = x;
            many = omega (arith, at-below s.candidates (place_in (numbers s.trials) c.number) y x, w.candidates, small, moved);
            kept = λ i b. refl;
            fit = w.fit;
          }
      go None x =
          -- a new extra: its place is the candidates' end
          let end : place_in (numbers s.trials) c.number ≡ length s.candidates = omega (arith, past_end s.candidates (place_in (numbers s.trials) c.number) x, w.candidates, small) in
          let m = extra S s.dims g in
          record {
            cs = s.candidates ++ (m.out ∷ []);
            y = m.out;
            gen = m.gen;
            is = refl;
            at = ap (slice_get (s.candidates ++ (m.out ∷ []))) end ∙ snoc_new s.candidates m.out;
            many = omega (arith, snoc-length s.candidates m.out, end, w.candidates, small, moved);
            kept = λ i b. snoc_old s.candidates m.out i (omega (arith, w.candidates));
            fit = all_snoc (Fits s.dims) s.candidates m.out w.fit (extra_fits S s.dims g v.dims_pass);
          }
