-- Step 5: "a trial new to the open generation gets the next candidate, the i-th trial that of slot i."
use Rattle.ledger.specs.Kernel.{Gen, Made, Kernel}
use Rattle.ledger.specs.Call.{Call}
use Rattle.ledger.specs.State.{Trial, State}
use Rattle.std.specs.Prelude.{Bool, true, false, cond, List, [], ◌∷◌, ◌++◌, ℕ, zero, suc, min, ltb, eqb, length, Option, Some, None}

-- ---- the open trials

-- the place of trial n: where it stands, or the next place if it is new
unfoldable pub place_in : List ℕ → ℕ → ℕ
place_in [] n = zero
place_in (m ∷ ms) n = cond (eqb m n) zero (suc (place_in ms n))

-- the dimension that the call of trial n gives: 0 for a new trial
unfoldable pub next_in : List Trial → ℕ → ℕ
next_in [] n = zero
next_in (t ∷ ts) n = cond (eqb t.number n) t.next (next_in ts n)

-- the open trials after a call of trial n: its next place goes up by one and "stops at D"; a new trial comes last
unfoldable pub move : ℕ → List Trial → ℕ → List Trial
move D [] n = record { number = n; next = min 1 D } ∷ []
move D (t ∷ ts) n = cond (eqb t.number n) (record { number = t.number; next = min (suc t.next) D } ∷ ts) (t ∷ move D ts n)

module _ (K : Kernel) where
  open K use {Setup, Setting, Candidate, Word, random, extra, decode}

  -- an accepted call's setting, draws and new state
  pub record Accepted : Type 0 where
    pub setting : Setting
    pub draws : ℕ
    pub state : State K

  -- "Each call of a trial, the assigning one first, gives its next dimension, decoded by the stored distribution, not the one lent. Past the last
  -- dimension: `sample_random` of the lent one": by whether k is a dimension
  abbrev pub setting_of : Bool → State K → Call K → ℕ → Candidate → Gen Word → Made Word Setting
  setting_of true s c k y g = record { out = decode s.dims k y; gen = g }
  setting_of false s c k y g = random c.distribution g

  abbrev pub hand_out : State K → Call K → List Candidate → Made Word Setting → Accepted
  hand_out s c cs m =
      record {
        setting = m.out;
        draws = m.gen.draws;
        state =
            record {
              word = m.gen.word;
              first = s.first;
              dims = s.dims;
              size = s.size;
              candidates = cs;
              trials = move (length s.dims) s.trials c.number;
              slots = s.slots;
            };
      }

  -- the call of a trial whose candidate is y
  abbrev pub serve : State K → Call K → List Candidate → Candidate → Gen Word → Accepted
  serve s c cs y g =
      let k = next_in s.trials c.number in
      hand_out s c cs (setting_of (ltb k (length s.dims)) s c k y g)

  -- By the candidate at the trial's place. Where there is none, N trials have theirs and this one is a new EXTRA: "After N trials each extra gets a random
  -- candidate and never competes."
  unfoldable pub assign : Setup → State K → Call K → Gen Word → Option Candidate → Accepted
  assign S s c g (Some y) = serve s c s.candidates y g
  assign S s c g None = let m = extra S s.dims g in serve s c (s.candidates ++ (m.out ∷ [])) m.out m.gen
