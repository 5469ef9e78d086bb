-- Step 6: "an accepted sample call after discovery closes the generation, before assignment, exactly when at least N trials are assigned and its history
-- has the first N."
use Rattle.ledger.specs.Words.{◌>>=◌}
use Rattle.ledger.specs.Kernel.{Gen, Made, Parent, Kernel}
use Rattle.ledger.specs.State.{cap, Slots, State, values}
use Rattle.std.specs.Prelude.{Bool, true, false, ◌&&◌, cond, List, [], ◌∷◌, ℕ, zero, suc, min, leb, eqb, length, take, get_or, Float, Option, Some, None}
use Rattle.std.specs.Float.{inf}
use Rattle.std.specs.Float.Ieee.{le, lt}

-- ---- the best slot: "first least, 0 if all are +infinity"

-- v is at most each of the values
unfoldable pub at_most : Float → List Float → Bool
at_most v [] = true
at_most v (w ∷ ws) = le v w && at_most v ws

-- the first place whose value is at most each later one; 0 where there is no value
unfoldable pub best_of : List Float → ℕ
best_of [] = zero
best_of (v ∷ vs) = cond (at_most v vs) zero (suc (best_of vs))

-- the least of the values, which the best slot has; +infinity where there is no value
abbrev pub least_of : List Float → Float
least_of vs = get_or vs (best_of vs) (inf false)

-- ---- the counters

-- one up, to the stop
abbrev pub up : ℕ → ℕ
up n = min (suc n) cap

-- W5: whether "the least value of all slots .. became numerically smaller", by the values before and after a closing; a zero of the other sign is not smaller
abbrev pub became_smaller : List Float → List Float → Bool
became_smaller before after = lt (least_of after) (least_of before)

-- "the number of closed generations since [it] last [did]. It is 0 up to and at the first closing": by the count of generations closed before, the idle count
-- before, and whether it did
abbrev pub new_idle : ℕ → ℕ → Bool → ℕ
new_idle zero idle smaller = 0
new_idle (suc k) idle smaller = cond smaller 0 (up idle)

module _ (K : Kernel) where
  open K use {Setup, Candidate, Word, Entry, number_of, value_of, nexts}

  -- ---- the counted results

  -- a trial's value in a history, read from left to right: "If a number stands twice, its last entry counts"
  unfoldable pub scan : List Entry → ℕ → Option Float → Option Float
  scan [] n found = found
  scan (e ∷ es) n found = scan es n (cond (eqb (number_of e) n) (Some (value_of e)) found)

  -- the values of these trials in their order, if the history has each
  unfoldable pub results_of : List Entry → List ℕ → Option (List Float)
  results_of h [] = Some []
  results_of h (n ∷ ns) = do
    v ← scan h n None
    vs ← results_of h ns
    Some (v ∷ vs)

  -- by N, the open trials' numbers and the history: the counted results, if the call closes a generation ("at least N trials are assigned and its history has
  -- the first N"). "The value there of the i-th is the counted result of slot i."
  unfoldable pub counted : ℕ → List ℕ → List Entry → Option (List Float)
  counted N ns h = cond (leb N (length ns)) (results_of h (take N ns)) None

  -- ---- the slots after it

  -- "The first closing stores candidates and values"
  unfoldable pub store : List Candidate → List Float → List (Parent Candidate)
  store [] rs = []
  store (c ∷ cs) [] = []
  store (c ∷ cs) (r ∷ rs) = record { candidate = c; value = r } ∷ store cs rs

  -- "a later one replaces the parent when the result is at most the parent's"
  unfoldable pub select : List (Parent Candidate) → List Candidate → List Float → List (Parent Candidate)
  select [] cs rs = []
  select (p ∷ ps) [] rs = []
  select (p ∷ ps) (c ∷ cs) [] = []
  select (p ∷ ps) (c ∷ cs) (r ∷ rs) = cond (le r p.value) (record { candidate = c; value = r }) p ∷ select ps cs rs

  -- the one or the other, by the count of generations closed before
  abbrev pub new_parents : ℕ → List (Parent Candidate) → List Candidate → List Float → List (Parent Candidate)
  new_parents zero ps cs row = store cs row
  new_parents (suc k) ps cs row = select ps cs row

  -- the slots after a generation with these candidates has closed with these results
  abbrev pub settle : Slots K → List Candidate → List Float → Slots K
  settle o cs row =
      let ps = new_parents o.closed o.parents cs row in
      let smaller = became_smaller (values K o.parents) (values K ps) in
      record { parents = ps; best = best_of (values K ps); closed = up o.closed; idle = new_idle o.closed o.idle smaller }

  -- ---- the next generation

  -- it has new candidates and no trial yet: "Trial records are cleared, so an old trial that calls again starts at dimension 0"
  abbrev pub reopen : State K → Slots K → List Candidate → State K
  reopen s o cs = record { word = s.word; first = s.first; dims = s.dims; size = s.size; candidates = cs; trials = []; slots = o }

  -- counted results close the generation; without them nothing happens
  unfoldable pub close : Setup → State K → Gen Word → Option (List Float) → Made Word (State K)
  close S s g None = record { out = s; gen = g }
  close S s g (Some row) =
      let o = settle s.slots s.candidates row in
      let m = nexts S s.dims o.parents o.best g in
      record { out = reopen s o m.out; gen = m.gen }
