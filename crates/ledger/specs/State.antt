-- The sampler's state over plain lists, and what a sample call returns. The set-up stands beside the state: every definition takes both.
use Rattle.ledger.specs.Kernel.{Gen, Parent, Kernel}
use Rattle.std.specs.Prelude.{List, [], map, ℕ, Float, Option, None}

-- An OPEN TRIAL, of the open generation: its number, and its next place, the dimension that its next call gives.
pub record Trial : Type 0 where
  pub number : ℕ
  pub next : ℕ

abbrev pub numbers : List Trial → List ℕ
numbers = map (λ (t : Trial). t.number)

-- "Both counters stop at 4,294,967,295"
abbrev pub cap : ℕ
cap = 4294967295

module _ (K : Kernel) where
  open K use {Setup, Distribution, Setting, Candidate, Word, seed}

  -- What the closings have made: the parents, one for each SLOT, "N slots numbered from 0"; the best slot; "two counters", the closed and the idle generations.
  pub record Slots : Type 0 where
    pub parents : List (Parent Candidate)
    pub best : ℕ
    pub closed : ℕ
    pub idle : ℕ

  -- "State: set-up, first trial's number, whether discovery has ended, N, dimensions, parents with values, candidates, trials of the open generation,
  -- best slot, generator word, two counters." `size` is N once discovery has ended; the trial at place i has the candidate at place i.
  pub record State : Type 0 where
    pub word : Word
    pub first : Option ℕ
    pub dims : List Distribution
    pub size : Option ℕ
    pub candidates : List Candidate
    pub trials : List Trial
    pub slots : Slots

  abbrev pub values : List (Parent Candidate) → List Float
  values = map (λ (p : Parent Candidate). p.value)

  abbrev pub no_slots : Slots
  no_slots = record { parents = []; best = 0; closed = 0; idle = 0 }

  -- "Fresh is what an accepted set-up returns"
  unfoldable pub fresh : Setup → State
  fresh S = record { word = seed S; first = None; dims = []; size = None; candidates = []; trials = []; slots = no_slots }

  -- the generator as a call finds it
  abbrev pub start_gen : State → Gen Word
  start_gen s = record { word = s.word; draws = 0 }

  -- ---- what a sample call returns

  -- a refusal, by its number in the table, or a setting
  pub data Answer : Type 0 where
    refused : ℕ → Answer
    given : Setting → Answer

  -- the answer, how many draws were made, and the state after the call, in whatever form the sampler keeps its states
  pub record Returned (Kept : Type 0) : Type 0 where
    pub answer : Answer
    pub draws : ℕ
    pub state : Kept

  -- Demand 1: a refusal "has no setting, counts zero draws and hands back the state that came in, generator word included".
  abbrev pub refuse : {Kept : Type 0} → ℕ → Kept → Returned Kept
  refuse r s = record { answer = refused r; draws = 0; state = s }
