-- When a state is sound: document 01's "It is sound when: ..", clause by clause, as a record of facts and as the test that refusal 0 reads.
-- Two of its clauses are about the state as a program keeps it, and are judged there: "the set-up passes 1 to 3" and "unused places are as in a fresh state".
use Rattle.ledger.specs.Words.{All, all, every, is_empty, Differ, differing}
use Rattle.ledger.specs.Kernel.{Parent, Kernel}
use Rattle.ledger.specs.State.{Trial, numbers, cap, State, values, no_slots}
use Rattle.ledger.specs.Closing.{best_of}
use Rattle.std.specs.Prelude.{◌≡◌, ◌≢◌, ◌↔◌, Bool, true, false, cond, List, [], ◌∷◌, ℕ, ◌+◌, ◌≤◌, max, leb, eqb, length, Float, Option, Some, None, IsSome, is_some, is_none}
use Rattle.std.specs.Bool.{beq}
use Rattle.std.specs.Float.{nan, inf, fin}

abbrev pub is_number : Float → Bool
is_number nan = false
is_number (inf s) = true
is_number (fin s m e) = true

module _ (K : Kernel) where
  open K use {Setup, judged, size_of, fits, Fits}

  -- ---- as facts

  -- "before discovery ends"
  pub record Discovering (s : State K) : Type 0 where
    -- "there are no candidates, trials or parents"; no parents, so no closed generation and none idle, and the best slot is "0 before a closing"
    pub no_candidates : s.candidates ≡ []
    pub no_trials : s.trials ≡ []
    pub no_slots : s.slots ≡ no_slots K
    -- "and a first trial's number exactly when D is at least 1"
    pub named : IsSome s.first ↔ (1 ≤ length s.dims)

  -- "after it"
  pub record Running (S : Setup) (N : ℕ) (s : State K) : Type 0 where
    -- "D is at least 1, that number is still held"
    pub some_dim : 1 ≤ length s.dims
    pub named : IsSome s.first
    -- "N is as sized below": 4 at least by the kernel's law, and 160 at most where the set-up passes 3 and there are 16 dimensions at most
    pub sized : N ≡ size_of S s.dims
    -- "and candidates are N plus one for each trial past N"
    pub candidates : length s.candidates ≡ max N (length s.trials)
    -- "counts keep the bounds below": "64 extra trials a generation"
    pub extras : length s.trials ≤ N + 64
    -- "the open generation's trial numbers differ" (that its i-th trial has candidate i is the state's form)
    pub differ : Differ (numbers s.trials)
    -- "a next place is at most D"
    pub places : All (λ t. t.next ≤ length s.dims) s.trials
    -- "choices are below their dimension's number; entries are finite", and none is "over 4e300 in size" (02, W8)
    pub fit : All (Fits s.dims) s.candidates
    -- "N parents exist exactly when the count of closed generations is at least 1"
    pub none_yet : s.slots.closed ≡ 0 → s.slots.parents ≡ []
    pub parents : 1 ≤ s.slots.closed → length s.slots.parents ≡ N
    -- of the parents too: choices and entries as above; "values not NaN"
    pub parents_fit : All (λ p. Fits s.dims p.candidate) s.slots.parents
    pub good : All (λ p. p.value ≢ nan) s.slots.parents
    -- "the best slot is step 6's, 0 before a closing"
    pub best : s.slots.best ≡ best_of (values K s.slots.parents)
    -- "the idle count is at most that count", which is at most its stop
    pub idle : s.slots.idle ≤ s.slots.closed
    pub capped : s.slots.closed ≤ cap

  pub record Sound (S : Setup) (s : State K) : Type 0 where
    -- "every dimension [passes] 4 to 7"
    pub dims_pass : All (λ d. judged d ≡ None) s.dims
    -- "counts keep the bounds below": "at most 16 dimensions"
    pub dims_few : length s.dims ≤ 16
    pub before : s.size ≡ None → Discovering s
    pub after : (N : ℕ) → s.size ≡ Some N → Running S N s

  -- ---- as a test, in the same order

  abbrev pub discovering_tests : State K → List Bool
  discovering_tests s =
      is_empty s.candidates
      ∷ is_empty s.trials
      ∷ is_empty s.slots.parents
      ∷ eqb s.slots.best 0
      ∷ eqb s.slots.closed 0
      ∷ eqb s.slots.idle 0
      ∷ beq (is_some s.first) (leb 1 (length s.dims))
      ∷ []

  abbrev pub running_tests : Setup → ℕ → State K → List Bool
  running_tests S N s =
      leb 1 (length s.dims)
      ∷ is_some s.first
      ∷ eqb N (size_of S s.dims)
      ∷ eqb (length s.candidates) (max N (length s.trials))
      ∷ leb (length s.trials) (N + 64)
      ∷ differing (numbers s.trials)
      ∷ all (λ (t : Trial). leb t.next (length s.dims)) s.trials
      ∷ all (fits s.dims) s.candidates
      ∷ cond (eqb s.slots.closed 0) (is_empty s.slots.parents) (eqb (length s.slots.parents) N)
      ∷ all (λ (p : Parent K.Candidate). fits s.dims p.candidate) s.slots.parents
      ∷ all (λ (p : Parent K.Candidate). is_number p.value) s.slots.parents
      ∷ eqb s.slots.best (best_of (values K s.slots.parents))
      ∷ leb s.slots.idle s.slots.closed
      ∷ leb s.slots.closed cap
      ∷ []

  abbrev pub phase_test : Setup → Option ℕ → State K → Bool
  phase_test S None s = every (discovering_tests s)
  phase_test S (Some N) s = every (running_tests S N s)

  abbrev pub sound_tests : Setup → State K → List Bool
  sound_tests S s = all (λ d. is_none (judged d)) s.dims ∷ leb (length s.dims) 16 ∷ phase_test S s.size s ∷ []

  unfoldable pub sound_test : Setup → State K → Bool
  sound_test S s = every (sound_tests S s)
