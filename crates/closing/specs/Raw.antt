-- A closing on the code's own state: its arrays, of which the first n places count. proofs/Refine says that it is the ledger's `close` on the plain state.
use Rattle.std.specs.Prelude.{ℕ, ◌≤◌, Bool, ◌&&◌, cond, List, eqb, leb, Float, take, replicate, Option, is_some}
use Rattle.std.specs.Float.Ieee.{lt}
use Rattle.std.specs.List.{list_all}
use Rattle.rng_util.specs.Gen.{Made, made}
use Rattle.rng_util.specs.Many.{pad_to}
use Rattle.rng_util.specs.declared.Gen.{Gen}
use Rattle.candidates.specs.Candidate.{blank_candidate}
use Rattle.candidates.specs.Space.{FewChoices, space_of}
use Rattle.candidates.specs.declared.Candidate.{Candidate}
use Rattle.evolution.specs.Trial.{next_candidates}
use Rattle.evolution.specs.declared.Member.{Member}
use Rattle.selection.specs.Best.{values, best_slot, least_value}
use Rattle.selection.specs.Records.{members_rec}
use Rattle.selection.specs.Select.{selected, stored}
use Rattle.ledger.specs.Closing.{up, new_idle}
use Rattle.state.specs.Blank.{blank_trial}
use Rattle.state.specs.declared.State.{State}
use Rattle.closing.specs.declared.Slots.{Slots}

-- ---- when it closes

-- "exactly when at least N trials are assigned and its history has the first N", after discovery; `values` has what the history gives each trial
unfoldable pub closes_now : Bool → ℕ → ℕ → List (Option Float) → Bool
closes_now discovered n trials values = discovered && (leb n trials && list_all is_some (take n values))

-- ---- the slots after it

-- "The first closing stores candidates and values; a later one replaces the parent when the result is at most the parent's", by the count of generations closed before
unfoldable pub parents_after : ℕ → List Member → List Candidate → List Float → List Member
parents_after closed ps cs rs = cond (eqb closed 0) (stored cs rs) (selected ps cs rs)

-- W5: whether "the least value of all slots .. became numerically smaller", by the parents before and after
abbrev pub became_smaller : List Member → List Member → Bool
became_smaller ps qs = lt (least_value (values qs)) (least_value (values ps))

-- the slots with these parents: "Best slot: first least, 0 if all are +infinity"
abbrev pub slots_of : List Member → ℕ → ℕ → Slots
slots_of ps closed idle = record { parents = members_rec ps; best = best_slot (values ps); closed = closed; idle = idle }

-- the slots after a generation with these candidates has closed with these results; "Both counters stop at 4,294,967,295"
unfoldable pub settled : ℕ → ℕ → List Member → List Candidate → List Float → Slots
settled closed idle ps cs rs = let qs = parents_after closed ps cs rs in slots_of qs (up closed) (new_idle closed idle (became_smaller ps qs))

-- ---- the whole

-- the parents and the slots then, with the results in rs: "The value there of the i-th is the counted result of slot i", and candidates past the first n are extras'
abbrev pub raw_parents : State → List Float → List Member
raw_parents s rs = parents_after s.closed (take s.n s.parents) (take s.n s.candidates) (take s.n rs)

abbrev pub raw_slots : State → List Float → Slots
raw_slots s rs = settled s.closed s.idle (take s.n s.parents) (take s.n s.candidates) (take s.n rs)

-- "New candidates", from the new parents and their best slot
abbrev pub raw_nexts : State → List Member → Gen → Made (List Candidate)
raw_nexts s ps g = next_candidates s.setup ps (best_slot (values ps)) (space_of (take s.n_dims s.dims)) g

-- the state with these slots and new candidates: "Trial records are cleared"; unused places are as in a fresh state
abbrev pub reopened : State → Slots → List Candidate → State
reopened s o cs =
    record {
      setup = s.setup;
      first = s.first;
      discovered = s.discovered;
      n = s.n;
      n_dims = s.n_dims;
      dims = s.dims;
      candidates = pad_to 224 blank_candidate cs;
      parents = o.parents;
      n_trials = 0;
      trials = replicate 224 blank_trial;
      best = o.best;
      word = s.word;
      closed = o.closed;
      idle = o.idle;
    }

-- the state, and the generator after the draws
abbrev pub closed_with : State → Slots → Made (List Candidate) → Made State
closed_with s o m = made (reopened s o m.out) m.after

-- step 6 on the state s, where the generation closes with the results in rs
unfoldable pub raw_close : State → List Float → Gen → Made State
raw_close s rs g = closed_with s (raw_slots s rs) (raw_nexts s (raw_parents s rs) g)

-- what a closing finds: N slots, 4 to 160, and dimensions that pass 7
pub record Closable (s : State) : Type 0 where
  pub enough : 4 ≤ s.n
  pub few : s.n ≤ 160
  pub few_dims : s.n_dims ≤ 16
  pub few_choices : FewChoices (take s.n_dims s.dims)
