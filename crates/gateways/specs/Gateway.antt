-- "A list of calls that passes through a save and its own restore counts as one list, for share and for least result alike", of the library: a gateway's program
-- makes sample calls in its memory, saves to memory that it lends, and restores any of its files after a reboot.
use Rattle.std.specs.Prelude.{ℕ, ◌≡◌, cond, List, eqb, length, take, Option, Some, None}
use Rattle.ledger.specs.Claim.{Claim, start, moments_from, end_from}
use Rattle.kernel.specs.De.{de}
use Rattle.state.specs.View.{view}
use Rattle.edge.specs.declared.flat.DeSetup.{DeSetup}
use Rattle.edge.specs.declared.flat.DeState.{DeState}
use Rattle.edge.specs.Flat.{setup_of, open_of}
use Rattle.files.specs.File.{save_answer, save_file}
use Rattle.exports.specs.Calls.{new_state, restore_answer, restore_state}
use Rattle.exports.specs.Program.{Sent, answer_to, leaves, library, meant, meant_by, LibraryDemand3}
use Rattle.restarts.specs.Gateway.{makes_file, TypedCall, PlacedCall, Room}
use Rattle.restarts.specs.Restart.{Event, call, save, reboot, led_to, state_after, surviving}

-- what is kept of a save call: where it answers 1, saved, as many of the lent file's first bytes as it reports
abbrev pub saved_file : DeState → List ℕ → Option (List ℕ)
saved_file g lent =
    let answer = save_answer g (length lent) in
    cond (eqb answer.kind 1) (Some (take answer.length (save_file g lent))) None

-- what the restore call leaves in the memory, where it answers 2, restored
abbrev pub restored_to : DeState → List ℕ → Option DeState
restored_to g file = cond (eqb (restore_answer file).kind 2) (Some (restore_state g file)) None

-- The memory after events, f being what it held before the set-up call. A reboot leaves anything in it; where no file is restored, the set-up call is made
-- again.
abbrev pub memory_after : DeState → DeSetup → List (Event DeState Sent) → DeState
memory_after f u es = state_after DeState Sent leaves (λ g. new_state g u) saved_file restored_to (new_state f u) es

-- what the types say of each call; a save may be to any memory, and a reboot may leave any state, and name any file
abbrev pub TypedEvent : Event DeState Sent → Type 0
TypedEvent (call q) = TypedCall (meant q)
TypedEvent (save lent) = Unit {0}
TypedEvent (reboot n g) = Unit {0}

-- events of which no save is refused, where the set-up has clamp: no call lends a ladder that 4 to 7 pass, and each save has room for the largest file
abbrev pub PlacedEvent : Event DeState Sent → Type 0
PlacedEvent (call q) = PlacedCall (meant q)
PlacedEvent (save lent) = Room lent
PlacedEvent (reboot n g) = Unit {0}

-- what calls leave in the memory
abbrev pub led : DeState → DeSetup → List Sent → DeState
led f u qs = led_to DeState Sent leaves (new_state f u) qs

-- the calls that count
abbrev pub surviving_calls : DeState → DeSetup → List (Event DeState Sent) → List Sent
surviving_calls f u es = surviving DeState Sent (λ qs. makes_file (open_of (led f u qs))) es

-- ONE LIST: the calls that count are those that survive; a save that is refused makes no file.
pub record OneList (f : DeState) (u : DeSetup) (es : List (Event DeState Sent)) : Type 0 where
  -- the memory is, bit for bit, what these calls alone leave in it,
  pub memory : memory_after f u es ≡ led f u (surviving_calls f u es)
  -- so the next call is answered as if there had been no reboot;
  pub next : (q : Sent) → answer_to (memory_after f u es) q ≡ answer_to (led f u (surviving_calls f u es)) q
  -- demand 3 of the library holds of these calls,
  pub calls : LibraryDemand3 f u (surviving_calls f u es)
  -- and its claim, "for share and for least result alike", of the state in that memory
  pub claim :
      let cs = meant_by (surviving_calls f u es) in
      let first = start de (library f u) (setup_of u) in
      let end = end_from de (library f u) (setup_of u) first cs in
      Claim de (library f u) (setup_of u) (moments_from de (library f u) (setup_of u) first cs) (view (open_of (memory_after f u es))) end.defined end.ledger
