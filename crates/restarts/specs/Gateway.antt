-- The code's writer and reader as a gateway uses them, and the calls that it can make.
use Rattle.std.specs.Prelude.{ℕ, ◌≤◌, ◌≡◌, Bool, true, ◌&&◌, leb, List, length, take, Option, Some, None, Result, Ok, Err, ⊤}
use Rattle.history.specs.declared.CompletedTrial.{CompletedTrial}
use Rattle.distribution.specs.Validate.{judged}
use Rattle.ledger.specs.Words.{All}
use Rattle.ledger.specs.Call.{Call}
use Rattle.evolution.specs.declared.Setup.{Setup}
use Rattle.kernel.specs.De.{de}
use Rattle.state.specs.declared.State.{State}
use Rattle.de.specs.Build.{fresh_state}
use Rattle.de.specs.Program.{ran}
use Rattle.kinds.specs.Kinds.{has_place}
use Rattle.kinds.specs.Rows.{dim_has_place}
use Rattle.kinds.specs.Typed.{Double, Word, TypedDistribution}
use Rattle.saved.specs.File.{file_of}
use Rattle.saved.specs.Save.{save_of, saved_in}
use Rattle.saved.specs.Restore.{restore_of}
use Rattle.restarts.specs.Restart.{Event, call, save, reboot, led_to, state_after, surviving}
use Rattle.saved.specs.declared.FileRefusal.{FileRefusal}

-- "It reports the file's length": what is kept of a save is as many of the lent file's first bytes
abbrev pub kept_by : Result ℕ FileRefusal → List ℕ → Option (List ℕ)
kept_by (Ok n) f = Some (take n f)
kept_by (Err r) f = None

-- lent is the memory that the gateway lends to `save`
abbrev pub saved_file : State → List ℕ → Option (List ℕ)
saved_file s lent = kept_by (save_of s (length lent)) (saved_in s lent)

abbrev pub if_taken : Result ⊤ FileRefusal → State → Option State
if_taken (Ok tt) s = Some s
if_taken (Err r) s = None

-- the state that `restore` hands back, old being the one that it is called with
abbrev pub restored_from : State → List ℕ → Option State
restored_from old f = if_taken (restore_of old f).answer (restore_of old f).state

-- the state that a call leaves
abbrev pub stepped : State → Call de → State
stepped s c = (ran s c).state

-- the state that a gateway holds after events, from a fresh sampler of the set-up
abbrev pub gateway : Setup → List (Event State (Call de)) → State
gateway S es = state_after State (Call de) stepped (λ old. fresh_state S) saved_file restored_from (fresh_state S) es

-- ---- the calls that count

-- the state that calls lead to
abbrev pub led : Setup → List (Call de) → State
led S cs = led_to State (Call de) stepped (fresh_state S) cs

-- whether a save of a sound state makes a file: 13 is given for midpoint and "for a ladder" (document 02, W7 and W9), 12 for "a lent file too short for the
-- writer" (W2)
abbrev pub makes_file : State → List ℕ → Bool
makes_file s lent = has_place s && leb (length (file_of s)) (length lent)

abbrev pub surviving_calls : Setup → List (Event State (Call de)) → List (Call de)
surviving_calls S es = surviving State (Call de) (λ cs. makes_file (led S cs)) es

-- ---- the calls that it can make

-- what the types say of a call: a number of 64 bits, and doubles and whole numbers of 64 bits in the distribution and the history
pub record TypedCall (c : Call de) : Type 0 where
  pub number : Word c.number
  pub distribution : TypedDistribution c.distribution.distribution
  pub history : All (λ (e : CompletedTrial). Double e.value) c.history

-- typed calls; a save may be to any memory, and a reboot may leave any state, and name any file
abbrev pub TypedEvent : Event State (Call de) → Type 0
TypedEvent (call c) = TypedCall c
TypedEvent (save lent) = Unit {0}
TypedEvent (reboot n left) = Unit {0}

-- ---- events of which no save is refused, where the set-up has clamp: no call lends a ladder that 4 to 7 pass, and each save has room for the largest file

-- a lent memory that has room for the largest file
abbrev pub Room : List ℕ → Type 0
Room lent = 73120 ≤ length lent

abbrev pub PlacedCall : Call de → Type 0
PlacedCall c = TypedCall c × (judged c.distribution.distribution ≡ None → dim_has_place c.distribution ≡ true)

abbrev pub PlacedEvent : Event State (Call de) → Type 0
PlacedEvent (call c) = PlacedCall c
PlacedEvent (save lent) = Room lent
PlacedEvent (reboot n left) = Unit {0}
