-- What a file holds is the file's alone: the state that the reader is called with decides only what it hands back where it refuses.
use Rattle.std.specs.Prelude.{Result, Ok, Err, ⊤}
use Prim.Native.Nat.{ℕ}
use mathlib.Core.Path.{◌≡◌, refl}
use mathlib.Core.List.{List}
use Rattle.state.specs.declared.State.{State}
use Rattle.saved.specs.Restore.{taken, refuse, state_read, handed_back, restore_of}
use Rattle.saved.specs.declared.Restored.{Restored}
use Rattle.saved.specs.declared.FileRefusal.{FileRefusal}

-- what is handed back by a reader that is called with `old`
abbrev pub handed : State → Result ⊤ FileRefusal → State → Restored
handed old (Ok tt) s = taken s
handed old (Err r) s = refuse r old

module _ (old old' : State) where
  abbrev again : Restored → Restored
  again r = handed old r.answer r.state

  by-read : (r : Result State FileRefusal) → again (handed_back old' r) ≡ handed_back old r
  by-read (Ok s) = refl
  by-read (Err r) = refl

  pub any-old : (bytes : List ℕ) → again (restore_of old' bytes) ≡ restore_of old bytes
  unfolding restore_of
  any-old bytes = by-read (state_read bytes)
