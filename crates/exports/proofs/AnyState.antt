-- The restore call goes by the file alone. The reader that is called with a state hands that one back where it refuses: whichever it is
-- called with, what it answers and hands back gives the restore call's answer and what the call leaves.
use Rattle.std.specs.Prelude.{Result, Ok, Err, is_ok}
use mathlib.Core.Path.{◌≡◌, refl}
use mathlib.Core.Bool.{cond}
use mathlib.Core.List.{List}
use Prim.Native.Nat.{ℕ}
use Rattle.state.specs.declared.State.{State}
use Rattle.saved.specs.Restore.{state_read, handed_back, restore_of}
use Rattle.saved.specs.declared.FileRefusal.{FileRefusal}
use Rattle.saved.specs.declared.Restored.{Restored}
use Rattle.edge.specs.declared.flat.DeState.{DeState}
use Rattle.files.specs.File.{restored_answer}
use Rattle.edge.specs.Flat.{flat_of}
use Rattle.exports.specs.Calls.{restore_answer, stored_over, restore_state}

-- what the call leaves in the memory, by what the reader hands back
abbrev pub left : DeState → Restored → DeState
left f r = cond (is_ok r.answer) (flat_of r.state) f

same-answer : (old : State) (r : Result State FileRefusal) → restored_answer r ≡ restored_answer (handed_back old r).answer
same-answer old (Ok s) = refl
same-answer old (Err why) = refl

same-left : (f : DeState) (old : State) (r : Result State FileRefusal) → stored_over f r ≡ left f (handed_back old r)
same-left f old (Ok s) = refl
same-left f old (Err why) = refl

module _ (old : State) (bytes : List ℕ) where
  -- THE TWO LAWS: with whatever state the reader is called
  pub any-answer : restore_answer bytes ≡ restored_answer (restore_of old bytes).answer
  unfolding restore_answer restore_of
  any-answer = same-answer old (state_read bytes)

  pub any-state : (f : DeState) → restore_state f bytes ≡ left f (restore_of old bytes)
  unfolding restore_state restore_of
  any-state f = same-left f old (state_read bytes)
