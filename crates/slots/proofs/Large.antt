-- "A state with an entry over 4e300 in size is no longer sound, so a .. look call gives 0 for it" (document 02, W8), and so does the call for what a slot holds.
use Rattle.std.specs.Prelude.{Err}
use mathlib.Core.Path.{◌≡◌, sym}
use Prim.Native.Nat.{ℕ}
use Rattle.distribution.specs.declared.Refusal.TheVariants.{StateNotSound}
use Rattle.state.specs.Small.{LargeEntry}
use Rattle.state.specs.declared.State.{State}
use Rattle.state.proofs.Small.{large-unsound}
use Rattle.slots.specs.Held.{held_of}
use Rattle.slots.specs.Look.{bare, look_of}
use Rattle.slots.proofs.Looking.{not-sound}

pub large-looked : (s : State) → LargeEntry s → look_of s ≡ bare (Err StateNotSound)
large-looked s l = sym (not-sound s (large-unsound s l))

pub large-held : (s : State) → LargeEntry s → (i k : ℕ) → held_of s i k ≡ Err StateNotSound
unfolding held_of
large-held s l i k = rw (large-unsound s l)
