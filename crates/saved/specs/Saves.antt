-- The reader's answer in document 02's words: which state a file is of.
use Rattle.std.specs.Prelude.{ℕ, ◌≡◌, true}
use mathlib.Core.List.{List, Permᴰ}
use Rattle.state.specs.declared.State.{State}
use Rattle.state.specs.Sound.{sound_state}
use Rattle.records.specs.declared.Piece.{Piece}
use Rattle.records.specs.Chain.{Follows, records_at, Broken}
use Rattle.kinds.specs.Kinds.{has_place}
use Rattle.kinds.specs.Typed.{TypedState}
use Rattle.saved.specs.File.{pieces_of}

-- a sound state of the machine that has a place in a file and exactly these records, each once, in some order
pub record Of (rs : List Piece) (s : State) : Type 0 where
  pub sound : sound_state s ≡ true
  pub place : has_place s ≡ true
  pub typed : TypedState s
  pub records : Permᴰ rs (pieces_of s)

-- f is a file of s: it keeps the chain's rule, and the records on its chain are those of s
pub record Saves (f : List ℕ) (s : State) : Type 0 where
  pub kept : Broken f → ⊥
  pub indices : List ℕ
  pub chain : Follows f 0 indices
  pub of : Of (records_at f indices) s
