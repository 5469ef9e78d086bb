-- "The saved file's writer and reader give 13 for a ladder" (document 02, W9): which states have one, and which words could stand for one.
use Rattle.std.specs.Prelude.{ℕ, ◌≡◌, true, List}
use mathlib.Core.List.{Memᴰ}
use Rattle.distribution.specs.declared.DimensionInfo.{DimensionInfo}
use Rattle.distribution.specs.Dims.{is_ladder}
use Rattle.state.specs.declared.State.{State}
use Rattle.kinds.specs.Kinds.{dims_of}
use Rattle.kinds.specs.Rows.{dim_has_place, dim_words}

-- one of the state's dimensions is a ladder
pub record HasLadder (s : State) : Type 0 where
  pub dim : DimensionInfo
  pub of : Memᴰ dim (dims_of s)
  pub ladder : is_ladder dim.distribution ≡ true

-- No words are set down for a ladder. Words that said one could only be those of no dimension without the log flag.
abbrev pub OtherWords : List ℕ → Type 0
OtherWords ws = (d : DimensionInfo) → dim_has_place d ≡ true → ws ≡ dim_words d → ⊥
