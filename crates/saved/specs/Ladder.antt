-- A file that keeps the chain's rule, and has for one of its dimensions words that are those of no dimension without the log flag, as a file that said a
-- ladder would have to: "the saved file's .. reader give[s] 13 for a ladder" (02, W9).
use Rattle.std.specs.Prelude.{ℕ, ◌<◌, List}
use Rattle.records.specs.Chain.{Broken, records_at, Follows}
use Rattle.records.specs.Tables.{table_of}
pub use Rattle.kinds.specs.Ladder.{HasLadder, OtherWords}
use Rattle.kinds.specs.Opened.{row}
use Rattle.saved.specs.Restore.{state_on}

pub record OtherWordsFile (f : List ℕ) : Type 0 where
  pub kept : Broken f → ⊥
  pub indices : List ℕ
  pub chain : Follows f 0 indices
  pub place : ℕ
  pub within : place < (state_on (records_at f indices)).n_dims
  pub words : OtherWords (row (table_of 3 (records_at f indices)).words 5 place)
