-- A file that keeps the chain's rule, and whose records are those of a state with an entry "over 4e300 in size" (02, W8).
use Rattle.std.specs.Prelude.{ℕ, List}
use Rattle.state.specs.Small.{LargeEntry}
use Rattle.records.specs.Chain.{Broken, records_at, Follows}
use Rattle.saved.specs.Restore.{state_on}

pub record LargeFile (f : List ℕ) : Type 0 where
  pub kept : Broken f → ⊥
  pub indices : List ℕ
  pub chain : Follows f 0 indices
  pub large : LargeEntry (state_on (records_at f indices))
