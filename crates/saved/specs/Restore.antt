-- The reader. "The reader follows the chain wherever its records stand": the records on the chain, in whatever order, are exactly those of one sound state.
use Rattle.std.specs.Prelude.{ℕ, List, cond, ◌&&◌, Option, Some, None, Result, Ok, Err}
use Rattle.state.specs.declared.State.{State}
use Rattle.state.specs.Sound.{sound_state}
use Rattle.records.specs.declared.Piece.{Piece}
use Rattle.records.specs.Chain.{chain_of, misfits}
use Rattle.records.specs.Tables.{agrees, table_of}
use Rattle.kinds.specs.Kinds.{kind_words}
use Rattle.kinds.specs.Opened.{state_in}
use Rattle.saved.specs.declared.FileRefusal.{FileRefusal}
use Rattle.saved.specs.declared.FileRefusal.TheVariants.{BadFile, BadContent}
use Rattle.saved.specs.declared.Restored.{Restored}

-- the refusals' numbers
abbrev pub file_refusal_number : FileRefusal → ℕ
file_refusal_number BadFile = 12
file_refusal_number BadContent = 13

-- ---- the state of the records on the chain

abbrev pub state_on : List Piece → State
state_on rs =
    state_in (table_of 1 rs).words (table_of 2 rs).words (table_of 3 rs).words (table_of 4 rs).words (table_of 5 rs).words (table_of 6 rs).words

-- 13: "a kind unknown, a kind with its position missing or repeated, a word that its kind doesn't allow, or a state that isn't sound"
unfoldable pub content_of : List Piece → Result State FileRefusal
content_of rs = let s = state_on rs in cond (sound_state s && agrees 6 rs (kind_words s)) (Ok s) (Err BadContent)

-- 12 "comes first"
abbrev pub chained : Option (List Piece) → Result State FileRefusal
chained None = Err BadFile
chained (Some rs) = content_of rs

-- ---- the state that a file holds

unfoldable pub state_read : List ℕ → Result State FileRefusal
state_read f = cond (misfits f) (Err BadFile) (chained (chain_of f))

-- ---- the reader, which hands back the state that came in where it refuses

abbrev pub taken : State → Restored
taken s = record { answer = Ok tt; state = s }

abbrev pub refuse : FileRefusal → State → Restored
refuse r old = record { answer = Err r; state = old }

abbrev pub handed_back : State → Result State FileRefusal → Restored
handed_back old (Ok s) = taken s
handed_back old (Err r) = refuse r old

unfoldable pub restore_of : State → List ℕ → Restored
restore_of old f = handed_back old (state_read f)
