-- The saved file of a state: its records of kinds 1 to 6, in the writer's order, "so equal states have equal bytes".
use Rattle.std.specs.Prelude.{ℕ, List}
use Rattle.state.specs.declared.State.{State}
use Rattle.records.specs.declared.Piece.{Piece}
use Rattle.records.specs.Chain.{file_of_pieces}
use Rattle.records.specs.Tables.{sections_to}
use Rattle.kinds.specs.Kinds.{kind_words}

unfoldable pub pieces_of : State → List Piece
pieces_of s = sections_to 6 (kind_words s)

-- "The writer always lays record k's successor at k + 1"
unfoldable pub file_of : State → List ℕ
file_of s = file_of_pieces (pieces_of s)
