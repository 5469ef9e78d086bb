-- `put_dims` meets its contract: an item's words a turn.
use Rattle.std.proofs.Common.{◌≡◌, ◌++◌, take}
use Rattle.std.specs.List.{flat_map}
use Rattle.kinds.specs.Rows.{dim_words}
use Rattle.kinds.proofs.sections.put_dims.Given as goal

abbrev pub invariant-loop-d : goal.invariant-loop-d
invariant-loop-d l = l.section ≡ l.initial.section ++ flat_map dim_words (take l.d-index l.dims)
