-- `put_parents` meets its contract: an item's words a turn.
use Rattle.std.proofs.Common.{◌≡◌, ◌++◌, take}
use Rattle.std.specs.List.{flat_map}
use Rattle.kinds.specs.Rows.{member_words}
use Rattle.kinds.proofs.sections.put_parents.Given as goal

abbrev pub invariant-loop-m : goal.invariant-loop-m
invariant-loop-m l = l.section ≡ l.initial.section ++ flat_map (member_words l.dims) (take l.m-index l.parents)
