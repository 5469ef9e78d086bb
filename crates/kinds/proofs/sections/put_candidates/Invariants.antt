-- `put_candidates` meets its contract: an item's words a turn.
use Rattle.std.proofs.Common.{◌≡◌, ◌++◌, take}
use Rattle.std.specs.List.{flat_map}
use Rattle.kinds.specs.Rows.{candidate_words}
use Rattle.kinds.proofs.sections.put_candidates.Given as goal

abbrev pub invariant-loop-c : goal.invariant-loop-c
invariant-loop-c l = l.section ≡ l.initial.section ++ flat_map (candidate_words l.dims) (take l.c-index l.candidates)
