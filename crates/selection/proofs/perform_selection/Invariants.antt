-- `perform_selection` meets its contract: as many slots as there were turns hold what they are made of.
use Rattle.std.proofs.Common.{◌≡◌, length, map, take}
use Rattle.std.specs.List.{zip}
use Rattle.selection.specs.Records.{members_rec}
use Rattle.selection.proofs.Slots.{selected_one}
use Rattle.selection.proofs.perform_selection.Given as goal

abbrev pub invariant-loop-i : goal.invariant-loop-i
invariant-loop-i l = l.population ≡ members_rec (take (length l.yielded) (map selected_one (zip (zip l.parents l.candidates) l.results)))
