-- `initialize_population` meets its contract: as many slots as there were turns hold what they are made of.
use Rattle.std.proofs.Common.{◌≡◌, length, map, take}
use Rattle.std.specs.List.{zip}
use Rattle.selection.specs.Records.{members_rec}
use Rattle.selection.proofs.Slots.{stored_one}
use Rattle.selection.proofs.initialize_population.Given as goal

abbrev pub invariant-loop-i : goal.invariant-loop-i
invariant-loop-i l = l.population ≡ members_rec (take (length l.yielded) (map stored_one (zip l.candidates l.results)))
