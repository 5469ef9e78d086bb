-- `put_trials` meets its contract: an item's words a turn.
use Rattle.std.proofs.Common.{◌≡◌, ◌++◌, take}
use Rattle.std.specs.List.{flat_map}
use Rattle.kinds.specs.Rows.{trial_words}
use Rattle.kinds.proofs.sections.put_trials.Given as goal

abbrev pub invariant-loop-t : goal.invariant-loop-t
invariant-loop-t l = l.section ≡ l.initial.section ++ flat_map trial_words (take l.t-index l.trials)
