-- `best_slot` meets its contract: the values not yet looked at decide, from the least so far.
use Rattle.std.proofs.Common.{◌≡◌, drop}
use Rattle.selection.specs.Best.{values, best_from, best_slot}
use Rattle.selection.proofs.best_slot.Given as goal

abbrev pub invariant-loop-i : goal.invariant-loop-i
invariant-loop-i l = best_slot (values l.parents) ≡ best_from (drop l.i (values l.parents)) l.i l.best_value l.best
