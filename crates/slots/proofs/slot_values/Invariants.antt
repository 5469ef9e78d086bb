-- `slot_values` meets its contract: the values so far, and zeros after them.
use Rattle.std.proofs.Common.{◌≡◌, take}
use Rattle.rng_util.specs.Many.{pad_to}
use Rattle.common.specs.Bounds.{zero_f}
use Rattle.selection.specs.Best.{values}
use Rattle.slots.proofs.slot_values.Given as goal

abbrev pub invariant-loop-i : goal.invariant-loop-i
invariant-loop-i l = l.values ≡ pad_to 160 zero_f (values (take l.i l.parents))
