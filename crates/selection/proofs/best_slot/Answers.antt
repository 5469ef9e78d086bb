use Rattle.std.proofs.Common.{refl}
use lib.Ieee.{of_bits, of_fields}
use Rattle.selection.specs.Best.{best_slot}
use Rattle.selection.proofs.best_slot.Goals as goal

pub loop-i-init : goal.loop-i-init
unfolding best_slot of_bits of_fields
loop-i-init c = refl
