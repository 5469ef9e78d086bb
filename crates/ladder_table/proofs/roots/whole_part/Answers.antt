-- At first each number of 32 bits may be it: that of 2^32, the next one, is above 2^e already.
use Rattle.std.proofs.Common.{rules, zero-le}
use Rattle.ladder_table.proofs.Rule.{room}
use Rattle.ladder_table.proofs.roots.whole_part.Goals as goal

pub loop-low-init : goal.loop-low-init
loop-low-init c = record { bound = c.power_of_two-bound.ensures; ordered = search rules; at_most = zero-le; below = room c.args.e c.requires }
