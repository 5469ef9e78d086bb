-- `write_tells` ends: each block takes one entry at least, or is the last.
use Rattle.std.proofs.Common.{◌*◌, ◌^◌, ◌<◌, length}
use Rattle.tells.proofs.write_tells.Given as goal

abbrev pub invariant-loop-numbers : goal.invariant-loop-numbers
invariant-loop-numbers g l = (length l.numbers * 8 < 2 ^ 63) × (length l.values * 8 < 2 ^ 63)

abbrev pub decreases-loop-numbers : goal.decreases-loop-numbers
decreases-loop-numbers g l = length l.numbers
