-- The whole part is neither below low nor above high, and each turn brings the two nearer.
use Rattle.std.proofs.Common.{◌+◌, ◌-◌, ◌^◌, ◌<◌, ◌≤◌, ◌≡◌}
use Rattle.ladder_table.specs.Number.{value}
use Rattle.ladder_table.proofs.roots.whole_part.Given as goal

abbrev pub invariant-loop-low : goal.invariant-loop-low
invariant-loop-low l = record {
  bound : value l.bound ≡ 2 ^ l.e;
  ordered : l.low ≤ l.high;
  at_most : l.low ^ 256 ≤ 2 ^ l.e;
  below : 2 ^ l.e < (l.high + 1) ^ 256;
}

abbrev pub decreases-loop-low : goal.decreases-loop-low
decreases-loop-low l = l.high - l.low
