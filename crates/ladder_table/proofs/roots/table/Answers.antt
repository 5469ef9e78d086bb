-- A list that has the rule at each place has it as a whole.
use Rattle.std.proofs.Common.{arith}
use Rattle.ladder_table.proofs.Rule.{table-is}
use Rattle.ladder_table.proofs.roots.table.Goals as goal

pub returns : goal.returns
returns c = table-is c.loop-i.table c.loop-i.invariant.long (λ k h. c.loop-i.invariant.so_far k (omega arith))
