-- The first i combinations are written, and nothing past them.
use Rattle.std.proofs.Common.{◌≡◌}
use Rattle.sweep.proofs.Rows.{rows_to}
use Rattle.sweep.proofs.combinations.put_all.Given as goal

abbrev pub invariant-loop-i : goal.invariant-loop-i
invariant-loop-i l = l.out ≡ rows_to l.axes l.initial.out l.i
