-- The places from j on are written, and what is left of i is its quotient by what they count.
use Rattle.std.proofs.Common.{◌≡◌}
use Rattle.sweep.proofs.Digits.{written, left_at}
use Rattle.sweep.proofs.combinations.put.Given as goal

abbrev pub invariant-loop-j : goal.invariant-loop-j
invariant-loop-j l = (l.row ≡ written l.axes l.i l.initial.row l.j) × (l.left ≡ left_at l.axes l.i l.j)
