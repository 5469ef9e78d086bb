-- The first j places are done.
use Rattle.std.proofs.Common.{◌≡◌}
use Rattle.history.proofs.Putting.{filled}
use Rattle.history.proofs.put.Given as goal

abbrev pub invariant-loop-j : goal.invariant-loop-j
invariant-loop-j l = l.values ≡ filled l.wanted l.initial.values l.number l.value l.j
