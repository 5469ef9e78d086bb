-- What is gathered is the scan of the entries so far.
use Rattle.std.proofs.Common.{◌≡◌}
use Rattle.history.specs.Scan.{gathered}
use Rattle.history.proofs.scan.Given as goal

abbrev pub invariant-loop-entry : goal.invariant-loop-entry
invariant-loop-entry g l = l.g ≡ gathered l.lo l.hi l.wanted l.yielded l.initial.g
