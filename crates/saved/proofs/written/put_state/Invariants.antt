-- `put_state` meets its contract: the records of the kinds so far, and then what the file had (`Sofar`).
use Rattle.std.proofs.Common.{◌+◌}
use Rattle.saved.proofs.Wrote.{Sofar}
use Rattle.saved.proofs.written.put_state.Given as goal

abbrev pub invariant-loop-kind : goal.invariant-loop-kind
invariant-loop-kind l = Sofar l.state l.count l.initial.file (l.kind-index + 1) l.k l.file
