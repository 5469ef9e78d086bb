-- `candidate_in` meets its contract: a dimension a turn, its word an entry or a choice (`Read`).
use Rattle.kinds.proofs.EntriesIn.{Read}
use Rattle.kinds.proofs.vectors.candidate_in.Given as goal

abbrev pub invariant-loop-i : goal.invariant-loop-i
invariant-loop-i l = Read l.dims l.row l.x l.choices l.ci l.i
