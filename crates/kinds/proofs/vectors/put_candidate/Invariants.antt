-- `put_candidate` meets its contract: what is there, and what is left of the words (`Going`).
use Rattle.kinds.proofs.Entries.{Going}
use Rattle.kinds.proofs.vectors.put_candidate.Given as goal

abbrev pub invariant-loop-i : goal.invariant-loop-i
invariant-loop-i l = Going l.dims l.c.x l.c.choices l.initial.section l.section l.ci l.i
