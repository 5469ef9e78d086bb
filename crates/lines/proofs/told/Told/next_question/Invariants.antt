-- So far every line was settled.
use Rattle.lines.specs.Hearing.{Settled}
use Rattle.lines.proofs.told.Told.next_question.Given as goal

abbrev pub invariant-loop : goal.invariant-loop
invariant-loop g l = Settled l.initial.self l.self
