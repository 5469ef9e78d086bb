-- `next_question` meets its contract: each turn takes in a line of at most 512 bytes, which asks something or is settled. Assumes nothing.
use Rattle.lines.specs.Hearing.{Settled}
use Rattle.lines.proofs.told.Told.next_question.Goals as goal

pub loop-init : goal.loop-init
loop-init g c = Settled.none

pub returns-in_default : goal.returns-in_default
returns-in_default g c = c.loop.invariant

pub returns-in-Some-2 : goal.returns-in-Some-2
returns-in-Some-2 g c = (_, _, c.loop.invariant, rw c.in-Some.is at c.in_ok-line.ensures, rw c.in-Some-2.is at c.in_ok-question.ensures)

pub loop-preserved : goal.loop-preserved
loop-preserved g c = Settled.more _ _ _ c.loop.invariant (rw c.in-Some.is at c.in_ok-line.ensures) (rw c.in_default-2.is at c.in_ok-question.ensures)

pub returns : goal.returns
returns g c = c.loop.invariant
