-- `all_differ` meets its contract: each number differs from those after it, and what is left decides.
use Rattle.std.proofs.Common.{◌≡◌, length}
use Rattle.ledger.specs.Words.{differing}
use Rattle.state.specs.Places.{numbers_of}
use Rattle.state.proofs.lists.all_differ.Given as goal

abbrev pub invariant-loop-first : goal.invariant-loop-first
invariant-loop-first l = differing (numbers_of l.trials) ≡ differing (numbers_of l.rest)

abbrev pub decreases-loop-first : goal.decreases-loop-first
decreases-loop-first l = length l.rest
