-- `search_space` meets its contract: i dimensions are passed.
use Rattle.candidates.proofs.Passed.{Passed}
use Rattle.candidates.proofs.search_space.Given as goal

abbrev pub invariant-loop-i : goal.invariant-loop-i
invariant-loop-i l = Passed l.dims l.i l.counts l.bounds l.n
