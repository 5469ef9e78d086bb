-- As many draws as doubles so far: a count of them fits.
use Rattle.std.proofs.Common.{◌≡◌}
use Rattle.bench.proofs.draws.drawn.Given as goal

abbrev pub invariant-loop-x : goal.invariant-loop-x
invariant-loop-x g l = l.rng.draws ≡ l.x-index
