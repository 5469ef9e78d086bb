-- `create_mutant` meets its contract: j entries are made and stored.
use Rattle.std.proofs.Common.{◌≡◌}
use Rattle.rng_util.specs.Many.{pad_to, listed}
use Rattle.common.specs.Bounds.{zero_f}
use Rattle.evolution.specs.Mutant.{entries, mutant_at}
use Rattle.evolution.proofs.mutant.create_mutant.Given as goal

abbrev pub invariant-loop-j : goal.invariant-loop-j
invariant-loop-j l = l.v ≡ pad_to 16 zero_f (listed (mutant_at l.fn.setup (entries l.fn.parents) l.fn.best l.fn.target l.fn.t) l.j 0)
