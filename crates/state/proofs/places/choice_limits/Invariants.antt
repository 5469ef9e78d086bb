-- `choice_limits` meets its contract: the limits so far, and 1 after them.
use Rattle.std.proofs.Common.{◌≡◌, map, take}
use Rattle.rng_util.specs.Many.{pad_to}
use Rattle.kernel.specs.Fits.{choice_limit}
use Rattle.state.proofs.places.choice_limits.Given as goal

abbrev pub invariant-loop-k : goal.invariant-loop-k
invariant-loop-k l = l.limits ≡ pad_to 16 1 (map choice_limit (take l.k l.dims))
