-- `many` meets its contract: i things are made and stored, of at most `cost` draws each.
use Rattle.std.proofs.Common.{◌≡◌, ℕ, ◌+◌, ◌*◌, ◌≤◌}
use Rattle.rng_util.specs.declared.Gen.{Gen}
use Rattle.rng_util.specs.Gen.{Made, made}
use Rattle.rng_util.specs.Many.{padded, many}
use Rattle.rng_util.specs.Calls.{DrawsFew, MakesBy}
use Rattle.rng_util.proofs.many.Given as goal

abbrev pub invariant-loop-i : goal.invariant-loop-i
invariant-loop-i g l =
    ((few : DrawsFew g.F.Fn l.make l.n l.fn.rng) → l.rng.draws ≤ l.fn.rng.draws + l.i * few.cost)
    × ((f : ℕ → Gen → Made g.row.T.Denot) → MakesBy g.F.Fn l.make l.n f → made l.things l.rng ≡ padded g.row.N l.fn.blank (many f l.i 0 l.fn.rng))
