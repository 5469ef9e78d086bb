use Rattle.std.proofs.Common.{rules, arith, ◌≡◌, ◌+◌, ◌<◌, ◌≤◌, length, ℕ, List, slice_set}
use Rattle.filled.proofs.Behind.{pushed}
use Rattle.filled.proofs.padded.Padded.push.Goals as goal

pub invariant_of-self : goal.invariant_of-self
invariant_of-self g c = (search rules, search rules, pushed c.self.inside.words c.self.inside.n g.row.N g.T.Zero.zero c.self.invariant.2 c.args.item)
