use Rattle.std.proofs.Common.{rules, arith, ◌≡◌, ◌+◌, ◌<◌, ◌≤◌, length, ℕ, List, slice_set}
use Rattle.filled.proofs.Behind.{extended}
use Rattle.filled.proofs.padded.Padded.extend_from_slice.Goals as goal

pub invariant_of-self : goal.invariant_of-self
invariant_of-self g c = (search rules, search rules, extended c.self.inside.words c.self.inside.n g.row.N g.T.Zero.zero c.self.invariant.2 (length c.args.more.now) c.copy_from_slice.new.self (search rules) (search rules))
