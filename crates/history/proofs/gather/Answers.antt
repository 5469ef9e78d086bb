-- The iterator gives the entries of the slice.
use Rattle.std.proofs.lemmas.Iterator.{YieldsList-from_slice}
use Rattle.std.proofs.lemmas.Iterator.Consumers.{YieldsList-from_copied}
use Rattle.history.proofs.Scans.{scanned}
use Rattle.history.proofs.gather.Goals as goal

pub returns : goal.returns
returns c = scanned _ _ _ _ _ c.scan.ensures (YieldsList-from_copied (YieldsList-from_slice c.args.history.now cc))
