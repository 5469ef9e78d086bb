-- `record_total` meets its contract: each section's words by its counts, and their records.
use Rattle.std.proofs.Common.{arith}
use Rattle.kinds.proofs.Lent.{measured-lent}
use Rattle.saved.proofs.Wrote.{total-is, pieces-few}
use Rattle.saved.proofs.written.record_total.Goals as goal

pub returns : goal.returns
returns c =
    let s = c.args.s.now in
    let m = measured-lent s c.fits-s in
    let n = total-is s m c.requires _ _ _ _ _ _ c.records_for.ensures c.records_for-2.ensures c.parent_count-parents.ensures c.records_for-3.ensures c.candidate_count-candidates.ensures c.records_for-4.ensures in
    record { total = n; few = omega (arith, n, pieces-few s m c.requires) }
