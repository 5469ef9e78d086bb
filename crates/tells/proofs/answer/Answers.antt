-- The entries that were counted have places in both slices.
use Rattle.std.proofs.Common.{arith, sym}
use Rattle.std.proofs.Math.Seq.{length-take-le}
use Rattle.metrics.proofs.Writes.{count-read}
use Rattle.tells.proofs.answer.Goals as goal

pub slice_bounds-write_tells-end-in-Ok : goal.slice_bounds-write_tells-end-in-Ok
slice_bounds-write_tells-end-in-Ok g c = sym (length-take-le _ _ (omega (arith, (count-read _ _ _ (sym c.in-Ok.ensures.answer)).1)))

pub slice_bounds-write_tells-end-in-Ok-3 : goal.slice_bounds-write_tells-end-in-Ok-3
slice_bounds-write_tells-end-in-Ok-3 g c = sym (length-take-le _ _ (omega (arith, (count-read _ _ _ (sym c.in-Ok.ensures.answer)).1)))
