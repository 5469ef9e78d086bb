-- The entries of what is left, written behind those so far, make all of them written: as in metrics, of entries in numbers.
use Rattle.std.proofs.Common.{◌≡◌, ◌+◌, length}
use Rattle.edge.specs.Trial.{flat_trial}
use Rattle.metrics.specs.Steps.{entries_of}
use Rattle.metrics.proofs.Writes.{filled}
use Rattle.files.proofs.read.read_into.Given as goal

abbrev pub invariant-loop-i : goal.invariant-loop-i
invariant-loop-i l =
    let i = l.i-iterator.count in
    let left = l.i-iterator.iter.0.now in
    (i + length (entries_of left) ≡ length (entries_of l.text)) × (filled flat_trial l.history i left ≡ filled flat_trial l.initial.history 0 l.text)
