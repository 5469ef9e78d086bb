-- The entries of what is left, written behind those so far, make all of them written.
use Rattle.std.proofs.Common.{◌≡◌, ◌+◌, length}
use Rattle.metrics.specs.Export.{entry_of}
use Rattle.metrics.specs.Steps.{entries_of}
use Rattle.metrics.proofs.Writes.{filled}
use Rattle.metrics.proofs.read_history.Given as goal

abbrev pub invariant-loop-i : goal.invariant-loop-i
invariant-loop-i l =
    let i = l.i-iterator.count in
    let left = l.i-iterator.iter.0.now in
    (i + length (entries_of left) ≡ length (entries_of l.text)) × (filled entry_of l.history i left ≡ filled entry_of l.initial.history 0 l.text)
