-- n entries and then those of what is left give the answer. A line is a byte at least, so n and what is left are no more than the text.
use Rattle.std.proofs.Common.{◌≡◌, ◌+◌, ◌≤◌, length}
use Rattle.metrics.specs.Export.{export_of, answer_of}
use Rattle.metrics.proofs.Lines.{left_from}
use Rattle.metrics.proofs.judge.Given as goal

abbrev pub invariant-loop-rest : goal.invariant-loop-rest
invariant-loop-rest l = (l.n + length l.left ≤ length l.text) × (answer_of l.places (export_of l.text) ≡ left_from l.n l.places l.left)

abbrev pub decreases-loop-rest : goal.decreases-loop-rest
decreases-loop-rest l = length l.left
