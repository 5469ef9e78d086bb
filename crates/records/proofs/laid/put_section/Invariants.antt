-- `put_section` meets its contract: the bytes of the records so far (`bytes_to`).
use Rattle.std.proofs.Common.{◌≡◌, ◌*◌}
use Rattle.std.proofs.Math.Seq.{paste}
use Rattle.records.proofs.Recorded.{bytes_to}
use Rattle.records.proofs.laid.put_section.Given as goal

abbrev pub invariant-loop-j : goal.invariant-loop-j
invariant-loop-j l = l.file ≡ paste l.initial.file (32 * l.k) (bytes_to l.count l.k l.kind l.words l.j) (32 * l.j)
