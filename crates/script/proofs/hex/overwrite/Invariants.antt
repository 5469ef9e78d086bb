-- The bytes that are stored, and the digits that are left: the laws of `Digits`.
use Rattle.std.proofs.Common.{◌≡◌}
use Rattle.script.proofs.Digits.{Storing}
use Rattle.script.proofs.hex.overwrite.Given as goal

abbrev pub invariant-loop-k : goal.invariant-loop-k
invariant-loop-k l = Storing l.hex l.initial.file l.at l.k-iterator.count l.file l.k-iterator.iter.rest.now × (l.k-iterator.iter.size ≡ 2)
