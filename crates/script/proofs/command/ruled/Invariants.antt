-- As many words as have come stand in front.
use Rattle.std.proofs.Common.{◌≡◌, ◌≤◌, length, take}
use Rattle.script.proofs.command.ruled.Given as goal

abbrev pub invariant-loop-word : goal.invariant-loop-word
invariant-loop-word l =
    (goal.iterator-loop-word).can_next l.word-iterator ×
    (goal.iterator-loop-word).is_finite l.word-iterator ×
    (l.n ≡ length l.yielded) × (l.n ≤ 7) × (take l.n l.words ≡ l.yielded) × (length l.words ≡ 7)
