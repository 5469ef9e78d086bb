-- What the choices so far write.
use Rattle.std.proofs.Common.{map}
use Rattle.std.specs.List.{flat_map}
use Rattle.std.specs.Fmt.{HasWritten, IsPlainFormatter}
use Rattle.printed.specs.Whole.{choice_text}
use Rattle.printed.proofs.whole.put_choices.Given as goal

abbrev pub invariant-loop-i : goal.invariant-loop-i
invariant-loop-i g l =
    IsPlainFormatter l.initial.f
    → HasWritten g.W.Write.write_str_gives l.initial.f (flat_map choice_text (map (λ p. (p.0, (p.1.0.now, p.1.1.now))) l.yielded)) l.f
