-- What the values so far write.
use Rattle.std.proofs.Common.{take}
use Rattle.std.specs.Fmt.{HasWritten, IsPlainFormatter}
use Rattle.printed.specs.Rows.{values_text}
use Rattle.printed.proofs.rows.put_values.Given as goal

abbrev pub invariant-loop-x : goal.invariant-loop-x
invariant-loop-x g l = IsPlainFormatter l.initial.f → HasWritten g.W.Write.write_str_gives l.initial.f (values_text (take l.x-index l.values)) l.f
