-- The lines of the numbers so far are written.
use Rattle.std.proofs.Common.{take}
use Rattle.std.specs.Io.KnownBytes.{Appends}
use Rattle.ladder_table.specs.Lines.{lines}
use Rattle.ladder_table.proofs.write_lines.Given as goal

abbrev pub invariant-loop-number : goal.invariant-loop-number
invariant-loop-number g l = Appends (g.W.Write.contents l.fn.to) (g.W.Write.contents l.to) (lines (take l.number-index l.numbers))
