-- `read_rows` meets its contract: the first i items are read (`read_to`).
use Rattle.std.proofs.Common.{◌≡◌}
use Rattle.opened.proofs.Opening.{read_to}
use Rattle.opened.proofs.read_rows.Given as goal

abbrev pub invariant-loop-i : goal.invariant-loop-i
invariant-loop-i g l = l.items ≡ read_to g.row.N l.fn.blank g.reads l.words l.width l.i
