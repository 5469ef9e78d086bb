-- Whichever list keeps the rule is the one whose lines were written.
use Rattle.std.proofs.Common.{List, ℕ, subst}
use Rattle.std.specs.Io.KnownBytes.{Appends}
use Rattle.std.proofs.lemmas.Result.{on_ok_weaker}
use Rattle.ladder_table.specs.Lines.{lines}
use Rattle.ladder_table.proofs.Rule.{one-table}
use Rattle.ladder_table.proofs.write_table.Goals as goal

pub returns : goal.returns
returns g c =
    on_ok_weaker c.write_lines.result
    (λ h table t.
    subst (λ (numbers : List ℕ). Appends (g.W.Write.contents c.args.to.now) (g.W.Write.contents c.write_lines.new.to) (lines numbers))
    (one-table c.table.result table c.table.ensures t) h) c.write_lines.ensures
