-- The laws of `Line`.
use Rattle.std.proofs.Common.{◌∙◌, rules, tests}
use Rattle.script.proofs.Line.{empty-line, comment, said}
use Rattle.script.proofs.command.parse.Goals as goal
use Rattle.script.proofs.command.parse.Goals.{then-is_empty-via-then-is_empty, then-is_empty-via-else-is_empty+then-line-eq35}

pub returns-then-is_empty : goal.returns-then-is_empty
returns-then-is_empty c =
    elim c.then-is_empty.branch [
      | then-is_empty-via-then-is_empty w ↦ empty-line _ (search (rules, tests))
      | then-is_empty-via-else-is_empty+then-line-eq35 w ↦ comment _ (search (rules, tests)) w.if-line-eq35.true
    ]

pub returns : goal.returns
returns c = c.ruled.ensures ∙ said _ (search (rules, tests)) c.if-line-eq35.false
