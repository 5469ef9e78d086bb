use Rattle.std.proofs.Common.{arith}
use Rattle.std.proofs.lemmas.Grind.{common_steps}
use Rattle.records.specs.Tables.{holds}
use Rattle.records.proofs.Table.holds.Goals as goal

pub returns-then-has_words : goal.returns-then-has_words
unfolding holds
returns-then-has_words c = grind (arith, common_steps)

pub returns-else-has_words : goal.returns-else-has_words
unfolding holds
returns-else-has_words c = grind (arith, common_steps)
