use borrow.Author.Rules.{rules}
use Rattle.std.proofs.iter.runs.Sources.{ranges}
use Rattle.evolution.specs.Select.{lowest_free}
use Rattle.evolution.proofs.select.lowest_free.Goals as goal

pub returns : goal.returns
unfolding lowest_free
returns c = search (rules, ranges)
