-- `create_mutant_with_rng` meets its contract: the indices that are drawn are slots, and the mutant is made of them.
use borrow.Author.Rules.{rules}
use Rattle.evolution.specs.Mutant.{entries}
use Rattle.evolution.proofs.Apart.{in-range}
use Rattle.evolution.proofs.Trials.{mutated-is}
use Rattle.evolution.proofs.mutant.create_mutant_with_rng.Goals as goal

pub create_mutant-requires : goal.create_mutant-requires
create_mutant-requires c =
    let t = in-range _ _ _ _ _ _ (search rules) (search rules) c.select_random_indices-t.ensures in
    record { slots = (search rules, search rules, search rules); drawn = t }

pub returns : goal.returns
returns c = mutated-is c.args.setup.now (entries c.args.parents.now) _ c.args.best _ c.args.n _ _ _ _ _ c.index_count-count.ensures c.select_random_indices-t.ensures c.create_mutant.ensures
