-- `random_entries` meets its contract: one draw for each entry.
use Rattle.std.proofs.Common.{◌^◌, rules, arith}
use Rattle.rng_util.proofs.Few.{few-by}
use Rattle.candidates.specs.Random.{entry_at, random_entries}
use Rattle.candidates.proofs.Draws.{entry-draws}
use Rattle.candidates.proofs.random_entries.Goals as goal

pub many-requires : goal.many-requires
many-requires c = (
  omega arith,
  (
    c.requires.0,
    few-by _ _ _ _ (entry_at c.args.space.now) 1 (2 ^ 63) (λ i h. entry-draws _ h)
        (omega arith) (λ i p h l. search rules) (λ i p q v h d. search rules),
  ),
)

pub returns : goal.returns
unfolding random_entries
returns c = c.many.ensures (entry_at c.args.space.now) (λ i p q v h d. search rules)
