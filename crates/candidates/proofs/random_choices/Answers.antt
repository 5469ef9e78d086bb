-- `random_choices` meets its contract: at most one draw for each choice.
use Rattle.std.proofs.Common.{◌^◌, rules, arith}
use Rattle.rng_util.proofs.Few.{few-by}
use Rattle.candidates.specs.Random.{choice_at, random_choices}
use Rattle.candidates.proofs.Draws.{choice-draws}
use Rattle.candidates.proofs.random_choices.Goals as goal

pub many-requires : goal.many-requires
many-requires c = (
  omega arith,
  (
    c.requires.0,
    few-by _ _ _ _ (choice_at c.args.space.now) 1 (2 ^ 63) (λ i h. choice-draws _ h)
        (omega arith) (λ i p h l. search rules) (λ i p q v h d. search rules),
  ),
)

pub returns : goal.returns
unfolding random_choices
returns c = c.many.ensures (choice_at c.args.space.now) (λ i p q v h d. search rules)
