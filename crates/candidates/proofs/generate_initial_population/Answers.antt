-- `generate_initial_population` meets its contract: at most 32 draws for each candidate.
use Rattle.std.proofs.Common.{◌^◌, rules, arith}
use Rattle.rng_util.proofs.Few.{few-by}
use Rattle.candidates.specs.Random.{candidate_at, random_candidates}
use Rattle.candidates.proofs.Draws.{candidate-draws}
use Rattle.candidates.proofs.generate_initial_population.Goals as goal

pub many-requires : goal.many-requires
many-requires c = (
  omega arith,
  (
    omega arith,
    few-by _ _ _ _ (candidate_at c.args.space.now) 32 (2 ^ 61) (λ i h. omega (arith, candidate-draws c.args.space.now h))
        (omega arith) (λ i p h l. search rules) (λ i p q v h d. search rules),
  ),
)

pub returns : goal.returns
unfolding random_candidates
returns c = rw (← c.blank.ensures) (c.many.ensures (candidate_at c.args.space.now) (λ i p q v h d. search rules))
