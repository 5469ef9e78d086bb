-- `crossover` meets its contract: at most one draw for each entry.
use Rattle.std.proofs.Common.{◌^◌, rules, arith}
use Rattle.rng_util.proofs.Few.{few-by}
use Rattle.evolution.specs.Mutant.{in_row}
use Rattle.evolution.specs.Cross.{cross_at, crossed}
use Rattle.evolution.proofs.Draws.{cross-draws}
use Rattle.evolution.proofs.crossover.Goals as goal

pub many-requires : goal.many-requires
many-requires c =
    let a = c.args in (
      omega arith,
      (
        c.requires.0,
        few-by _ _ _ _ (cross_at a.setup.now.bounds_rule a.setup.now.crossover_rate a.j_rand (in_row a.mutant.now) (in_row a.parent.now) a.space.now) 1 (2 ^ 63) (λ i h. cross-draws _ _ _ _ _ _ i h)
            (omega arith) (λ i p h l. search rules) (λ i p q v h d. search rules),
      ),
    )

pub returns : goal.returns
unfolding crossed
returns c = c.many.ensures (cross_at c.args.setup.now.bounds_rule c.args.setup.now.crossover_rate c.args.j_rand (in_row c.args.mutant.now) (in_row c.args.parent.now) c.args.space.now) (λ i p q v h d. search rules)
