-- `generate_trial_vectors` meets its contract: at most 3,105 draws for each slot, 3,072 of them for its indices.
use Rattle.std.proofs.Common.{◌^◌, length, rules, arith}
use Rattle.rng_util.proofs.Few.{few-by}
use Rattle.evolution.specs.Mutant.{entries}
use Rattle.evolution.specs.Trial.{trial_of, trial_vectors}
use Rattle.evolution.proofs.Draws.{trial-draws}
use Rattle.evolution.proofs.generate_trial_vectors.Goals as goal

pub many-requires : goal.many-requires
many-requires c =
    let a = c.args in
    let ps = a.parents.now in (
      omega arith,
      (
        omega arith,
        few-by _ _ _ _ (trial_of a.setup.now (entries ps) (length ps) a.best a.space.now) 3105 (2 ^ 60) (λ i h. omega (arith, trial-draws a.setup.now (entries ps) (length ps) a.best a.space.now i h))
            (omega arith) (λ i p h l. search rules) (λ i p q v h d. search rules),
      ),
    )

pub returns : goal.returns
unfolding trial_vectors
returns c =
    let a = c.args in
    let ps = a.parents.now in
    rw (← c.blank.ensures) (c.many.ensures (trial_of a.setup.now (entries ps) (length ps) a.best a.space.now) (λ i p q v h d. search rules))
