-- `trial_vector` meets its contract: each part starts from the generator that the one before it left.
use Rattle.std.proofs.Common.{length, arith}
use borrow.Author.Rules.{rules}
use Rattle.rng_util.proofs.Parts.{drew-one}
use Rattle.evolution.specs.Mutant.{entries}
use Rattle.evolution.proofs.Draws.{drew-mutant, drew-crossed}
use Rattle.evolution.proofs.Trials.{trial-is}
use Rattle.evolution.proofs.trial_vector.Goals as goal

pub draw-requires : goal.draw-requires
draw-requires c = omega (arith, drew-mutant _ _ _ _ _ _ _ _ _ c.create_mutant_with_rng-mutant.ensures)

pub crossover-x-requires : goal.crossover-x-requires
crossover-x-requires c = (search rules, omega (arith, drew-mutant _ _ _ _ _ _ _ _ _ c.create_mutant_with_rng-mutant.ensures, drew-one _ _ _ c.draw.ensures))

pub random_choices-choices-requires : goal.random_choices-choices-requires
random_choices-choices-requires c =
    (search rules, omega (arith, drew-mutant _ _ _ _ _ _ _ _ _ c.create_mutant_with_rng-mutant.ensures, drew-one _ _ _ c.draw.ensures, drew-crossed _ _ _ _ _ _ _ _ _ c.crossover-x.ensures))

pub returns : goal.returns
returns c =
    let a = c.args in
    trial-is a.setup.now (entries a.parents.now) (length a.parents.now) a.best a.space.now a.i a.rng.now _ _ _ _ _ _ _ _ _ c.create_mutant_with_rng-mutant.ensures c.draw.ensures c.usize_below-j_rand.ensures c.crossover-x.ensures c.random_choices-choices.ensures
