-- `random_candidate` meets its contract: the choices are drawn from the generator that the entries left.
use Rattle.std.proofs.Common.{arith}
use borrow.Author.Rules.{rules}
use Rattle.rng_util.proofs.Parts.{drew}
use Rattle.candidates.specs.Random.{random_entries, random_candidate}
use Rattle.candidates.proofs.Draws.{entries-draws, with-choices}
use Rattle.candidates.proofs.random_candidate.Goals as goal

pub random_choices-choices-requires : goal.random_choices-choices-requires
random_choices-choices-requires c = (search rules, omega (arith, drew c.random_entries-x.ensures, entries-draws c.args.space.now c.args.rng.now))

pub returns : goal.returns
unfolding random_candidate
returns c = with-choices c.args.space.now (random_entries c.args.space.now c.args.rng.now) _ _ _ _ c.random_entries-x.ensures c.random_choices-choices.ensures
