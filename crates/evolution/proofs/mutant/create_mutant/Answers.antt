use Rattle.std.proofs.Common.{refl, arith}
use borrow.Author.Rules.{rules}
use Rattle.rng_util.specs.Many.{listed}
use Rattle.rng_util.proofs.Parts.{pad-listed_more}
use Rattle.common.specs.Bounds.{zero_f}
use Rattle.evolution.specs.Mutant.{mutant_of}
use Rattle.evolution.proofs.mutant.create_mutant.Goals as goal

pub loop-j-init : goal.loop-j-init
unfolding listed
loop-j-init c = refl

pub loop-j-preserved : goal.loop-j-preserved
loop-j-preserved c = pad-listed_more _ 16 zero_f _ _ _ (omega arith) c.mutant_entry.ensures c.loop-j.invariant

pub returns : goal.returns
unfolding mutant_of
returns c = search rules
