use Rattle.std.proofs.Common.{refl}
use Rattle.std.proofs.lemmas.Fn.{says_at}
use Rattle.ledger.specs.Words.{all}
use Rattle.state.proofs.Loops.{all-more}
use Rattle.state.proofs.places.all_pass.Goals as goal

pub loop-item-init : goal.loop-item-init
unfolding all
loop-item-init g c = λ p h. refl

pub loop-item-preserved : goal.loop-item-preserved
loop-item-preserved g c = λ p h. all-more p _ _ _ c.loop-item-test.true c.item-item.is (c.loop-item.invariant p h) (h _ _ (says_at g.F.Fn c.passes-fit.ensures refl))
