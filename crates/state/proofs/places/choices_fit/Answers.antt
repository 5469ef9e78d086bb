use Rattle.std.proofs.Common.{length, ap, sym, ◌∙◌, arith}
use Rattle.std.proofs.lemmas.Iterator.{empty_from_Zip}
use Rattle.std.proofs.lemmas.Slice.Zip.{Zip-more}
use Rattle.state.proofs.Loops.{below-next, below-end}
use Rattle.state.proofs.places.choices_fit.Goals as goal

pub loop-choice-preserved : goal.loop-choice-preserved
loop-choice-preserved c =
    let before = c.loop-choice.invariant in
    let next = Zip-more c.loop-choice.choice-iterator c.next.new.self c.next.result (c.in-Some.choice, c.in-Some.limit) c.in-Some.is c.next.ensures.steps in
    (omega (arith, ap length next.0, ap length next.1, before.0), before.1 ∙ below-next _ _ _ _ _ _ _ next)

pub returns : goal.returns
returns c =
    let before = c.loop-choice.invariant in
    let spent = empty_from_Zip c.loop-choice.choice-iterator c.next.new.self c.next.result c.in-None.is c.next.ensures.steps before.0 in
    sym (before.1 ∙ below-end _ _ _ spent.0)
