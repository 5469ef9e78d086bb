-- `ask` meets its contract: the wanted numbers are as many as are wanted, and the two bounds are theirs.
use Rattle.std.proofs.Common.{refl, arith, ap, ◌∙◌, ◌≡◌}
use Rattle.de.specs.Ask.{first_numbers, asked_of}
use Rattle.de.proofs.Asking.{numbers-none, numbers-more, numbers-few, asked_is}
use Rattle.de.proofs.ask.ask.Goals as goal

pub loop-i-init : goal.loop-i-init
loop-i-init c = c.new-numbers.ensures ∙ numbers-none c.args.state.now.trials

pub push-requires : goal.push-requires
push-requires c =
    (omega arith, omega (arith, numbers-few c.args.state.now.trials c.loop-i.i c.loop-i.numbers c.loop-i.invariant, c.wanted_count-i-end.ensures.few))

pub loop-i-preserved : goal.loop-i-preserved
loop-i-preserved c = c.push.ensures ∙ numbers-more c.args.state.now.trials c.loop-i.i _ c.loop-i.numbers refl c.loop-i.invariant

pub returns : goal.returns
returns c =
    let ts = c.args.state.now.trials in
    let end : c.loop-i.i ≡ c.wanted_count-i-end.result = omega arith in
    asked_is _ _ _ _ _ c.as_slice.ensures c.as_slice-2.ensures c.least.ensures c.most.ensures
    ∙ ap asked_of (c.loop-i.invariant ∙ ap (first_numbers ts) (end ∙ c.wanted_count-i-end.ensures.is))
