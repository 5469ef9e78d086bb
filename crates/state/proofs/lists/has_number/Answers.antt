-- `has_number` meets its contract: the definition's test of the numbers is one of the trials.
use Rattle.std.proofs.Common.{◌∙◌, rules, tests, eqb}
use Rattle.std.proofs.lemmas.Iterator.{YieldsList-from_slice}
use Rattle.std.proofs.lemmas.Iterator.Search.{any_from_yields_List}
use Rattle.state.specs.declared.TrialProgress.{TrialProgress}
use Rattle.state.proofs.Numbers.{has-any}
use Rattle.state.proofs.lists.has_number.Goals as goal

pub returns : goal.returns
returns c =
    any_from_yields_List (λ (t : TrialProgress). eqb t.number c.args.number) _ _ _ c.any.ensures.ran (YieldsList-from_slice c.args.trials.now cc) (λ x b q k. search (rules, tests))
    ∙ has-any c.args.trials.now c.args.number
