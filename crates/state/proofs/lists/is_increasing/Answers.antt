-- `is_increasing` meets its contract: each trial's number against the next one's.
use Rattle.std.proofs.Common.{rules, ltb}
use Rattle.std.proofs.lemmas.Fn.{always_returns_same}
use Rattle.state.specs.declared.TrialProgress.{TrialProgress}
use Rattle.state.proofs.Numbers.{increasing-is}
use Rattle.state.proofs.lists.is_increasing.Goals as goal

pub returns : goal.returns
returns c = increasing-is _ _ (c.is_sorted_by.ensures.cases (λ (a b : TrialProgress). ltb a.number b.number) (always_returns_same _ _ _ (λ a r f' k. search rules)))
