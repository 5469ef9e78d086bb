-- `all_pass` meets its contract: what was joined so far is what all items so far say.
use Rattle.std.proofs.Common.{◌≡◌, take}
use Rattle.ledger.specs.Words.{all}
use Rattle.state.specs.Places.{Answers}
use Rattle.state.proofs.places.all_pass.Given as goal

abbrev pub invariant-loop-item : goal.invariant-loop-item
invariant-loop-item g l = (p : _) → Answers g.F.Fn l.passes p → l.fit ≡ all p (take l.item-index l.items)
