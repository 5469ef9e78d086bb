-- `settle` meets its contract: the results of its calls, put together (`slots-are`). Assumes nothing.
use Rattle.std.proofs.Common.{rules}
use Rattle.closing.proofs.Made.{slots-are}
use Rattle.closing.proofs.settle.Goals as goal

pub returns-clause-whole : goal.returns-clause-whole
returns-clause-whole c =
    let n = c.new_parents-parents.ensures in
    slots-are c.args.state.now c.args.results.now _ n.whole (search rules) _ _ _ _ _ c.least_value.ensures c.least_value-2.ensures c.best_slot-best.ensures (search rules) c.new_idle.ensures
