-- `least_value` meets its contract: the best slot's value is read, if there is a slot.
use borrow.Author.Rules.{rules}
use lib.Ieee.{of_bits, of_fields}
use Rattle.selection.proofs.Running.{least-read}
use Rattle.selection.proofs.least_value.Goals as goal

pub returns : goal.returns
unfolding of_bits of_fields
returns c = rw (← c.best_slot.ensures) (least-read c.args.parents.now c.best_slot.result c.get.result c.map_or.result _ (λ x q. search rules) c.map_or.ensures c.get.ensures.lookup.3)
