-- The constant's bits are those of plus infinity.
use Rattle.std.proofs.Common.{◌∙◌, Bool, false, cond, sym, ap}
use Rattle.std.specs.Float.{inf}
use lib.Ieee.{of_bits}
use Rattle.history.specs.Entry.{counted_value}
use Rattle.history.proofs.CompletedTrial.counted_value.Goals as goal

pub returns-else-is_complete : goal.returns-else-is_complete
unfolding counted_value of_bits
returns-else-is_complete c = ap (λ (b : Bool). cond b c.args.self.value (inf false)) (sym c.if-is_complete.false ∙ c.is_complete.ensures)
