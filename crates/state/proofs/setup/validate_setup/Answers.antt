-- `validate_setup` meets its contract: row by row.
use mathlib.Core.Path.{refl}
use lib.Ieee.{of_bits, of_fields, odd}
use lib.Count.{count_trailing_zeros}
use Rattle.distribution.proofs.Flags.{row-applies, row-passes}
use Rattle.kernel.specs.Setup.{setup_verdict}
use Rattle.state.proofs.setup.validate_setup.Goals as goal

pub returns-then-is_outside : goal.returns-then-is_outside
unfolding setup_verdict of_bits of_fields odd count_trailing_zeros
returns-then-is_outside c = row-applies _ _ c.if-is_outside.true c.is_outside.ensures

pub returns-then-is_outside-2 : goal.returns-then-is_outside-2
unfolding setup_verdict of_bits of_fields odd count_trailing_zeros
returns-then-is_outside-2 c =
    row-passes _ c.if-is_outside.false c.is_outside.ensures (row-applies _ _ c.if-is_outside-2.true c.is_outside-else-is_outside.ensures)

pub returns-then-size_fails : goal.returns-then-size_fails
unfolding setup_verdict of_bits of_fields odd count_trailing_zeros
returns-then-size_fails c =
    row-passes _ c.if-is_outside.false c.is_outside.ensures
    (row-passes _ c.if-is_outside-2.false c.is_outside-else-is_outside.ensures
    (row-applies _ _ c.if-size_fails.true c.size_fails.ensures))

pub returns-else-size_fails : goal.returns-else-size_fails
unfolding setup_verdict of_bits of_fields odd count_trailing_zeros
returns-else-size_fails c =
    row-passes _ c.if-is_outside.false c.is_outside.ensures
    (row-passes _ c.if-is_outside-2.false c.is_outside-else-is_outside.ensures
    (row-passes _ c.if-size_fails.false c.size_fails.ensures refl))
