use Rattle.rng_util.specs.Draws.{unit_of}
use Rattle.std.proofs.Common.{◌/◌, ◌^◌, refl, arith, le→leb}
use lib.Ieee.{in_float, of_bits, of_fields, odd}
use lib.Count.{count_trailing_zeros}
use Rattle.rng_util.proofs.unit.Goals as goal

pub int_to_float-result : goal.int_to_float-result
unfolding in_float
int_to_float-result c = le→leb (c.args.output / 2 ^ 11) (2 ^ 53) (omega arith)

pub returns : goal.returns
unfolding unit_of of_bits of_fields odd count_trailing_zeros
returns c = refl
