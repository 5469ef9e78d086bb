-- `halfway` meets its contract: the literal is two.
use mathlib.Core.Path.{refl}
use lib.Count.{count_trailing_zeros}
use lib.Ieee.{of_bits, of_fields, odd}
use Rattle.evolution.specs.Cross.{halfway}
use Rattle.evolution.proofs.halfway.Goals as goal

pub returns : goal.returns
unfolding halfway of_bits of_fields odd count_trailing_zeros
returns c = refl
