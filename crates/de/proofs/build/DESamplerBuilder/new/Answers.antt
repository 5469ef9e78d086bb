-- `DESamplerBuilder::new` meets its contract: the literals are the doubles nearest to 0.8 and 0.9.
use mathlib.Core.Path.{refl}
use lib.Ieee.{of_bits, of_fields, odd}
use lib.Count.{count_trailing_zeros}
use Rattle.de.specs.Build.{defaults}
use Rattle.de.proofs.build.DESamplerBuilder.new.Goals as goal

pub returns : goal.returns
unfolding defaults of_bits of_fields odd count_trailing_zeros
returns c = refl
