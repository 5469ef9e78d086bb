-- The limb counts by its place.
use Rattle.ladder_table.proofs.Limbs.{alone}
use Rattle.ladder_table.proofs.number.alone.Goals as goal

pub returns : goal.returns
returns c = alone 256 c.args.k c.args.limb c.requires
