-- "Clamp gives low below low, high above high, else the value itself" (document 01, "Mapping").
use Rattle.std.specs.Prelude.{cond, Float}
use Rattle.std.specs.Float.Ieee.{lt}

unfoldable pub clamp_of : Float → Float → Float → Float
unfolding lt
clamp_of v low high = cond (lt v low) low (cond (lt high v) high v)
