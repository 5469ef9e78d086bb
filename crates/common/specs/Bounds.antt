-- "`internal_bounds`: the bounds as doubles" (document 01, "Mapping"). A categorical distribution has none: zeros stand there, and nothing reads them.
use Rattle.std.specs.Prelude.{from_bits, cond, pos, Float}
use Rattle.std.specs.Float.{binary64}
use Rattle.std.specs.Float.Ieee.{of_int}
use Rattle.distribution.specs.declared.Distribution.{Distribution}
use Rattle.distribution.specs.declared.Distribution.TheVariants.{Float as FloatD, Int as IntD, Categorical}
use Rattle.distribution.specs.declared.IntDistribution.{IntDistribution}
use Rattle.distribution.specs.declared.DimensionInfo.{DimensionInfo}
use Rattle.ladder.specs.Inner.{inner_low, inner_high}
use Rattle.common.specs.declared.Bounds.{Bounds}

-- plus zero, what an unused place holds
abbrev pub zero_f : Float
zero_f = from_bits binary64 0

-- with the log flag the ladder's inner bounds (document 02, W9)
abbrev pub ladder_bounds : IntDistribution → Bounds
ladder_bounds d = record { low = of_int binary64 (pos (inner_low d.low)); high = of_int binary64 (pos (inner_high d.high)) }

abbrev pub int_bounds : IntDistribution → Bounds
int_bounds d = cond d.log_scale (ladder_bounds d) (record { low = of_int binary64 d.low; high = of_int binary64 d.high })

abbrev pub no_bounds : Bounds
no_bounds = record { low = zero_f; high = zero_f }

abbrev pub bounds : Distribution → Bounds
bounds (FloatD f) = record { low = f.low; high = f.high }
bounds (IntD k) = int_bounds k
bounds (Categorical k) = no_bounds

abbrev pub bounds_of : DimensionInfo → Bounds
bounds_of d = bounds d.distribution
