-- "`from_internal`, Float: with a step, k = round((v - low)/step), then low + k × step; then clamp. Int: with a step, k likewise,
-- low + k × step, else round(v); then clamp" (document 01, "Mapping").
use Rattle.std.specs.Prelude.{cond, ℤ, pos, ◌+ℤ◌, ◌*ℤ◌, int_lt, Float, Option, Some, None}
use Rattle.std.specs.Float.{binary64}
use Rattle.std.specs.Float.Ieee.{add, sub, mul, div, of_int}
use Rattle.distribution.specs.declared.FloatDistribution.{FloatDistribution}
use Rattle.distribution.specs.declared.IntDistribution.{IntDistribution}
use Rattle.distribution.specs.declared.Distribution.{Distribution}
use Rattle.distribution.specs.declared.Distribution.TheVariants as D
use Rattle.distribution.specs.declared.ParamValue.{ParamValue}
use Rattle.distribution.specs.declared.ParamValue.TheVariants as P
use Rattle.rounding.specs.Round.{round_away, whole_z}
use Rattle.rounding.specs.Clamp.{clamp_of}
use Rattle.ladder.specs.Inner.{inner_low, inner_high, position_of}
use Rattle.ladder.specs.Rungs.{rung}

-- ---- Float: doubles, one rounding per operation, in the Rust's order

-- "with a step, k = round((v - low)/step), then low + k × step"
unfoldable pub on_step : Option Float → Float → Float → Float
unfolding round_away add sub mul div
on_step None low v = v
on_step (Some step) low v = add binary64 low (mul binary64 (round_away (div binary64 (sub binary64 v low) step)) step)

-- "then clamp"
unfoldable pub from_float : Float → FloatDistribution → Float
unfolding clamp_of on_step
from_float v d = clamp_of (on_step d.step d.low v) d.low d.high

-- ---- Int: k is rounded as a double, and from there on the numbers are exact

-- "with a step, k likewise, low + k × step, else round(v)"
unfoldable pub on_step_z : Option ℤ → ℤ → Float → ℤ
unfolding whole_z sub div of_int
on_step_z None low v = whole_z v
on_step_z (Some step) low v = low +ℤ whole_z (div binary64 (sub binary64 v (of_int binary64 low)) (of_int binary64 step)) *ℤ step

-- "Clamp gives low below low, high above high, else the value itself"
unfoldable pub clamp_z : ℤ → ℤ → ℤ → ℤ
clamp_z z low high = cond (int_lt z low) low (cond (int_lt high z) high z)

-- with the log flag, document 02, W9: "Decoding clamps the entry to the inner bounds, rounds to p, takes R(p) and clamps that to low and high"
unfoldable pub from_ladder : Float → IntDistribution → ℤ
unfolding clamp_z
from_ladder v d = clamp_z (pos (rung (position_of v (inner_low d.low) (inner_high d.high)))) d.low d.high

-- without it, "then clamp"
unfoldable pub from_int : Float → IntDistribution → ℤ
unfolding clamp_z on_step_z from_ladder
from_int v d = cond d.log_scale (from_ladder v d) (clamp_z (on_step_z d.step d.low v) d.low d.high)

-- ---- a categorical dimension has no entry (the Rust's `unreachable!`): choice 0 stands there

unfoldable pub from_internal : Float → Distribution → ParamValue
unfolding from_float from_int
from_internal v (D.Float d) = P.Float (from_float v d)
from_internal v (D.Int d) = P.Int (from_int v d)
from_internal v (D.Categorical d) = P.Categorical 0
