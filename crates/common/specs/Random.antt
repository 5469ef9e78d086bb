-- "`sample_random`: Float without step `f64_range`; with step k = `i64(0..=n)`, n the floor of (high - low)/step, then low + k × step, not
-- clamped; Int `i64(low..=high)` or low + k × step; Categorical `usize`" (document 01, "Mapping"). Each takes one draw's output.
use Rattle.std.specs.Prelude.{ℕ, cond, ℤ, pos, ◌+ℤ◌, ◌-ℤ◌, ◌*ℤ◌, int_div, Float, Option, Some, None}
use Rattle.std.specs.Float.{binary64}
use Rattle.std.specs.Float.Ieee.{add, sub, mul, div, of_int}
use Rattle.rng_util.specs.Draws.{unit_of, usize_of, i64_of, range_of}
use Rattle.rng_util.specs.declared.Gen.{Gen}
use Rattle.rng_util.specs.Gen.{draw_of, Made, made}
use Rattle.distribution.specs.declared.IntDistribution.{IntDistribution}
use Rattle.distribution.specs.declared.Distribution.{Distribution}
use Rattle.distribution.specs.declared.Distribution.TheVariants as D
use Rattle.distribution.specs.declared.ParamValue.{ParamValue}
use Rattle.distribution.specs.declared.ParamValue.TheVariants as P
use Rattle.rounding.specs.Floor.{floor_of}
use Rattle.ladder.specs.Inner.{inner_low, inner_high}
use Rattle.common.specs.FromInternal.{from_ladder}

-- Float: in doubles, one rounding per operation, in the Rust's order
unfoldable pub random_float : Option Float → Float → Float → ℕ → Float
unfolding unit_of floor_of of_int add sub mul div
random_float None low high output = range_of low high (unit_of output)
random_float (Some step) low high output =
    add binary64 low (mul binary64 (of_int binary64 (i64_of output (pos 0) (pos (floor_of (div binary64 (sub binary64 high low) step))))) step)

-- Int: exact. With a step k = `i64(0..=n)`, n = (high - low) / step in whole numbers, as the Rust divides them.
unfoldable pub random_on_step : Option ℤ → ℤ → ℤ → ℕ → ℤ
random_on_step None low high output = i64_of output low high
random_on_step (Some step) low high output = low +ℤ i64_of output (pos 0) (int_div (high -ℤ low) step) *ℤ step

-- with the log flag, document 02, W9: "draws p by `i64` from the inner bounds, both included, and decodes it"
unfoldable pub random_ladder : IntDistribution → ℕ → ℤ
unfolding from_ladder of_int
random_ladder d output = from_ladder (of_int binary64 (i64_of output (pos (inner_low d.low)) (pos (inner_high d.high)))) d

unfoldable pub random_int : IntDistribution → ℕ → ℤ
unfolding random_on_step random_ladder
random_int d output = cond d.log_scale (random_ladder d output) (random_on_step d.step d.low d.high output)

-- the setting that one output gives
unfoldable pub random_value : Distribution → ℕ → ParamValue
unfolding random_float random_int
random_value (D.Float d) output = P.Float (random_float d.step d.low d.high output)
random_value (D.Int d) output = P.Int (random_int d output)
random_value (D.Categorical d) output = P.Categorical (usize_of output d.n_choices)

-- exactly one draw
unfoldable pub random_setting : Distribution → Gen → Made ParamValue
unfolding random_value draw_of
random_setting d g = made (random_value d (draw_of g).out) (draw_of g).after
