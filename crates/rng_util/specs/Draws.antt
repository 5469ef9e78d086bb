-- What is drawn from one output of the generator (document 01, "Generator").
use Rattle.std.specs.Prelude.{ℕ, ◌+◌, ◌/◌, ◌%◌, ◌^◌, false, ℤ, pos, negsuc, ◌+ℤ◌, ◌-ℤ◌, unsigned_abs, Float}
use Rattle.std.specs.Float.{fin, binary64}
use Rattle.std.specs.Float.Ieee.{add, sub, mul, of_int}

-- "`f64()`: the output's upper 53 bits, times 2^-53": a unit
unfoldable pub unit_of : ℕ → Float
unit_of output = mul binary64 (of_int binary64 (pos (output / 2 ^ 11))) (fin false 1 (negsuc 52))

-- "`usize(0..n)`: output mod n"
abbrev pub usize_of : ℕ → ℕ → ℕ
usize_of output n = output % n

-- "`i64(a..=b)`: a + output mod (b - a + 1)", for a at most b
abbrev pub i64_of : ℕ → ℤ → ℤ → ℤ
i64_of output a b = a +ℤ pos (output % (unsigned_abs (b -ℤ a) + 1))

-- "`f64_range`: low + u × (high - low), one rounding per operation"
abbrev pub range_of : Float → Float → Float → Float
range_of low high u = add binary64 low (mul binary64 u (sub binary64 high low))
