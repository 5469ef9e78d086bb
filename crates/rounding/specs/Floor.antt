-- "n the floor of (high - low)/step" (document 01, "Mapping"), as Rust's cast hands it to an unsigned number: 0 for a NaN and for what
-- is negative, the largest u64 where it is past that. `fin s m e` is m * up e / down e in size.
use Rattle.std.specs.Prelude.{ℕ, ◌-◌, ◌*◌, ◌/◌, ◌^◌, min, cond, Float}
use Rattle.std.specs.Float.{nan, inf, fin}
use Rattle.std.specs.Float.Ieee.{up, down}

unfoldable pub floor_of : Float → ℕ
floor_of nan = 0
floor_of (inf s) = cond s 0 (2 ^ 64 - 1)
floor_of (fin s m e) = cond s 0 (min (m * up e / down e) (2 ^ 64 - 1))
