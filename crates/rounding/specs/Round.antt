-- "Rounding goes to nearest, halves away from zero; a zero keeps the sign of what was rounded" (document 01, "Mapping").
use Rattle.std.specs.Prelude.{ℕ, ◌+◌, ◌*◌, ◌/◌, ◌^◌, Bool, false, cond, ℤ, pos, neg_ℤ, Float}
use Rattle.std.specs.Float.{nan, inf, fin, binary64}
use Rattle.std.specs.Float.Ieee.{up, down, round}

-- the whole number nearest to a / c, halves up
abbrev pub nearest_whole : ℕ → ℕ → ℕ
nearest_whole a c = (2 * a + c) / (2 * c)

-- The size of x to the nearest whole number, halves up: `fin s m e` is m * up e / down e in size. An infinity's is past every
-- signed and unsigned number of 64 bits, and a NaN's is 0, as in Rust's casts.
unfoldable pub whole_size : Float → ℕ
whole_size nan = 0
whole_size (inf s) = 2 ^ 64
whole_size (fin s m e) = nearest_whole (m * up e) (down e)

-- Rust's f64::round. A whole number nearest to a double is a double, so `round` only writes it down, with the sign s, that of a zero too.
unfoldable pub round_away : Float → Float
unfolding whole_size round
round_away nan = nan
round_away (inf s) = inf s
round_away (fin s m e) = round binary64 s (whole_size (fin s m e)) 1

-- the sign; a NaN has none
unfoldable pub negative : Float → Bool
negative nan = false
negative (inf s) = s
negative (fin s m e) = s

-- x rounded, as an exact integer: what a whole-number setting is made of
unfoldable pub whole_z : Float → ℤ
unfolding negative whole_size
whole_z x = cond (negative x) (neg_ℤ (pos (whole_size x))) (pos (whole_size x))
