-- The inner bounds of low and high, and the position of an entry between them (document 02, W9).
use Rattle.std.specs.Prelude.{ℕ, ℤ, pos, cond, int_lt, int_le, Float}
use Rattle.std.specs.Float.{binary64}
use Rattle.std.specs.Float.Ieee.{of_int}
use Rattle.rounding.specs.Clamp.{clamp_of}
use Rattle.rounding.specs.Round.{whole_size}
use Rattle.ladder.specs.Rungs.{last_position, rung}
use Rattle.ladder.specs.Search.{largest, least}

-- "The inner lower bound is 0 for low 1, else the largest p with R(p) below low". No ladder has a low below 1.
unfoldable pub inner_low : ℤ → ℕ
inner_low low = cond (int_le low (pos 1)) 0 (largest (λ (p : ℕ). int_lt (pos (rung p)) low) last_position)

-- "the upper is the least p with R(p) at least high". R(7,936) is 2^31, so up to that high there is one.
unfoldable pub inner_high : ℤ → ℕ
inner_high high = least (λ (p : ℕ). int_le high (pos (rung p))) last_position

-- "Decoding clamps the entry to the inner bounds, rounds to p": no entry between them is below 0, so p is the entry's rounded size
unfoldable pub position_of : Float → ℕ → ℕ → ℕ
unfolding clamp_of whole_size of_int
position_of entry from to = whole_size (clamp_of entry (of_int binary64 (pos from)) (of_int binary64 (pos to)))
