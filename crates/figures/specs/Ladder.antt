-- Request W9 of document 02 in small: the ladders 1 .. 64 and 5 .. 60, with the log flag and no step.
use Rattle.std.specs.Prelude.{ℕ, ◌≡◌, true, [], ◌∷◌, map, pos, None}
use Rattle.distribution.specs.declared.IntDistribution.{IntDistribution}
use Rattle.ladder.specs.Inner.{inner_low, inner_high}
use Rattle.ladder.specs.Rungs.{rung}
use Rattle.common.specs.FromInternal.{from_int}
use Rattle.common.specs.Random.{random_int}
use Rattle.figures.specs.Leaves.{dec, minus}

unfoldable pub ladder : ℕ → ℕ → IntDistribution
ladder low high = record { low = pos low; high = pos high; log_scale = true; step = None }

-- "R(p) is the whole part of 2^(p/256)": 1 has the positions 0 to 255, 2 has 256 to 405, 3 has 406 to 511
abbrev pub Rungs : Type 0
Rungs = map rung (0 ∷ 255 ∷ 256 ∷ 405 ∷ 406 ∷ 511 ∷ 512 ∷ 7936 ∷ []) ≡ 1 ∷ 1 ∷ 2 ∷ 2 ∷ 3 ∷ 3 ∷ 4 ∷ 2147483648 ∷ []

-- "The inner lower bound is 0 for low 1, else the largest p with R(p) below low; the upper is the least p with R(p) at least high"
abbrev pub InnerBounds : Type 0
InnerBounds =
    (map (λ (low : ℕ). inner_low (pos low)) (1 ∷ 2 ∷ 5 ∷ []) ≡ 0 ∷ 255 ∷ 594 ∷ [])
    × (map (λ (high : ℕ). inner_high (pos high)) (1 ∷ 2 ∷ 60 ∷ 64 ∷ []) ≡ 0 ∷ 256 ∷ 1513 ∷ 1536 ∷ [])

-- "rounds to p, takes R(p)": 405.49 goes down to 405, 405.5 up to 406, and 594.5 up to 595, though 594 is even: R(594) is 4, and R(595) is 5
abbrev pub Rounded : Type 0
Rounded = map (λ v. from_int v (ladder 1 64)) (dec 0 0 ∷ dec 40549 2 ∷ dec 4055 1 ∷ dec 5945 1 ∷ dec 1536 0 ∷ []) ≡ pos 1 ∷ pos 2 ∷ pos 3 ∷ pos 5 ∷ pos 64 ∷ []

-- "Decoding clamps the entry to the inner bounds", 594 and 1,513, "and clamps that to low and high": R(594) is 4, and R(700) is 6
abbrev pub Clamped : Type 0
Clamped =
    map (λ v. from_int v (ladder 5 60)) (minus 700 0 ∷ dec 594 0 ∷ dec 595 0 ∷ dec 1513 0 ∷ dec 9999 0 ∷ [])
    ≡ pos 5 ∷ pos 5 ∷ pos 5 ∷ pos 60 ∷ pos 60 ∷ []

-- "draws p by `i64` from the inner bounds, both included, and decodes it": of 1 .. 64 there are 1,537 positions
abbrev pub Drawn : Type 0
Drawn = map (random_int (ladder 1 64)) (0 ∷ 405 ∷ 406 ∷ 1536 ∷ 1537 ∷ []) ≡ pos 1 ∷ pos 2 ∷ pos 3 ∷ pos 64 ∷ pos 1 ∷ []
