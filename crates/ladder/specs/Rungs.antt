-- "R(p) is the whole part of 2^(p/256), p from 0 to 7,936" (document 02, W9): the number whose 256th power is 2^p, without its fraction.
use Rattle.std.specs.Prelude.{ℕ, ◌+◌, ◌^◌, ◌≤◌, ◌<◌, nat_le}
use Rattle.ladder.specs.Search.{largest}

-- "p from 0 to 7,936"
abbrev pub last_position : ℕ
last_position = 7936

-- r is the whole part of 2^(p/256): r^256 is at most 2^p, and 2^p below (r + 1)^256
pub record WholePart (p r : ℕ) : Type 0 where
  pub at_most : r ^ 256 ≤ 2 ^ p
  pub below : 2 ^ p < (r + 1) ^ 256

-- R(p): the largest r with r^256 at most 2^p. None is over 2^p.
unfoldable pub rung : ℕ → ℕ
rung p = largest (λ (r : ℕ). nat_le (r ^ 256) (2 ^ p)) (2 ^ p)
