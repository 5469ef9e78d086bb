-- N, the number of slots.
use Rattle.std.specs.Prelude.{ℕ, ◌*◌, max, Option, Some, None}

-- "Size: the user's, raised to 4; unset, the larger of 15 and 10 × n, n counting continuous dimensions."
abbrev pub size_of : Option ℕ → ℕ → ℕ
size_of None n = max 15 (10 * n)
size_of (Some k) n = max 4 k
