-- The i64 numbers in order, counted from 0: the word that stands for each in a saved file.
use Rattle.std.specs.Prelude.{ℕ, suc, ◌+◌, ◌-◌, ◌^◌, cond, ℤ, pos, negsuc, nat_le}

-- z + 2 ^ 63, and 0 below that
abbrev pub place_of : ℤ → ℕ
place_of (pos n) = 2 ^ 63 + n
place_of (negsuc n) = 2 ^ 63 - suc n

-- n - 2 ^ 63
abbrev pub at_place : ℕ → ℤ
at_place n = cond (nat_le (2 ^ 63) n) (pos (n - 2 ^ 63)) (negsuc (2 ^ 63 - suc n))
