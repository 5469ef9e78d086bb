-- "A table of 256 numbers holds the whole part of 2^(31 + i/256)" (document 02, W9).
use Rattle.std.specs.Prelude.{ℕ, ◌+◌, ◌^◌, Bool, ◌&&◌, List, length, ◌==◌, nat_le, nat_lt}
use Rattle.rounding.specs.Table.{every}

-- "T^256 at most 2^(7,936 + i) and 2^(7,936 + i) below (T + 1)^256"
abbrev pub has_rule : ℕ → ℕ → Bool
has_rule i t = nat_le (t ^ 256) (2 ^ (7936 + i)) && nat_lt (2 ^ (7936 + i)) ((t + 1) ^ 256)

-- "Its rule .. is shown for the table as a whole": it has 256 entries, and each keeps the rule at its place
unfoldable pub is_ladder_table : List ℕ → Bool
is_ladder_table table = length table == 256 && every has_rule 0 table
