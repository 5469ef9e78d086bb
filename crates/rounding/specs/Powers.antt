-- "A constant table of these 64" (document 02, W4): the powers of two from 2^0 to 2^63.
use Rattle.std.specs.Prelude.{ℕ, ◌^◌, Bool, ◌&&◌, List, length, ◌==◌, nat_eq}
use Rattle.rounding.specs.Table.{every}

-- "show in one test over the whole table that entry k is 2^k": it has 64 entries, and entry k is 2 ^ k
unfoldable pub powers_of_two : List ℕ → Bool
powers_of_two table = length table == 64 && every (λ k x. nat_eq x (2 ^ k)) 0 table
