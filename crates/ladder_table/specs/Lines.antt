-- "a generator program prints exactly that table, a number a line" (document 02, W9).
use Rattle.std.specs.Prelude.{ℕ, List, ◌++◌, Option, T, codes, decimal, flat_map}
use Rattle.std.specs.Io.KnownBytes.{Appends}
use Rattle.ladder.specs.Table.{is_ladder_table}

-- "a number a line": in decimal, then a line feed
abbrev pub lines : List ℕ → List ℕ
lines numbers = flat_map (λ n. decimal n ++ codes "\n") numbers

-- "exactly that table": whichever list keeps the table's rule, its lines are appended. One list alone keeps it (proofs/Rule).
abbrev pub AppendsTable : Option (List ℕ) → Option (List ℕ) → Type 0
AppendsTable old new = (table : List ℕ) → T (is_ladder_table table) → Appends old new (lines table)
