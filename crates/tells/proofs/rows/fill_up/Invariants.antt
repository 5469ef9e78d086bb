-- So many rows stand in the block, each of 43 bytes at most, and what is left begins behind their entries.
use Rattle.std.proofs.Common.{ℕ, ◌<◌, ◌≡◌, ◌+◌, ◌*◌, ◌≤◌, length, take, drop}
use Rattle.std.specs.Iterator.Adapters.{zip_first, zip_second}
use Rattle.std.specs.Slice.Iter.{iter_rest}
use Rattle.tells.specs.Text.{tell_texts}
use Rattle.tells.proofs.rows.fill_up.Given as goal

abbrev pub invariant-loop-number : goal.invariant-loop-number
invariant-loop-number g l =
    (iter_rest (zip_first l.number-iterator) ≡ drop l.n l.numbers)
    × (iter_rest (zip_second l.number-iterator) ≡ drop l.n l.values)
    × (l.n ≤ length l.numbers)
    × (l.n ≤ length l.values)
    × (length l.block ≤ 43 * l.n)
    × (l.block ≡ tell_texts (take l.n l.numbers) l.values)
    × ((k : ℕ) → k < l.n → length (tell_texts (take k l.numbers) l.values) + 43 ≤ g.row.N)
