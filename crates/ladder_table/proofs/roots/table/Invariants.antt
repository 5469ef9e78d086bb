-- Each entry so far is the whole part for its place.
use Rattle.std.proofs.Common.{ℕ, ◌+◌, ◌<◌, ◌≡◌, length, get_or}
use Rattle.ladder.specs.Rungs.{WholePart}
use Rattle.ladder_table.proofs.roots.table.Given as goal

abbrev pub invariant-loop-i : goal.invariant-loop-i
invariant-loop-i l = record {
  long : length l.table ≡ 256;
  so_far : (k : ℕ) → k < l.i → WholePart (7936 + k) (get_or l.table k 0);
}
