-- The paper first: R. Storn and K. Price, Differential Evolution, 1997, its printed formulas on doubles. The definitions of steps 3 and 4 follow the Rust;
-- proofs/Paper says where they are these formulas, and where they part. Selection's is in the crate `selection`.
use Rattle.std.specs.Prelude.{Bool, ◌||◌, cond, Float}
use Rattle.std.specs.Float.{binary64}
use Rattle.std.specs.Float.Ieee.{add, sub, mul, le}

-- (2), mutation: v = x_r1 + F (x_r2 - x_r3), of one entry
unfoldable pub paper_mutant : Float → Float → Float → Float → Float
unfolding add sub mul
paper_mutant F x1 x2 x3 = add binary64 x1 (mul binary64 F (sub binary64 x2 x3))

-- (3) and (4), crossover: entry j is the mutant's, v, "if (randb(j) ≤ CR) or j = rnbr(i)", else the parent's, x; u is randb(j), and rnbr(i) is j*
unfoldable pub paper_cross : Float → Bool → Float → Float → Float → Float
unfolding le
paper_cross CR is_star u v x = cond (is_star || le u CR) v x
