-- `select_random_indices` meets its contract: each index is drawn from the generator that the one before it left.
use Rattle.std.proofs.Common.{arith}
use borrow.Author.Rules.{rules}
use Rattle.evolution.proofs.Apart.{drew-index, got-three, got-two}
use Rattle.evolution.proofs.select.select_random_indices.Goals as goal

pub select_random_index-r2-requires : goal.select_random_index-r2-requires
select_random_index-r2-requires c = (search rules, omega (arith, drew-index _ _ _ _ _ c.select_random_index-r1.ensures))

pub select_random_index-r3-requires : goal.select_random_index-r3-requires
select_random_index-r3-requires c = (search rules, omega (arith, drew-index _ _ _ _ _ c.select_random_index-r1.ensures, drew-index _ _ _ _ _ c.select_random_index-r2.ensures))

pub returns-then-count-eq3 : goal.returns-then-count-eq3
returns-then-count-eq3 c = got-three _ _ _ _ _ _ _ _ c.select_random_index-r1.ensures c.select_random_index-r2.ensures _ _ c.if-count-eq3.true c.select_random_index-r3.ensures

pub returns-else-count-eq3 : goal.returns-else-count-eq3
returns-else-count-eq3 c = got-two _ _ _ _ _ _ _ _ c.select_random_index-r1.ensures c.select_random_index-r2.ensures c.if-count-eq3.false
