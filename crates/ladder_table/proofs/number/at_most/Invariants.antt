-- The limbs that are left tell, and where they are the same the answer so far.
use Rattle.std.proofs.Common.{◌≡◌, leb, length}
use Rattle.ladder_table.specs.Number.{value}
use Rattle.ladder_table.proofs.Order.{decided}
use Rattle.ladder_table.proofs.number.at_most.Given as goal

abbrev pub invariant-loop-x : goal.invariant-loop-x
invariant-loop-x l =
    let xs = l.x-iterator.a.rest.now in
    let ys = l.x-iterator.b.rest.now in
    record { as_many : length xs ≡ length ys; told : decided l.answer (value xs) (value ys) ≡ leb (value l.fn.a) (value l.fn.b) }
