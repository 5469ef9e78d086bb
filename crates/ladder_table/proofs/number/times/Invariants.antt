-- The limbs so far, with the carry above them, are t times what they were, and those that are left are as they were.
use Rattle.std.proofs.Common.{◌≡◌, ◌*◌, ◌++◌, [], ◌∷◌, take, drop}
use Rattle.ladder_table.specs.Number.{value}
use Rattle.ladder_table.proofs.number.times.Given as goal

abbrev pub invariant-loop-limb : goal.invariant-loop-limb
invariant-loop-limb l = record {
  product : value (take l.limb-index l.limb-items ++ l.carry ∷ []) ≡ value (take l.limb-index l.fn.limbs) * l.t;
  rest : drop l.limb-index l.limb-items ≡ drop l.limb-index l.fn.limbs;
}
