-- The first k limbs are t^k.
use Rattle.std.proofs.Common.{◌≡◌, ◌^◌, length, take}
use Rattle.ladder_table.specs.Number.{value}
use Rattle.ladder_table.proofs.number.power.Given as goal

abbrev pub invariant-loop-k : goal.invariant-loop-k
invariant-loop-k l = record { long : length l.limbs ≡ 256; power : value (take l.k l.limbs) ≡ l.t ^ l.k }
