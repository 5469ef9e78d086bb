-- One digit more: it is written at its place, and taken off what is left.
use Rattle.std.proofs.Common.{◌≡◌, ◌+◌, ◌-◌, ◌<◌, length, pos, w64, SFits, arith}
use Rattle.std.proofs.lemmas.Int.{to_z-of_z}
use Rattle.sweep.proofs.Digits.{left-next, written-next}
use Rattle.sweep.proofs.combinations.put.Goals as goal

pub loop-j-preserved : goal.loop-j-preserved
loop-j-preserved c =
    let j = c.loop-j.j - 1 in
    let inside : j < length c.args.axes.now = omega (arith, c.loop-j.auto.j, c.loop-j-test.true) in
    let long : j < length c.args.row.now = omega (arith, inside, c.requires.1) in
    let up : j + 1 ≡ c.loop-j.j = omega (arith, c.loop-j-test.true) in
    let fits : SFits w64 c.value.result = record { sfits = c.value.type_inv } in
    let digit = written-next c.args.axes.now c.args.i c.args.row.now j (record { first = pos 0; step = 0; size = 0 }) inside long in
    let rest = left-next c.args.axes.now c.args.i j (record { first = pos 0; step = 0; size = 0 }) inside in
    let digit-here = rw up at digit in
    let rest-here = rw up at rest in
    (rw (to_z-of_z w64 c.value.result fits, c.value.ensures, c.loop-j.invariant.0, c.loop-j.invariant.1) digit-here, rw c.loop-j.invariant.1 rest-here)
