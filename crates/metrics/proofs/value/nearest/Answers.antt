-- Both numbers are below 2^53, so each is a double exactly (`one-division`).
use Prim.Native.Nat.{ℕ, ◌^◌, ◌≤◌, ◌<◌}
use native.Mathlib.Nat.{pow-le-pow_right, one-le-pow}
use native.Mathlib.Omega.{arith}
use mathlib.Core.Path.{◌≡◌, ◌∙◌, ap}
use mathlib.Core.Bool.{false}
use lib.Dec.{le→leb}
use lib.Ieee.{in_float, round, binary64}
use Rattle.metrics.proofs.Divided.{one-division}
use Rattle.metrics.proofs.value.nearest.Goals as goal

power_below : (r k : ℕ) → r ≡ 10 ^ k → k < 15 → r ≤ 10 ^ 14
power_below r k e l = omega (arith, pow-le-pow_right {n = 10} (omega arith) {i = k} {j = 14} (omega arith))

power-some : (r k : ℕ) → r ≡ 10 ^ k → 0 < r
power-some r k e = omega (arith, one-le-pow k 10 (omega arith))

pub int_to_float-result : goal.int_to_float-result
unfolding in_float
int_to_float-result c = le→leb c.args.m (2 ^ 53) (omega arith)

pub int_to_float-result-2 : goal.int_to_float-result-2
unfolding in_float
int_to_float-result-2 c = le→leb c.pow10.result (2 ^ 53) (omega (arith, power_below _ _ c.pow10.ensures (omega arith)))

pub returns : goal.returns
returns c =
    let p = c.pow10 in
    let m = c.args.m in
    one-division m p.result (omega arith) (omega (arith, power_below _ _ p.ensures (omega arith))) (power-some _ _ p.ensures)
    ∙ ap (round binary64 false m) p.ensures
