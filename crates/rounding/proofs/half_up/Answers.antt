-- `half_up` meets its contract: a half of 2 ^ k is 2 ^ (k - 1), and both are doubled.
use Rattle.std.proofs.Common.{◌≡◌, ℕ, ◌+◌, ◌-◌, ◌*◌, ◌/◌, ◌^◌, ◌≤◌, get_or, sym, ap, ◌∙◌, zero-lt-suc, arith, pow_pos, pow_mono}
use native.Mathlib.Nat.{mul-div-mul_left, pow-succ'}
use Rattle.rounding.proofs.Entries.{entry-is-power}
use Rattle.rounding.proofs.half_up.Goals as goal

pub overflow_add-result : goal.overflow_add-result
overflow_add-result c =
    let half = entry-is-power c.table-powers.result.now c.table-powers.ensures (c.args.k - 1) (omega arith) in
    let h : get_or c.table-powers.result.now (c.args.k - 1) 0 ≤ 2 ^ 53 = rw half (pow_mono {j = 53} (omega arith)) in
    omega arith

pub nonzero_div-result : goal.nonzero_div-result
nonzero_div-result c = rw (entry-is-power c.table-powers.result.now c.table-powers.ensures c.args.k (omega arith)) (pow_pos _)

pub returns : goal.returns
returns c =
    let k = c.args.k in
    let q = c.args.q in
    let half = entry-is-power c.table-powers.result.now c.table-powers.ensures (k - 1) (omega arith) in
    let whole = entry-is-power c.table-powers.result.now c.table-powers.ensures k (omega arith) in
    let e : 2 ^ k ≡ 2 * 2 ^ (k - 1) = ap (λ (x : ℕ). 2 ^ x) (omega arith) ∙ pow-succ' 2 (k - 1) in
    ap (λ (x : ℕ). (q + x) / get_or c.table-powers.result.now k 0) half
    ∙ ap (λ (x : ℕ). (q + 2 ^ (k - 1)) / x) whole
    ∙ sym (mul-div-mul_left (q + 2 ^ (k - 1)) (2 ^ k) (zero-lt-suc 1))
    ∙ ap (λ (x : ℕ). x / (2 * 2 ^ k)) (omega arith)
