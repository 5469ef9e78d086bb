-- Whole steps from low to high: there are gap / step of them, so k × step lies in the gap for each drawn k.
use Rattle.std.proofs.Common.{◌≡◌, ℕ, ◌+◌, ◌*◌, ◌/◌, ◌%◌, ◌^◌, ◌<◌, ◌≤◌, ℤ, pos, ◌-ℤ◌, ◌*ℤ◌, unsigned_abs, int_div, ◌≤ℤ◌, ◌<ℤ◌, ap, ◌∙◌, div-le_self, mul-le-mul_right, mod-lt, div-add-mod', zero-add, add-zero, arith, w64, SFits, to_z, of_z}
use Rattle.std.proofs.lemmas.Int.{ints, to_z-of_z, quot_is, quot_fits}
use Rattle.rng_util.specs.Draws.{i64_of}

-- `i64(0..=n)` is output mod (n + 1)
from_zero : (output n : ℕ) → i64_of output (pos 0) (pos n) ≡ pos (output % (n + 1))
from_zero output n = ap pos (zero-add (output % (n + 0 + 1)) ∙ ap (λ (m : ℕ). output % (m + 1)) (add-zero n))

product : (output n s : ℕ) → output % (n / s + 1) * s ≤ n
product output n s =
    let k : output % (n / s + 1) < n / s + 1 = mod-lt output {m = n / s + 1} (omega arith) in
    let a : output % (n / s + 1) * s ≤ n / s * s = mul-le-mul_right s (omega arith) in
    omega (arith, div-add-mod' n s)

-- what the code computes: the number of steps as the machine reads it back, and where k × step lies
pub record Strides (low high step : ℤ) (output : ℕ) : Type 0 where
  pub kept : to_z w64 (of_z w64 (int_div (to_z w64 (of_z w64 (to_z w64 (of_z w64 high) -ℤ to_z w64 (of_z w64 low)))) (to_z w64 (of_z w64 step)))) ≡ int_div (high -ℤ low) step
  pub some : pos 0 ≤ℤ int_div (high -ℤ low) step
  pub few : unsigned_abs (int_div (high -ℤ low) step) ≤ 2 ^ 54
  pub up : pos 0 ≤ℤ (i64_of output (pos 0) (int_div (high -ℤ low) step) *ℤ step)
  pub within : (i64_of output (pos 0) (int_div (high -ℤ low) step) *ℤ step) ≤ℤ (high -ℤ low)

pub strides : (low high step : ℤ) (output : ℕ) → SFits w64 step → (low ≤ℤ high) × (unsigned_abs low ≤ 2 ^ 53) × (unsigned_abs high ≤ 2 ^ 53) → pos 0 <ℤ step
    → Strides low high step output
strides low high step output f q u =
    let n = unsigned_abs (high -ℤ low) in
    let s = unsigned_abs step in
    let l : SFits w64 low = record { sfits = grind (arith, ints) } in
    let h : SFits w64 high = record { sfits = grind (arith, ints) } in
    let g : SFits w64 (high -ℤ low) = grind (arith, ints) in
    let gap-is : high -ℤ low ≡ pos n = grind (arith, ints) in
    let step-is : step ≡ pos s = grind (arith, ints) in
    let count : int_div (high -ℤ low) step ≡ pos (n / s) = λ i. int_div (gap-is i) (step-is i) in
    let drawn : i64_of output (pos 0) (int_div (high -ℤ low) step) *ℤ step ≡ pos (output % (n / s + 1) * s) =
    (λ i. i64_of output (pos 0) (count i) *ℤ step-is i) ∙ ap (λ (k : ℤ). k *ℤ pos s) (from_zero output (n / s)) in
    let small : n ≤ 2 ^ 54 = grind (arith, ints) in
    record {
      kept = simp (to_z-of_z w64 low l, to_z-of_z w64 high h) (quot_is w64 (high -ℤ low) step g f (quot_fits w64 _ _ g u));
      some = rw count (grind (arith, ints));
      few = rw count (omega (arith, div-le_self n s));
      up = rw drawn (grind (arith, ints));
      within = rw (drawn, gap-is) (grind (arith, ints, product output n s));
    }
