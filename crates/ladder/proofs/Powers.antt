-- Powers of products: k binary digits less of the whole part of 2^((p + 256 k)/256) are the whole part of 2^(p/256).
use Rattle.std.proofs.Common.{◌≡◌, ℕ, zero, suc, ◌+◌, ◌*◌, ◌/◌, ◌^◌, ◌<◌, ◌≤◌, sym, ap, ◌∙◌, subst, le_trans, lt_of_lt_of_le, suc-mul, pow-add, pow_pos, arith}
use native.Mathlib.Nat.{pow-zero, pow-suc, zero-mul, pow-le-pow_left, div-mul-le_self, lt-div-mul-add, le_of_mul-le-mul_right, lt_of_mul-lt-mul_right}
use Rattle.std.proofs.lemmas.Nat.{mul-pow}
use Rattle.ladder.specs.Rungs.{WholePart}

pub pow-mul : (a k n : ℕ) → (a ^ k) ^ n ≡ a ^ (n * k)
pow-mul a k zero = pow-zero (a ^ k) ∙ sym (ap (λ (x : ℕ). a ^ x) (zero-mul k) ∙ pow-zero a)
pow-mul a k (suc n) =
    pow-suc (a ^ k) n ∙ ap (λ (x : ℕ). x * a ^ k) (pow-mul a k n) ∙ sym (pow-add a (n * k) k) ∙ ap (λ (x : ℕ). a ^ x) (sym (suc-mul n k))

-- t is the whole part of 2^(e/n), and e is p + n k
module _ (n p k t e : ℕ) (is : e ≡ p + n * k) where
  scaled : 2 ^ e ≡ 2 ^ p * (2 ^ k) ^ n
  scaled = ap (λ (x : ℕ). 2 ^ x) is ∙ pow-add 2 p (n * k) ∙ ap (λ (x : ℕ). 2 ^ p * x) (sym (pow-mul 2 k n))

  some : 0 < (2 ^ k) ^ n
  some = subst (λ (x : ℕ). 0 < x) (sym (pow-mul 2 k n)) (pow_pos (n * k))

  less-at-most : t ^ n ≤ 2 ^ e → (t / 2 ^ k) ^ n ≤ 2 ^ p
  less-at-most h =
      let less : (t / 2 ^ k) ^ n * (2 ^ k) ^ n ≤ t ^ n = subst (λ (x : ℕ). x ≤ t ^ n) (mul-pow (t / 2 ^ k) (2 ^ k) n) (pow-le-pow_left (div-mul-le_self t (2 ^ k)) n) in
      le_of_mul-le-mul_right (le_trans less (subst (λ (x : ℕ). t ^ n ≤ x) scaled h)) some

  less-below : 2 ^ e < (t + 1) ^ n → 2 ^ p < (t / 2 ^ k + 1) ^ n
  less-below h =
      let up : t + 1 ≤ (t / 2 ^ k + 1) * 2 ^ k = omega (arith, lt-div-mul-add {a = t} (pow_pos k)) in
      let more : (t + 1) ^ n ≤ (t / 2 ^ k + 1) ^ n * (2 ^ k) ^ n = subst (λ (x : ℕ). (t + 1) ^ n ≤ x) (mul-pow (t / 2 ^ k + 1) (2 ^ k) n) (pow-le-pow_left up n) in
      lt_of_mul-lt-mul_right ((2 ^ k) ^ n) (lt_of_lt_of_le (subst (λ (x : ℕ). x < (t + 1) ^ n) scaled h) more)

pub digits-less : (p k t e : ℕ) → e ≡ p + 256 * k → WholePart e t → WholePart p (t / 2 ^ k)
digits-less p k t e is w = record { at_most = less-at-most 256 p k t e is w.at_most; below = less-below 256 p k t e is w.below }
