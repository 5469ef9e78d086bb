-- R from octave to octave: R(p) is R(p + 256 k) less k binary digits, R(256 k) is 2^k, and R is below 2^k before it.
use Rattle.std.proofs.Common.{◌≡◌, ℕ, ◌+◌, ◌*◌, ◌/◌, ◌^◌, ◌<◌, sym, refl, subst, le_of_eq, lt_of_le_of_lt, arith}
use native.Mathlib.Nat.{pow-lt-pow_left}
use lib.Pow.{pow-lt}
use Rattle.ladder.specs.Rungs.{rung}
use Rattle.ladder.proofs.Powers.{pow-mul, digits-less}
use Rattle.ladder.proofs.Rungs.{only, rung-is, below-root}

pub rung-less : (p k : ℕ) → rung (p + 256 * k) / 2 ^ k ≡ rung p
rung-less p k = only p (rung (p + 256 * k) / 2 ^ k) (digits-less p k (rung (p + 256 * k)) (p + 256 * k) refl (rung-is (p + 256 * k)))

pub rung-octave : (k : ℕ) → rung (256 * k) ≡ 2 ^ k
rung-octave k = sym (only (256 * k) (2 ^ k) (record {
  at_most = le_of_eq (pow-mul 2 k 256);
  below = subst (λ (x : ℕ). x < (2 ^ k + 1) ^ 256) (pow-mul 2 k 256) (pow-lt-pow_left (omega arith) (λ e. omega (arith, e)));
}))

pub under-octave : (p k : ℕ) → p < 256 * k → rung p < 2 ^ k
under-octave p k h = below-root (rung p) (2 ^ k) (subst (λ (x : ℕ). rung p ^ 256 < x) (sym (pow-mul 2 k 256)) (lt_of_le_of_lt (rung-is p).at_most (pow-lt h)))
