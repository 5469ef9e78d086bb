-- The largest and the least number that passes a test.
use Rattle.std.specs.Prelude.{ℕ, zero, suc, Bool, cond}

-- the largest number up to n that passes; 0 where none does
unfoldable pub largest : (ℕ → Bool) → ℕ → ℕ
largest passes zero = zero
largest passes (suc n) = cond (passes (suc n)) (suc n) (largest passes n)

-- the least number that passes; n where none below n does
unfoldable pub least : (ℕ → Bool) → ℕ → ℕ
least passes zero = zero
least passes (suc n) = cond (passes zero) zero (suc (least (λ (k : ℕ). passes (suc k)) n))
