-- How many digits `io::decimal` and `io::hex` write: `Fewest` holds of one number of digits alone, since the powers of the base rise.
use Prim.Native.Nat.{ℕ, zero, suc, ◌+◌, ◌-◌, ◌^◌, ◌≤◌, ◌<◌}
use mathlib.Core.Path.{◌≡◌, refl, ap, sym, ◌∙◌}
use mathlib.Core.Bool.{Bool, true, false, cond}
use native.Mathlib.Omega.{arith}
use native.Mathlib.Nat.{pow-le-pow_right}
use lib.Dec.{leb, ltb}
use lib.Ieee.{Float, binary64, to_bits}
use borrow.Author.Tests.{leb-true, leb-false, ltb-true, ltb-false}
use Rattle.io.specs.Digits.{last_digits, IsDigitCount}
use Rattle.tells.specs.Text.{places_from, whole_text, pattern_text}

-- a power that is above a number is above each power that is not
above : (b : ℕ) {n : ℕ} (j k : ℕ) → 0 < b → b ^ j ≤ n → n < b ^ k → j < k
above b {n} j k p l h = go (leb k j) refl
  where
    go : (t : Bool) → leb k j ≡ t → j < k
    go true e = absurd (omega (arith, pow-le-pow_right {n = b} p {i = k} {j = j} (leb-true k j e)))
    go false e = leb-false k j e

-- where m digits do, no more are written
pub no_more : (b least m : ℕ) {n k : ℕ} → 0 < b → least ≤ m → n < b ^ m → IsDigitCount b least n k → k ≤ m
no_more b least m {n} {k} p l h (low, holds, tight) = go (leb k least) refl
  where
    go : (t : Bool) → leb k least ≡ t → k ≤ m
    go true e = omega (arith, leb-true k least e)
    go false e = omega (arith, leb-false k least e, above b (k - 1) m p (tight (leb-false k least e)) h)

-- the search for the least number of digits ends there
places : (more j : ℕ) {n k : ℕ} → IsDigitCount 10 1 n k → 1 ≤ j → j ≤ k → k ≤ j + more → places_from j more n ≡ k
unfolding places_from
places zero j f o l h = omega arith
places (suc more) j {n} {k} f o l h = go (ltb n (10 ^ j)) refl (λ m. places more (suc j) f (omega arith) m (omega arith))
  where
    go : (t : Bool) → ltb n (10 ^ j) ≡ t → (suc j ≤ k → places_from (suc j) more n ≡ k) → cond t j (places_from (suc j) more n) ≡ k
    go true e rest = omega (arith, no_more 10 1 j (omega arith) o (ltb-true n (10 ^ j) e) f)
    go false e rest = rest (above 10 j k (omega arith) (ltb-false n (10 ^ j) e) f.1)

-- what `io::decimal` writes
pub whole_is : (n k : ℕ) → n < 2 ^ 64 → IsDigitCount 10 1 n k → last_digits 10 k n ≡ whole_text n
unfolding whole_text
whole_is n k h f = ap (λ (j : ℕ). last_digits 10 j n) (sym (places 19 1 f (omega arith) f.0 (no_more 10 1 20 (omega arith) (omega arith) (omega arith) f)))

-- what `io::hex` writes of a bit pattern at 16 digits
pub pattern-is : (x : Float) (w k : ℕ) → w < 2 ^ 64 → w ≡ to_bits binary64 x → IsDigitCount 16 16 w k → last_digits 16 k w ≡ pattern_text x
unfolding pattern_text
pattern-is x w k h e f =
    let l : k ≡ 16 = omega (arith, f.0, no_more 16 16 16 (omega arith) (omega arith) (omega arith) f) in
    ap (λ (j : ℕ). last_digits 16 j w) l ∙ ap (λ (v : ℕ). last_digits 16 16 v) e

pub ruleset widths = (no_more, whole_is, pattern-is)
