-- One turn of the loop that reads digits, by what is left to read. A number once past 64 bits stays past them, whatever follows.
use Rattle.std.proofs.Common.{◌≡◌, ℕ, ◌+◌, ◌*◌, ◌<◌, ◌≤◌, ◌^◌, List, [], ◌∷◌, length, get_or, drop, ltb, Some, None, refl, ◌∙◌, arith, drop-cons, add-one}
use Rattle.std.specs.Bool.{then_some}
use Rattle.std.proofs.Math.ListN.{drop_of_length-le}
use Rattle.std.proofs.Math.Nat.{le_trans, mul-le-mul_left, mul-one}
use Rattle.std.proofs.Math.Bool.{and-false}
use Rattle.std.proofs.lemmas.Bool.{lt-ltb, le-ltb}
use Rattle.std.proofs.lemmas.Bool.Decides.{nat_tests}
use Rattle.numbers.specs.Numbers.{digit_of, digit_in, counted, all_digits, spelt_after, number_after}

-- a digit of a base counts for less than the base
pub digit_in-some : (base b d : ℕ) → digit_in base b ≡ Some d → (counted b ≡ d) × (d < base)
digit_in-some base b d = go (counted b)
  where
    go : (e : ℕ) → then_some (ltb e base) e ≡ Some d → (e ≡ d) × (d < base)
    go e h = grind (arith, nat_tests)

-- every digit is one of base 16
pub sixteen : (b : ℕ) → digit_in 16 b ≡ digit_of b
unfolding digit_of
sixteen b = grind (arith, nat_tests)

-- more digits make no number smaller
grows : (base : ℕ) → 0 < base → (s : List ℕ) (v : ℕ) → v ≤ spelt_after base v s
unfolding spelt_after
grows base p [] v = omega arith
grows base p (b ∷ bs) v = le_trans (up v (counted b)) (grows base p bs (v * base + counted b))
  where
    up : (v d : ℕ) → v ≤ v * base + d
    up v d = omega (arith, mul-le-mul_left {m = 1} {n = base} v p, mul-one v)

spelt-cons : (base v b : ℕ) (bs : List ℕ) → spelt_after base v (b ∷ bs) ≡ spelt_after base (v * base + counted b) bs
unfolding spelt_after
spelt-cons base v b bs = refl

module _ (base : ℕ) (s : List ℕ) (i v : ℕ) where
  pub no_digit : i < length s → digit_in base (get_or s i 0) ≡ None → number_after base v (drop i s) ≡ None
  unfolding all_digits
  no_digit h e = rw (drop-cons s i 0 h, e)

  pub next : (d : ℕ) → i < length s → digit_in base (get_or s i 0) ≡ Some d
      → number_after base v (drop i s) ≡ number_after base (v * base + d) (drop (i + 1) s)
  unfolding all_digits
  next d h e = let (is, below) = digit_in-some base (get_or s i 0) d e in rw (drop-cons s i 0 h, add-one i, e, spelt-cons, is)

  pub at-end : length s ≤ i → v < 2 ^ 64 → number_after base v (drop i s) ≡ Some v
  unfolding all_digits spelt_after
  at-end h l = rw (drop_of_length-le s h, lt-ltb v (2 ^ 64) l)

too_far : (base : ℕ) → 0 < base → (s : List ℕ) (v : ℕ) → 2 ^ 64 ≤ v → number_after base v s ≡ None
too_far base p s v l = rw (le-ltb (spelt_after base v s) (2 ^ 64) (le_trans l (grows base p s v)), and-false (all_digits base s))

pub too_large : (base : ℕ) (s : List ℕ) (i v d : ℕ) → i < length s → digit_in base (get_or s i 0) ≡ Some d → 2 ^ 64 ≤ v * base + d
    → number_after base v (drop i s) ≡ None
too_large base s i v d h e m =
    let (is, below) = digit_in-some base (get_or s i 0) d e in
    next base s i v d h e ∙ too_far base (omega arith) (drop (i + 1) s) (v * base + d) m

pub ruleset turns = (no_digit, next, at-end, too_large)
