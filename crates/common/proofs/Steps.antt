-- from + k × step, clamped: in 128 bits no such sum is out of range, and where k is past 64 bits it may be cut there, since the sum is past low or high either way.
use Rattle.std.proofs.Common.{◌≡◌, ℕ, zero, suc, ◌-◌, ◌*◌, ◌^◌, ◌≤◌, min, Bool, true, false, ltb, ℤ, pos, negsuc, ◌+ℤ◌, ◌-ℤ◌, ◌*ℤ◌, neg_ℤ, unsigned_abs, ◌≤ℤ◌, sym, refl, ap, ◌∙◌, mul-zero, arith, w64, SFits, to_z, of_z, ltb-false, ltb-true}
use Rattle.std.proofs.Math.Nat.{mul-le-mul}
use Rattle.std.proofs.lemmas.Int.{ints, to_z-of_z, unsigned_abs-mul, fits_signed_from_abs}
use Rattle.std.specs.Int.{w128}
use lib.Ieee.{Float, binary64, lt, of_bits}
use Rattle.rounding.specs.Round.{whole_size, whole_z}
use Rattle.rounding.proofs.Wholes.{above_zero, not-above}
use Rattle.common.specs.FromInternal.{clamp_z}

abbrev pub most : ℕ
most = 2 ^ 64 - 1

-- z, cut at 64 bits and a sign
abbrev pub cut : ℤ → ℤ
cut z = clamp_z z (neg_ℤ (pos most)) (pos most)

-- ---- q to the nearest whole number: its sign is that of q

pub whole-above : (q : Float) (n : ℕ) → lt (of_bits binary64 0) q ≡ true → n ≡ min (whole_size q) most → pos n ≡ cut (whole_z q)
unfolding clamp_z
whole-above q n e f = rw (f, above_zero q e) (grind arith)

pub whole-below : (q : Float) (n : ℕ) → lt (of_bits binary64 0) q ≡ false → n ≡ min (whole_size q) most → pos 0 -ℤ pos n ≡ cut (whole_z q)
unfolding clamp_z
whole-below q n e f = rw (f, not-above q e) (grind (arith, ints))

pub ruleset wholes = (whole-above, whole-below)

-- ---- a number alone

pub unstepped : (z low high : ℤ) → SFits w64 low → SFits w64 high → clamp_z z low high ≡ clamp_z (cut z) low high
unfolding clamp_z
unstepped z low high l h = grind (arith, ints)

-- ---- the sum fits, so the machine reads it back as it is

product-size : (z step : ℤ) → SFits w64 step → unsigned_abs (cut z *ℤ step) ≤ most * 2 ^ 63
unfolding clamp_z
product-size z step s = rw (unsigned_abs-mul (cut z) step) (mul-le-mul {n₂ = most} {m₂ = 2 ^ 63} (grind (arith, ints)) (grind (arith, ints)))

pub product-fits : (z step : ℤ) → SFits w64 step → SFits w128 (cut z *ℤ step)
product-fits z step s = fits_signed_from_abs w128 _ (omega (arith, product-size z step s))

pub sum-fits : (z from step : ℤ) → SFits w64 from → SFits w64 step → SFits w128 (from +ℤ cut z *ℤ step)
sum-fits z from step f s = let p = product-size z step s in grind (arith, ints)

pub ruleset sums = (to_z-of_z, product-fits, sum-fits)

sum-kept : (z from step : ℤ) → SFits w64 from → SFits w64 step → to_z w128 (of_z w128 (from +ℤ to_z w128 (of_z w128 (cut z *ℤ step)))) ≡ from +ℤ cut z *ℤ step
sum-kept z from step f s = rw (to_z-of_z w128 _ (product-fits z step s), to_z-of_z w128 _ (sum-fits z from step f s)) refl

-- ---- the sum, clamped

more : (n s : ℕ) → n ≤ n * suc s
more n s = omega arith

module _ (from low high : ℤ) (f : SFits w64 from) (l : SFits w64 low) (h : SFits w64 high) where
  over : (z : ℤ) → pos (2 ^ 63 - 1) ≤ℤ z → clamp_z z low high ≡ high
  unfolding clamp_z
  over z o = grind (arith, ints)

  under : (z : ℤ) → z ≤ℤ negsuc (2 ^ 63 - 1) → clamp_z z low high ≡ low
  unfolding clamp_z
  under z o = grind (arith, ints)

  unmoved : (z : ℤ) → z ≡ pos 0 → clamp_z (from +ℤ z) low high ≡ clamp_z from low high
  unmoved z e = ap (λ (y : ℤ). clamp_z y low high) (omega (arith, ints))

  -- the same for each k that is cut, up or down: past the side to which it goes, or nowhere by a step of 0
  far-up : ℤ → ℤ
  far-up (pos zero) = clamp_z from low high
  far-up (pos (suc s)) = high
  far-up (negsuc s) = low

  far-down : ℤ → ℤ
  far-down (pos zero) = clamp_z from low high
  far-down (pos (suc s)) = low
  far-down (negsuc s) = high

  up : (n : ℕ) (step : ℤ) → most ≤ n → clamp_z (from +ℤ pos n *ℤ step) low high ≡ far-up step
  unfolding far-up
  up n (pos zero) g = unmoved _ (ap pos (mul-zero n))
  up n (pos (suc s)) g = over _ (grind (arith, ints, more n s))
  up n (negsuc s) g = under _ (grind (arith, ints, more n s))

  down : (n : ℕ) (step : ℤ) → most ≤ suc n → clamp_z (from +ℤ negsuc n *ℤ step) low high ≡ far-down step
  unfolding far-down
  down n (pos zero) g = unmoved _ (ap (λ (m : ℕ). neg_ℤ (pos m)) (mul-zero (suc n)))
  down n (pos (suc s)) g = under _ (grind (arith, ints, more (suc n) s))
  down n (negsuc s) g = over _ (grind (arith, ints, more (suc n) s))

  cut-same : (z step : ℤ) → clamp_z (from +ℤ z *ℤ step) low high ≡ clamp_z (from +ℤ cut z *ℤ step) low high
  unfolding clamp_z
  cut-same (pos n) step = go (ltb most n) refl
    where
      go : (b : Bool) → ltb most n ≡ b → clamp_z (from +ℤ pos n *ℤ step) low high ≡ clamp_z (from +ℤ cut (pos n) *ℤ step) low high
      go true t = let g = ltb-true most n t in let c : cut (pos n) ≡ pos most = grind (arith, ints) in rw c (up n step (omega arith) ∙ sym (up most step (omega arith)))
      go false t = let g = ltb-false most n t in let c : cut (pos n) ≡ pos n = grind (arith, ints) in rw c
  cut-same (negsuc n) step = go (ltb most (suc n)) refl
    where
      go : (b : Bool) → ltb most (suc n) ≡ b → clamp_z (from +ℤ negsuc n *ℤ step) low high ≡ clamp_z (from +ℤ cut (negsuc n) *ℤ step) low high
      go true t = let g = ltb-true most (suc n) t in let c : cut (negsuc n) ≡ negsuc (most - 1) = grind (arith, ints) in rw c (down n step (omega arith) ∙ sym (down (most - 1) step (omega arith)))
      go false t = let g = ltb-false most (suc n) t in let c : cut (negsuc n) ≡ negsuc n = grind (arith, ints) in rw c

  -- what the code clamps
  pub stepped : (z step : ℤ) → SFits w64 step → clamp_z (from +ℤ z *ℤ step) low high ≡ clamp_z (to_z w128 (of_z w128 (from +ℤ to_z w128 (of_z w128 (cut z *ℤ step))))) low high
  stepped z step s = cut-same z step ∙ ap (λ (y : ℤ). clamp_z y low high) (sym (sum-kept z from step f s))

pub ruleset cuts = (to_z-of_z, unstepped)
