-- A unit is exactly (output >> 11) / 2 ^ 53: so it is finite, at least 0 and below 1.
use Rattle.std.proofs.Common.{◌≡◌, ℕ, ◌*◌, ◌/◌, ◌^◌, ◌<◌, true, false, T, pos, negsuc, sym, refl, ap, ◌∙◌, subst, true≢false, zero-le, lt_trans, lt_of_le_of_lt, le_of_lt, mod-lt, mul_assoc, mul_comm, lt_of_mul-lt-mul_right, mul-lt-mul_of_pos_right, mul-pos, one-mul, mul-one, lit<, lt→ltb, pow_pos, shl_lt, shr_lt}
use lib.Pow.{shr_le, pow-lt}
use lib.Ieee.{Float, nan, inf, fin, binary64, up, down, mul, of_int, round, lt, le}
use lib.Ieee.Fits.{down_pos}
use lib.Ieee.Exact.{HasValue, round_exact}
use lib.Ieee.Back.{round_whole}
use lib.Ieee.Scale.{round_same}
use lib.Ieee.Order.{le_of_values}
use lib.Bits.{xor_lt}
use Rattle.rng_util.specs.SplitMix.{drawn, grown, folded, mixed, output_of}
use Rattle.rng_util.specs.Draws.{unit_of}

-- x is n, so x × 2 ^ -53 is n / 2 ^ 53 rounded
scaled : (x : Float) (n : ℕ) → HasValue x false n 1 → mul binary64 x (fin false 1 (negsuc 52)) ≡ round binary64 false n (2 ^ 53)
unfolding mul
scaled nan n h = absurd h
scaled (inf s) n h = absurd h
scaled (fin true m e) n h = absurd (true≢false h.0)
scaled (fin false m e) n h =
    round_same binary64 false (m * up e * 1) (down e * 2 ^ 53) n (2 ^ 53) (mul-pos (down_pos e) (pow_pos 53)) (pow_pos 53)
    (ap (λ (k : ℕ). k * 2 ^ 53) h.1 ∙ mul_assoc n (down e) (2 ^ 53))

pub unit-value : (output : ℕ) → output < 2 ^ 64 → HasValue (unit_of output) false (output / 2 ^ 11) (2 ^ 53)
unfolding unit_of of_int
unit-value output h =
    let n = output / 2 ^ 11 in
    let small : n < 2 ^ 53 = shr_lt 53 11 h in
    subst (λ (x : Float). HasValue x false n (2 ^ 53)) (sym (scaled (round binary64 false n 1) n (round_whole binary64 false n (le_of_lt small))))
    (round_exact binary64 false n (2 ^ 53) n 1021 (pow_pos 53) small (lt_trans (shl_lt 53 1021 small) (pow-lt {i = 1074} {j = 2098} (lit< tt))) (sym (mul_assoc n (2 ^ 1021) (2 ^ 53))))

-- a fraction below 1
below_one : (x : Float) (a c : ℕ) → 0 < c → HasValue x false a c → a < c → T (lt x (fin false 1 (pos 0)))
unfolding lt
below_one nan a c p h l = absurd h
below_one (inf s) a c p h l = absurd h
below_one (fin true m e) a c p h l = absurd (true≢false h.0)
below_one (fin false m e) a c p h l =
    lt→ltb (m * up e * 1) (1 * down e)
    (rw (mul-one, one-mul)
    (lt_of_mul-lt-mul_right c (subst (λ (k : ℕ). k < down e * c) (sym h.1) (rw (mul_comm (down e) c) (mul-lt-mul_of_pos_right l (down_pos e))))))

pub unit-below-one : (output : ℕ) → output < 2 ^ 64 → T (lt (unit_of output) (fin false 1 (pos 0)))
unit-below-one output h = below_one (unit_of output) (output / 2 ^ 11) (2 ^ 53) (pow_pos 53) (unit-value output h) (shr_lt 53 11 h)

pub unit-at-least-zero : (output : ℕ) → output < 2 ^ 64 → T (le (fin false 0 (pos 0)) (unit_of output))
unit-at-least-zero output h = le_of_values (fin false 0 (pos 0)) (unit_of output) 0 1 (output / 2 ^ 11) (2 ^ 53) (pow_pos 0) (pow_pos 53) (refl, refl) (unit-value output h) zero-le

-- an output is a word, so all of this holds of every unit that is drawn
pub output-word : (z : ℕ) → output_of z < 2 ^ 64
unfolding output_of
output-word z = folded-word (mixed (mixed z 30 0xbf58_476d_1ce4_e5b9) 27 0x94d0_49bb_1331_11eb) (mod-lt _ (pow_pos 64))
  where
    folded-word : (y : ℕ) → y < 2 ^ 64 → folded y 31 < 2 ^ 64
    folded-word y h = xor_lt 64 y (y / 2 ^ 31) h (lt_of_le_of_lt (shr_le y 31) h)

pub drawn-below-one : (word : ℕ) → T (lt (unit_of (drawn word).output) (fin false 1 (pos 0)))
unfolding drawn
drawn-below-one word = unit-below-one (output_of (grown word)) (output-word (grown word))
