-- What is written is read back: the digits that `io::decimal` and `io::hex` write are digits of their base and spell the number, by induction on how many.
use Prim.Native.Nat.{ℕ, zero, suc, ◌+◌, ◌*◌, ◌/◌, ◌%◌, ◌^◌, ◌≤◌, ◌<◌}
use mathlib.Core.Path.{◌≡◌, refl, ◌∙◌, ap, sym}
use mathlib.Core.Bool.{Bool, true, ◌&&◌, and-true, and_assoc}
use mathlib.Core.List.{List, [], ◌∷◌, ◌++◌}
use native.Mathlib.Numerals.{add-one}
use native.Mathlib.Omega.{arith}
use native.Mathlib.Nat.{div-add-mod', div-lt_iff_lt-mul, mod-lt, pow-suc, pow-zero}
use lib.Dec.{T}
use lib.Ieee.{Float, fits, to_bits, binary64}
use lib.Ieee.Bits.{of_bits-to_bits, to_bits-lt}
use lib.ListN.{length, length-append}
use borrow.Author.Tests.{lt-ltb, ne_eqb}
use Rattle.std.proofs.lemmas.Bool.Decides.{nat_tests}
use Rattle.io.specs.Digits.{last_digits, hex_digit_ascii}
use Rattle.std.specs.Prelude.{Some, is_some}
use Rattle.numbers.specs.Numbers.{digit_of, digit_in, counted, all_digits, spelt_after, number_of, whole_of, pattern_of, double_of}

of-glyph : (d : ℕ) → d < 16 → digit_of (hex_digit_ascii d) ≡ Some d
unfolding digit_of
of-glyph d h = grind (arith, nat_tests)

spelt-snoc : (base : ℕ) (s : List ℕ) (b v : ℕ) → spelt_after base v (s ++ (b ∷ [])) ≡ spelt_after base v s * base + counted b
unfolding spelt_after
spelt-snoc base [] b v = refl
spelt-snoc base (a ∷ s) b v = spelt-snoc base s b (v * base + counted a)

digits-snoc : (base : ℕ) (s : List ℕ) (b : ℕ) → all_digits base (s ++ (b ∷ [])) ≡ all_digits base s && is_some (digit_in base b)
unfolding all_digits
digits-snoc base [] b = and-true (is_some (digit_in base b))
digits-snoc base (x ∷ s) b =
    ap (λ (t : Bool). is_some (digit_in base x) && t) (digits-snoc base s b)
    ∙ sym (and_assoc (is_some (digit_in base x)) (all_digits base s) (is_some (digit_in base b)))

module _ (base : ℕ) (two : 1 < base) (few : base ≤ 16) where
  last : (n : ℕ) → digit_of (hex_digit_ascii (n % base)) ≡ Some (n % base)
  last n = of-glyph (n % base) (omega (arith, mod-lt n {m = base} (omega arith)))

  are-digits : (k n : ℕ) → all_digits base (last_digits base k n) ≡ true
  unfolding all_digits
  are-digits zero n = refl
  are-digits (suc k) n =
      digits-snoc base (last_digits base k (n / base)) (hex_digit_ascii (n % base))
      ∙ rw (are-digits k (n / base), last n, lt-ltb (n % base) base (mod-lt n (omega arith))) refl

  spell : (k n : ℕ) → n < base ^ k → spelt_after base 0 (last_digits base k n) ≡ n
  unfolding spelt_after
  spell zero n h = omega (arith, pow-zero base)
  spell (suc k) n h =
      spelt-snoc base (last_digits base k (n / base)) (hex_digit_ascii (n % base)) 0
      ∙ rw (spell k (n / base) ((div-lt_iff_lt-mul (omega arith)).1 (rw (← pow-suc base k) h)), last n) (div-add-mod' n base)

  read_back : (k n : ℕ) → n < base ^ k → n < 2 ^ 64 → number_of base (last_digits base k n) ≡ Some n
  read_back k n h l = rw (are-digits k n, spell k n h, lt-ltb n (2 ^ 64) l)

  count : (k n : ℕ) → length (last_digits base k n) ≡ k
  count zero n = refl
  count (suc k) n = rw (length-append (last_digits base k (n / base)) (hex_digit_ascii (n % base) ∷ []), count k (n / base)) (add-one k)

-- a whole number as `io::decimal` writes it
pub decimal-read-back : (k n : ℕ) → 0 < k → n < 10 ^ k → n < 2 ^ 64 → whole_of (last_digits 10 k n) ≡ Some n
unfolding whole_of
decimal-read-back k n z h l = rw (count 10 (omega arith) (omega arith) k n, ne_eqb k 0 (λ e. omega arith)) (read_back 10 (omega arith) (omega arith) k n h l)

-- a bit pattern as `io::hex` writes it at 16 digits
pub hex-read-back : (n : ℕ) → n < 2 ^ 64 → pattern_of (last_digits 16 16 n) ≡ Some n
unfolding pattern_of
hex-read-back n l = rw (count 16 (omega arith) (omega arith) 16 n) (read_back 16 (omega arith) (omega arith) 16 n l l)

-- a double by its bit pattern
pub double-read-back : (x : Float) → T (fits binary64 x) → double_of (last_digits 16 16 (to_bits binary64 x)) ≡ Some x
unfolding double_of
double-read-back x f = rw (hex-read-back (to_bits binary64 x) (to_bits-lt binary64 x f)) (ap Some (of_bits-to_bits binary64 x f))
