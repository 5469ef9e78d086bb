-- Numbers as a campaign script writes them: a list of bytes, read as a number or as none.
use Rattle.std.specs.Prelude.{ℕ, zero, suc, ◌+◌, ◌*◌, ◌-◌, ◌^◌, Bool, true, ◌&&◌, cond, List, [], ◌∷◌, length, ltb, leb, eqb, ℤ, pos, negsuc, Float}
use Rattle.std.specs.Prelude.{Option, Some, None, is_some, option_map, option_and_then, unwrap_or}
use Rattle.std.specs.Bool.{then_some}
use Prim.Native.Char.{Char, code}
use Rattle.std.specs.Float.Ieee.{of_bits}
use Rattle.std.specs.Float.{binary64}

abbrev pub between : Char → Char → ℕ → Bool
between first last b = leb (code first) b && leb b (code last)

-- the value of a digit: `0` to `9`, then `a` to `f`, "low case"; any other byte is none
unfoldable pub digit_of : ℕ → Option ℕ
digit_of b = cond (between "0" "9" b) (Some (b - code "0")) (cond (between "a" "f" b) (Some (b - code "a" + 10)) None)

-- what a byte counts for: its value; 99, which no base below 100 has, where it is no digit
abbrev pub counted : ℕ → ℕ
counted b = unwrap_or (digit_of b) 99

-- the value of a digit of the base; any other byte is none
abbrev pub digit_in : ℕ → ℕ → Option ℕ
digit_in base b = then_some (ltb (counted b) base) (counted b)

-- each byte is a digit of the base
unfoldable pub all_digits : ℕ → List ℕ → Bool
all_digits base [] = true
all_digits base (b ∷ bs) = is_some (digit_in base b) && all_digits base bs

-- the number that digits spell, the most significant first, after digits that spell v
unfoldable pub spelt_after : ℕ → ℕ → List ℕ → ℕ
spelt_after base v [] = v
spelt_after base v (b ∷ bs) = spelt_after base (v * base + counted b) bs

-- the number that bytes spell after v, where they are digits and it fits 64 bits
abbrev pub number_after : ℕ → ℕ → List ℕ → Option ℕ
number_after base v s = cond (all_digits base s && ltb (spelt_after base v s) (2 ^ 64)) (Some (spelt_after base v s)) None

abbrev pub number_of : ℕ → List ℕ → Option ℕ
number_of base s = number_after base 0 s

-- "Whole numbers are decimal, one digit or more, leading zeros allowed"
unfoldable pub whole_of : List ℕ → Option ℕ
whole_of s = cond (eqb (length s) 0) None (number_of 10 s)

-- "16 hexadecimal digits, low case"
unfoldable pub pattern_of : List ℕ → Option ℕ
pattern_of s = cond (eqb (length s) 16) (number_of 16 s) None

-- the double of a bit pattern: "any NaN pattern reads as NaN", which is what `of_bits` gives for it
abbrev pub real_of : ℕ → Float
real_of w = of_bits binary64 w

-- "A double is written as its bit pattern"
unfoldable pub double_of : List ℕ → Option Float
double_of s = option_map real_of (pattern_of s)

-- n as a signed number, where it is below 2^63
unfoldable pub plain : ℕ → Option ℤ
plain n = cond (ltb n (2 ^ 63)) (Some (pos n)) None

abbrev pub minusℕ : ℕ → ℤ
minusℕ zero = pos 0
minusℕ (suc k) = negsuc k

-- -n, where n is at most 2^63
unfoldable pub negated : ℕ → Option ℤ
negated n = cond (leb n (2 ^ 63)) (Some (minusℕ n)) None

-- "an optional minus in front of signed ones"
unfoldable pub int_of : List ℕ → Option ℤ
int_of [] = None
int_of (b ∷ bs) = cond (eqb b (code "-")) (option_and_then negated (whole_of bs)) (option_and_then plain (whole_of (b ∷ bs)))
