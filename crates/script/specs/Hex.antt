-- HEX: a word of hexadecimal digits, and the bytes that it puts into a file.
use Rattle.std.specs.Prelude.{ℕ, suc, ◌+◌, ◌*◌, ◌%◌, Bool, ◌&&◌, cond, List, [], ◌∷◌, leb, eqb, length, set, unwrap_or}
use Rattle.numbers.specs.Numbers.{digit_of, all_digits}
use Rattle.script.specs.Words.{word_at}

-- "HEX is an even number, at least two, of hexadecimal digits, low case"
unfoldable pub is_hex : List ℕ → Bool
is_hex w = leb 2 (length w) && eqb (length w % 2) 0 && all_digits 16 w

-- the value of a digit; 0 of any other byte, which HEX does not have
unfoldable pub hex_digit : ℕ → ℕ
hex_digit b = unwrap_or (digit_of b) 0

-- the bytes that hexadecimal digits are, two digits a byte, the high one first
unfoldable pub hex_of : List ℕ → List ℕ
hex_of [] = []
hex_of (a ∷ []) = []
hex_of (a ∷ b ∷ w) = (hex_digit a * 16 + hex_digit b) ∷ hex_of w

-- the bytes of a `put` line: HEX is its third word
abbrev pub put_bytes : List ℕ → List ℕ
put_bytes line = hex_of (word_at line 2)

-- "overwrites bytes of the kept file from OFFSET on": one after the other, each at its place
unfoldable pub overwritten : ℕ → List ℕ → List ℕ → List ℕ
overwritten at [] f = f
overwritten at (b ∷ bs) f = overwritten (suc at) bs (set f at b)

-- whether they end within the file
abbrev pub fits_at : ℕ → List ℕ → List ℕ → Bool
fits_at at bs f = leb (at + length bs) (length f)

-- the file after it; "a `put` past the end of the kept file" writes nothing
abbrev pub put_into : ℕ → List ℕ → List ℕ → List ℕ
put_into at bs f = cond (fits_at at bs f) (overwritten at bs f) f
