-- The words of the rows, as bytes.
use Rattle.std.specs.Prelude.{ℕ, ◌-◌, List, ◌++◌, length, replicate, false, Float, codes, decimal, flat_map, map, take}
use Rattle.slots.specs.declared.Looked.{Looked}
use Rattle.std.specs.Fork.{slice_chunk}
use Rattle.std.specs.List.{range_with_len}
use Rattle.std.specs.Slice.Iter.{chunk_count}
use Rattle.std.specs.Fmt.{digits, signed_decimal}
use Rattle.std.specs.Float.{binary64}
use Rattle.std.specs.Float.Ieee.{to_bits}
use Rattle.distribution.specs.declared.ParamValue.{ParamValue}
use Rattle.distribution.specs.declared.ParamValue.TheVariants as P

-- so many hexadecimal digits, low case, with zeros in front
unfoldable pub hex_text : ℕ → ℕ → List ℕ
hex_text k n = replicate (k - length (digits 16 false n)) 48 ++ digits 16 false n

-- "A double is written as its bit pattern, 16 hexadecimal digits, low case"
unfoldable pub pattern_text : Float → List ℕ
pattern_text x = hex_text 16 (to_bits binary64 x)

-- `float BITS`, `int NUMBER` or `choice INDEX`
unfoldable pub setting_text : ParamValue → List ℕ
setting_text (P.Float x) = codes "float " ++ pattern_text x
setting_text (P.Int k) = codes "int " ++ signed_decimal k
setting_text (P.Categorical i) = codes "choice " ++ decimal i

-- doubles, a space in front of each
abbrev pub values_text : List Float → List ℕ
values_text xs = flat_map (λ x. codes " " ++ pattern_text x) xs

-- two digits for each byte, to the line's end
abbrev pub row_text : List ℕ → List ℕ
row_text bytes = flat_map (hex_text 2) bytes ++ codes "\n"

-- "a line of hexadecimal digits .. for each 32 bytes of the kept file, the last line of what is left": row k has the bytes from 32 k on
unfoldable pub rows_text : List ℕ → List ℕ
rows_text bytes = flat_map row_text (map (slice_chunk bytes 32) (range_with_len 0 (chunk_count (length bytes) 32)))

-- `look BEST CLOSED IDLE V0 V1 ..`
abbrev pub best_text : ℕ → Looked → List ℕ
best_text best l = codes "look " ++ decimal best ++ codes " " ++ decimal l.closed ++ codes " " ++ decimal l.idle ++ values_text (take l.n l.values)
