-- What `{:016x}` writes of a number: its digits, with zeros in front.
use Rattle.std.proofs.Common.{◌≡◌, ℕ, ◌-◌, ◌^◌, [], length, false, append-nil, arith}
use Rattle.std.specs.Fmt.{digits, padded_integral, format_spec, char_count}
use Rattle.printed.specs.Rows.{hex_text}

pub padded-hex : (k n : ℕ) → padded_integral (format_spec 32 0 4 k (2 ^ 64 - 1)) false [] (digits 16 false n) ≡ hex_text k n
unfolding padded_integral char_count hex_text
padded-hex k n = let z : k - length (digits 16 false n) - 0 - 0 ≡ k - length (digits 16 false n) = omega arith in rw (z, append-nil)
