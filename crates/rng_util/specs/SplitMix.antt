-- SplitMix64 (document 01, "Generator"). A word is a number below 2 ^ 64; sums and products wrap on purpose, `% 2 ^ 64`; z >> k is `z / 2 ^ k`.
use Rattle.std.specs.Prelude.{ℕ, ◌+◌, ◌*◌, ◌/◌, ◌%◌, ◌^◌, bit_xor}
use Rattle.rng_util.specs.declared.Stepped.{Stepped}

-- "The word grows by 9e3779b97f4a7c15 (hexadecimal)"
unfoldable pub grown : ℕ → ℕ
grown word = (word + 0x9e37_79b9_7f4a_7c15) % 2 ^ 64

-- z xor z >> k
abbrev pub folded : ℕ → ℕ → ℕ
folded z k = bit_xor z (z / 2 ^ k)

-- (z xor z >> k) × m
abbrev pub mixed : ℕ → ℕ → ℕ → ℕ
mixed z k m = folded z k * m % 2 ^ 64

-- "z is the new word; z = (z xor z>>30) × bf58476d1ce4e5b9; z = (z xor z>>27) × 94d049bb133111eb; the output is z xor z>>31"
unfoldable pub output_of : ℕ → ℕ
output_of z = folded (mixed (mixed z 30 0xbf58_476d_1ce4_e5b9) 27 0x94d0_49bb_1331_11eb) 31

-- one draw: the new word, and its output
unfoldable pub drawn : ℕ → Stepped
unfolding grown output_of
drawn word = record { word = grown word; output = output_of (grown word) }
