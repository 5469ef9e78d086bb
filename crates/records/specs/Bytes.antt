-- Numbers as bytes, "all low byte first".
use Rattle.std.specs.Prelude.{ℕ, zero, suc, ◌+◌, ◌*◌, ◌/◌, ◌%◌, ◌<◌, List, [], ◌∷◌, take, drop}
use Rattle.ledger.specs.Words.{All}

-- the number v as w bytes, low byte first
unfoldable pub bytes_of : ℕ → ℕ → List ℕ
bytes_of zero v = []
bytes_of (suc w) v = v % 256 ∷ bytes_of w (v / 256)

-- the number that bytes are
unfoldable pub number : List ℕ → ℕ
number [] = 0
number (b ∷ bs) = b + 256 * number bs

-- the number of w bytes that stand at a place
abbrev pub field : List ℕ → ℕ → ℕ → ℕ
field f at w = number (take w (drop at f))

-- a file of bytes: what the type of a lent file says
abbrev pub Bytes : List ℕ → Type 0
Bytes f = All (λ (b : ℕ). b < 256) f
