-- Whole numbers as limbs of 32 bits.
use Rattle.std.specs.Prelude.{ℕ, ◌+◌, ◌*◌, ◌^◌, List, [], ◌∷◌}

-- the number that limbs stand for, the lowest first
unfoldable pub value : List ℕ → ℕ
value [] = 0
value (limb ∷ limbs) = limb + 2 ^ 32 * value limbs
