-- A table's rule as one test over the table as a whole.
use Rattle.std.specs.Prelude.{ℕ, suc, Bool, true, ◌&&◌, List, [], ◌∷◌}

-- the rule holds of each entry at its place, the first place being i
abbrev pub every : (ℕ → ℕ → Bool) → ℕ → List ℕ → Bool
every rule i [] = true
every rule i (x ∷ xs) = rule i x && every rule (suc i) xs
