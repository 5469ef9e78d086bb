-- W5, idle generations, read on the ledger alone: "the number of closed generations since the least value of all slots last became numerically smaller".
-- A slot holds the least of the results counted for it. So that value becomes smaller exactly where a generation counts a result smaller than all before.
use Rattle.ledger.specs.Words.{all}
use Rattle.ledger.specs.Ledger.{Generation, result_in}
use Rattle.std.specs.Prelude.{◌≡◌, Bool, false, ◌||◌, cond, List, [], ◌∷◌, ◌++◌, reverse, ℕ, suc, ◌+◌, ◌≤◌, ◌<◌, T, length, Float, Some}
use Rattle.std.specs.Float.Ieee.{lt}

-- ---- as a number, computed from the counted results

-- the results that these generations counted, whichever their slots
unfoldable pub results_in : List Generation → List Float
results_in [] = []
results_in (g ∷ gs) = g.results ++ results_in gs

-- Results LOWER the least: one of them is numerically smaller than each of the earlier ones. Those of the first generation do, for there is none earlier.
unfoldable pub lowers : List Float → List Float → Bool
lowers earlier [] = false
lowers earlier (r ∷ rs) = all (λ (w : Float). lt r w) earlier || lowers earlier rs

-- by the closed generations, the latest first: 0 where the latest lowers the least, else one more than before it
unfoldable pub idle_since : List Generation → ℕ
idle_since [] = 0
idle_since (g ∷ gs) = cond (lowers (results_in gs) g.results) 0 (suc (idle_since gs))

-- by the ledger's, the latest last
abbrev pub idle_on : List Generation → ℕ
idle_on gs = idle_since (reverse gs)

-- ---- the same in words, with no recursion: there is one such number, and `idle_on` is it (proofs/IdleExact.antt, `idle-only` and `idle-exact`)

-- generation g, from 0, lowered the least: it counted a result for a slot that is numerically smaller than each that an earlier generation counted
pub record Lowered (gs : List Generation) (g : ℕ) : Type 0 where
  pub slot : ℕ
  pub value : Float
  pub counted : result_in gs g slot ≡ Some value
  pub smaller : (h i : ℕ) (w : Float) → h < g → result_in gs h i ≡ Some w → T (lt value w)

-- n generations have closed since one last did: none of the last n did, and the one before them did, if there is one
pub record IdleFor (gs : List Generation) (n : ℕ) : Type 0 where
  pub within : n ≤ length gs
  pub since : (g : ℕ) → length gs ≤ g + n → Lowered gs g → ⊥
  pub last : (g : ℕ) → length gs ≡ suc (g + n) → Lowered gs g
