-- The generator as a call threads it: its word, and how many draws the call has made so far. "One output is one draw."
use Rattle.std.specs.Prelude.{ℕ, ◌+◌}
use Rattle.rng_util.specs.SplitMix.{drawn}
use Rattle.rng_util.specs.declared.Gen.{Gen}

-- from a word, with no draw yet
abbrev pub fresh : ℕ → Gen
fresh word = record { word = word; draws = 0 }

-- what was made, and the generator after it
pub record Made (A : Type 0) : Type 0 where
  pub out : A
  pub after : Gen

abbrev pub made : {A : Type 0} → A → Gen → Made A
made a g = record { out = a; after = g }

-- one draw: its output
unfoldable pub draw_of : Gen → Made ℕ
draw_of g = made (drawn g.word).output (record { word = (drawn g.word).word; draws = g.draws + 1 })
