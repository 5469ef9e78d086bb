-- What a sink is seen as.
use Rattle.std.specs.Prelude.{ℕ, List, Option}

-- its writer, the bytes that wait, and what was written to it all in all, where its writer says what it holds
pub record Sunk (W : Type 0) : Type 0 where
  pub to : W
  pub waiting : List ℕ
  pub written : Option (List ℕ)
