-- What the types of a state's fields say: how long its arrays are, and how large its counters. It holds of each state in memory.
use Rattle.std.specs.Prelude.{◌≡◌, ◌≤◌, length}
use Rattle.candidates.specs.declared.Candidate.{Candidate}
use Rattle.evolution.specs.declared.Member.{Member}
use Rattle.ledger.specs.Words.{All}
use Rattle.ledger.specs.State.{cap}
use Rattle.state.specs.declared.State.{State}

-- a candidate's two arrays
pub record Sized (c : Candidate) : Type 0 where
  pub x : length c.x ≡ 16
  pub choices : length c.choices ≡ 16

pub record Measured (s : State) : Type 0 where
  pub dims : length s.dims ≡ 16
  pub candidates : length s.candidates ≡ 224
  pub parents : length s.parents ≡ 160
  pub trials : length s.trials ≡ 224
  pub candidates_sized : All Sized s.candidates
  pub parents_sized : All (λ (m : Member). Sized m.candidate) s.parents
  pub closed : s.closed ≤ cap
  pub idle : s.idle ≤ cap
