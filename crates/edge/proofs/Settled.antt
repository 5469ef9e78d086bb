-- A call with a number that names no case answers kind 4 and stores nothing, whatever the sampler would make of it.
use Rattle.std.proofs.Common.{◌≡◌, refl, ℕ, Bool, false, Err}
use Rattle.kernel.specs.De.{de}
use Rattle.ledger.specs.State as Plain
use Rattle.edge.specs.Answers.{unknown, settled_of}

pub unknown-stores-nothing : (state : Bool) (answer : Plain.Answer de) (draws : ℕ) → settled_of false state answer draws ≡ Err unknown
unfolding settled_of
unknown-stores-nothing state answer draws = refl
