-- What the ledger's steps 1 and 5 give, with the state laid out in the code's arrays.
use Rattle.std.specs.Prelude.{ℕ, List}
use Rattle.rng_util.specs.Gen.{Made, made}
use Rattle.candidates.specs.declared.Candidate.{Candidate}
use Rattle.evolution.specs.declared.Setup.{Setup}
use Rattle.ledger.specs.Kernel as L
use Rattle.ledger.specs.State as Plain
use Rattle.ledger.specs.Assignment as Step
use Rattle.ledger.specs.Sample.{begin}
use Rattle.kernel.specs.De.{de, code_gen}
use Rattle.state.specs.View.{laid}
use Rattle.state.specs.declared.State.{State}
use Rattle.assignment.specs.Raw.{Given}

-- an accepted call
abbrev pub laid_given : Setup → Step.Accepted de → Given
laid_given S a = record { setting = a.setting; draws = a.draws; state = laid S a.state }

-- the end of discovery, with N slots, by the candidates
abbrev pub laid_begun : Setup → Plain.State de → ℕ → L.Made ℕ (List Candidate) → Made State
laid_begun S m N r = made (laid S (begin de m N r.out)) (code_gen r.gen)
