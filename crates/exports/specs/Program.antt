-- What C callers send, and the library as a sampler that demand 3 is said of: the lent memory, the view of what it holds, the memory after an
-- accepted set-up call, and the sample call.
use Rattle.std.specs.Prelude.{◌≡◌, Bool, false, cond, List, [], ◌∷◌, map, eqb}
use Rattle.distribution.specs.declared.ParamValue.TheVariants as P
use Rattle.ledger.specs.Words.{All}
use Rattle.ledger.specs.Call.{Call}
use Rattle.ledger.specs.State as Plain
use Rattle.ledger.specs.State.{Returned}
use Rattle.ledger.specs.Sampler.{Sampler, viewed, returns_from}
use Rattle.ledger.specs.Claim.{Demand3}
use Rattle.kernel.specs.De.{de}
use Rattle.state.specs.View.{view}
use Rattle.de.specs.Sample.{call_of}
use Rattle.edge.specs.declared.flat.DeSetup.{DeSetup}
use Rattle.edge.specs.declared.flat.DeState.{DeState}
use Rattle.edge.specs.declared.answers.DeAnswer.{DeAnswer}
use Rattle.edge.specs.declared.answers.DeCall.{DeCall}
use Rattle.edge.specs.declared.trial.DeCompletedTrial.{DeCompletedTrial}
use Rattle.edge.specs.Flat.{distribution_of, setup_of, open_of, flat_dim}
use Rattle.edge.specs.Trial.{trial_of, flat_trial}
use Rattle.edge.specs.Answers.{bare_answer}
use Rattle.exports.specs.Calls.{known_call, sample_answer, sample_state, new_state}

-- ---- a call that a C caller sends: any numbers in its fields, and a history

pub record Sent : Type 0 where
  pub call : DeCall
  pub history : List DeCompletedTrial

-- whether the numbers that its kind reads name cases, and so does the state of every entry of its history
abbrev pub is_known : Sent → Bool
is_known q = known_call q.call q.history

-- the call that its numbers stand for, whatever stands in fields that its kind has no use for
abbrev pub meant : Sent → Call de
meant q = call_of q.call.trial (distribution_of q.call.distribution) (map trial_of q.history)

-- the calls that a list stands for; one with a number that names no case stands for none
unfoldable pub meant_by : List Sent → List (Call de)
meant_by [] = []
meant_by (q ∷ qs) = cond (is_known q) (meant q ∷ meant_by qs) (meant_by qs)

-- ---- the library as a sampler

-- a caller reads the answer by its kind
abbrev pub read_answer : DeAnswer → Plain.Answer de
read_answer a =
    cond (eqb a.kind 0) (Plain.refused a.refusal)
    (cond (eqb a.kind 1) (Plain.given (P.Float a.real))
    (cond (eqb a.kind 2) (Plain.given (P.Int a.whole)) (Plain.given (P.Categorical a.choice))))

-- the sample call, by its contract: what it answers, and what it leaves in the memory
abbrev pub answer_to : DeState → Sent → DeAnswer
answer_to f q = sample_answer f q.call q.history

abbrev pub leaves : DeState → Sent → DeState
leaves f q = sample_state f q.call q.history

abbrev pub called : DeState → Sent → Returned de DeState
called f q = record { answer = read_answer (answer_to f q); draws = (answer_to f q).draws; state = leaves f q }

-- a call in numbers, with 0 in the fields that its kind has no use for
abbrev pub spelled : Call de → Sent
spelled c = record { call = record { trial = c.number; distribution = flat_dim c.distribution }; history = map flat_trial c.history }

-- f is what the memory held before the set-up call
abbrev pub library : DeState → DeSetup → Sampler de
library f u = record { Kept = DeState; view = λ g. view (open_of g); new = new_state f u; call = λ g c. called g (spelled c) }

-- ---- a list of sent calls from memory g on

-- what the caller reads after each call that stands for one: answer, draws, and the state in the memory
unfoldable pub reads_from : DeState → DeSetup → DeState → List Sent → List (Returned de (Plain.State de))
reads_from f u g [] = []
reads_from f u g (q ∷ qs) =
    cond (is_known q) (viewed de (library f u) (called g q) ∷ reads_from f u (leaves g q) qs) (reads_from f u (leaves g q) qs)

-- DEMAND 3 OF THE LIBRARY, over a list of sent calls from what an accepted set-up call left in the memory
pub record LibraryDemand3 (f : DeState) (u : DeSetup) (qs : List Sent) : Type 0 where
  -- a call with a number that names no case is answered by kind 4 and leaves the memory as it was, whatever the memory holds
  pub unknown : All (λ q. is_known q ≡ false → (g : DeState) → (answer_to g q ≡ bare_answer 4 0) × (leaves g q ≡ g)) qs
  -- to the others the caller reads what the library as a sampler returns to the calls that they stand for,
  pub reads : reads_from f u (new_state f u) qs ≡ returns_from de (library f u) (new_state f u) (meant_by qs)
  -- and of that sampler and these calls demand 3 holds
  pub claim : Demand3 de (library f u) (setup_of u) (meant_by qs)
