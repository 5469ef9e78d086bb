-- What a sample call returned, in document 01's numbers.
use Rattle.std.specs.Prelude.{ℕ, Ok, Err, Result}
use Rattle.distribution.specs.Refusals.{refusal_number}
use Rattle.ledger.specs.State as Plain
use Rattle.ledger.specs.State.{Returned}
use Rattle.kernel.specs.De.{de}
use Rattle.state.specs.declared.State.{State}
use Rattle.de.specs.declared.Sampled.{Sampled}
use Rattle.distribution.specs.declared.Refusal.{Refusal}
use Rattle.distribution.specs.declared.ParamValue.{ParamValue}

-- a refusal by its number, or the setting
abbrev pub plain_answer : Result ParamValue Refusal → Plain.Answer de
plain_answer (Err r) = Plain.refused (refusal_number r)
plain_answer (Ok x) = Plain.given x

-- what a call returns, by its setting and draws, with the state then: "A refusal has no setting, counts zero draws"
abbrev pub sampled : Result (ParamValue × ℕ) Refusal → State → Sampled
sampled (Ok x) s = record { answer = Ok x.0; draws = x.1; state = s }
sampled (Err r) s = record { answer = Err r; draws = 0; state = s }

-- a call's answer and draws, with the state then
abbrev pub returned : Result ParamValue Refusal × ℕ → State → Sampled
returned r s = record { answer = r.0; draws = r.1; state = s }

-- "If an answer is an enum, a definition states this paper's number and values for each case of the enum. The promises use that definition."
abbrev pub numbered : Sampled → Returned de State
numbered r = record { answer = plain_answer r.answer; draws = r.draws; state = r.state }
