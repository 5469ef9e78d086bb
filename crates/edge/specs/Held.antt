-- What a slot holds, in numbers.
use Rattle.std.specs.Prelude.{ℕ, Option, Some, None, Result, Ok, Err}
use Rattle.distribution.specs.Refusals.{refusal_number}
use Rattle.distribution.specs.declared.Refusal.{Refusal}
use Rattle.distribution.specs.declared.ParamValue.{ParamValue}
use Rattle.state.specs.declared.State.{State}
use Rattle.slots.specs.Held.{held_of}
use Rattle.edge.specs.declared.flat.DeState.{DeState}
use Rattle.edge.specs.declared.answers.DeAnswer.{DeAnswer}
use Rattle.edge.specs.Answers.{bare_answer, setting_answer}
use Rattle.edge.specs.Known.{opened_state}

-- kind 6: there is no such slot or dimension; a setting is drawn from nothing
abbrev pub held_answer : Result (Option ParamValue) Refusal → DeAnswer
held_answer (Err r) = bare_answer 0 (refusal_number r)
held_answer (Ok None) = bare_answer 6 0
held_answer (Ok (Some x)) = setting_answer x 0

abbrev pub held_by : Result State Refusal → ℕ → ℕ → Result (Option ParamValue) Refusal
held_by (Ok s) i k = held_of s i k
held_by (Err r) i k = Err r

-- a state with a number that names no case is refusal 0
abbrev pub held_in : DeState → ℕ → ℕ → Result (Option ParamValue) Refusal
held_in f i k = held_by (opened_state f) i k

unfoldable pub held_at : DeState → ℕ → ℕ → DeAnswer
held_at f i k = held_answer (held_in f i k)
