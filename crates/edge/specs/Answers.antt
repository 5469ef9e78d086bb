-- What is asked and what goes out, in numbers.
use Rattle.std.specs.Prelude.{ℕ, Bool, cond, pos, Result, Ok, Err}
use Rattle.common.specs.Bounds.{zero_f}
use Rattle.distribution.specs.declared.Distribution.{Distribution}
use Rattle.distribution.specs.declared.ParamValue.{ParamValue}
use Rattle.distribution.specs.declared.ParamValue.TheVariants as P
use Rattle.ledger.specs.State as Plain
use Rattle.kernel.specs.De.{de}
use Rattle.edge.specs.declared.flat.DeState.{DeState}
use Rattle.edge.specs.declared.flat.Opened.{Opened}
use Rattle.edge.specs.declared.answers.DeCall.{DeCall}
use Rattle.edge.specs.declared.answers.DeAnswer.{DeAnswer}
use Rattle.edge.specs.Flat.{distribution_of, opened_of}
use Rattle.edge.specs.Known.{known_distribution, known_state}

-- kind and refusal alone
abbrev pub bare_answer : ℕ → ℕ → DeAnswer
bare_answer k n = record { kind = k; refusal = n; real = zero_f; whole = pos 0; choice = 0; draws = 0 }

abbrev pub setting_answer : ParamValue → ℕ → DeAnswer
setting_answer (P.Float x) draws = record { kind = 1; refusal = 0; real = x; whole = pos 0; choice = 0; draws = draws }
setting_answer (P.Int z) draws = record { kind = 2; refusal = 0; real = zero_f; whole = z; choice = 0; draws = draws }
setting_answer (P.Categorical k) draws = record { kind = 3; refusal = 0; real = zero_f; whole = pos 0; choice = k; draws = draws }

-- kind 4: a number of the call names no case
abbrev pub unknown : DeAnswer
unknown = bare_answer 4 0

-- a refusal with its number
abbrev pub refused_by : ℕ → DeAnswer
refused_by n = bare_answer 0 n

-- `Ok` where the state after the call is stored: only with a setting
abbrev pub answered : Plain.Answer de → ℕ → Result DeAnswer DeAnswer
answered (Plain.given x) draws = Ok (setting_answer x draws)
answered (Plain.refused n) draws = Err (refused_by n)

-- a state with a number that names no case is refusal 0
unfoldable pub settled_of : Bool → Bool → Plain.Answer de → ℕ → Result DeAnswer DeAnswer
settled_of call state answer draws = cond call (cond state (answered answer draws) (Err (refused_by 0))) (Err unknown)

-- what goes out, stored or not
abbrev pub told : Result DeAnswer DeAnswer → DeAnswer
told (Ok a) = a
told (Err a) = a

-- what the sampler is asked, where the numbers of the call and then those of the state name cases
unfoldable pub question_of : DeState → DeCall → Result (Opened × Distribution) DeAnswer
question_of f c =
    cond (known_distribution c.distribution)
    (cond (known_state f) (Ok (opened_of f, distribution_of c.distribution)) (Err (refused_by 0)))
    (Err unknown)
