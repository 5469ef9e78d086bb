-- The set-up call in numbers: the builder's own verdict, unless a number names no case.
use Rattle.std.specs.Prelude.{cond, Result, Ok, Err}
use Rattle.distribution.specs.Refusals.{refusal_number}
use Rattle.distribution.specs.declared.Refusal.{Refusal}
use Rattle.evolution.specs.declared.Setup.{Setup}
use Rattle.de.specs.Build.{built_of, fresh_state}
use Rattle.edge.specs.declared.flat.DeSetup.{DeSetup}
use Rattle.edge.specs.declared.flat.DeState.{DeState}
use Rattle.edge.specs.declared.answers.DeAnswer.{DeAnswer}
use Rattle.edge.specs.Flat.{setup_of, flat_of}
use Rattle.edge.specs.Known.{known_setup}
use Rattle.edge.specs.Answers.{bare_answer, unknown, refused_by}

-- `Ok` where a state is made
abbrev pub built_answer : Result Setup Refusal → Result Setup DeAnswer
built_answer (Ok S) = Ok S
built_answer (Err r) = Err (refused_by (refusal_number r))

unfoldable pub settled_setup : DeSetup → Result Setup DeAnswer
settled_setup u = cond (known_setup u) (built_answer (built_of (record { setup = setup_of u }))) (Err unknown)

-- kind 5: a state is made
abbrev pub made_answer : Result Setup DeAnswer → DeAnswer
made_answer (Ok S) = bare_answer 5 0
made_answer (Err a) = a

unfoldable pub fresh_flat : Setup → DeState
fresh_flat S = flat_of (fresh_state S)
