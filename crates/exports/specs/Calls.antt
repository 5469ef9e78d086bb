-- The three calls that write a lent state, in numbers: what goes out, and what the lent state is after the call.
use Rattle.std.specs.Prelude.{ℕ, Bool, ◌&&◌, cond, List, map, Result, Ok, Err, is_ok}
use Rattle.ledger.specs.State.{Returned}
use Rattle.evolution.specs.declared.Setup.{Setup}
use Rattle.kernel.specs.De.{de}
use Rattle.state.specs.declared.State.{State}
use Rattle.de.specs.Sample.{sample_of}
use Rattle.edge.specs.declared.flat.DeSetup.{DeSetup}
use Rattle.edge.specs.declared.flat.DeState.{DeState}
use Rattle.edge.specs.declared.answers.DeAnswer.{DeAnswer}
use Rattle.edge.specs.declared.answers.DeCall.{DeCall}
use Rattle.edge.specs.declared.trial.DeCompletedTrial.{DeCompletedTrial}
use Rattle.files.specs.declared.file.DeFile.{DeFile}
use Rattle.edge.specs.Answers.{settled_of, told}
use Rattle.edge.specs.Build.{settled_setup, made_answer, fresh_flat}
use Rattle.saved.specs.Restore.{state_read}
use Rattle.saved.specs.declared.FileRefusal.{FileRefusal}
use Rattle.files.specs.File.{restored_answer}
use Rattle.edge.specs.Flat.{distribution_of, open_of, flat_of}
use Rattle.edge.specs.Known.{known_distribution, known_state}
use Rattle.edge.specs.Trial.{known_history, trial_of}

-- ---- the set-up call

unfoldable pub new_answer : DeSetup → DeAnswer
new_answer u = made_answer (settled_setup u)

-- the fresh state, where one is made
abbrev pub made_state : DeState → Result Setup DeAnswer → DeState
made_state f (Ok S) = fresh_flat S
made_state f (Err a) = f

unfoldable pub new_state : DeState → DeSetup → DeState
new_state f u = made_state f (settled_setup u)

-- ---- the sample call

-- what the sampler makes of the opened state, call and history
abbrev pub sampled_from : DeState → DeCall → List DeCompletedTrial → Returned de State
sampled_from f c h = sample_of (open_of f) (distribution_of c.distribution) c.trial (map trial_of h)

-- whether the numbers of the call and of its history name cases
abbrev pub known_call : DeCall → List DeCompletedTrial → Bool
known_call c h = known_distribution c.distribution && known_history h

-- `Ok` where the state after the call is stored. A number of the call or of its history that names no case is kind 4, before all else.
abbrev pub settled_sample : DeState → DeCall → List DeCompletedTrial → Result DeAnswer DeAnswer
settled_sample f c h = settled_of (known_call c h) (known_state f) (sampled_from f c h).answer (sampled_from f c h).draws

unfoldable pub sample_answer : DeState → DeCall → List DeCompletedTrial → DeAnswer
sample_answer f c h = told (settled_sample f c h)

unfoldable pub sample_state : DeState → DeCall → List DeCompletedTrial → DeState
sample_state f c h = cond (is_ok (settled_sample f c h)) (flat_of (sampled_from f c h).state) f

-- what `sampled` makes, a private function that judges no entry of the history; proofs/Judged ties it to the two above
abbrev pub unjudged_sample : DeState → DeCall → List DeCompletedTrial → Result DeAnswer DeAnswer
unjudged_sample f c h = settled_of (known_distribution c.distribution) (known_state f) (sampled_from f c h).answer (sampled_from f c h).draws

abbrev pub unjudged_state : DeState → DeCall → List DeCompletedTrial → DeState
unjudged_state f c h = cond (is_ok (unjudged_sample f c h)) (flat_of (sampled_from f c h).state) f

-- ---- the restore call

-- by the file alone
unfoldable pub restore_answer : List ℕ → DeFile
restore_answer bytes = restored_answer (state_read bytes)

-- only a file that is taken stores a state
abbrev pub stored_over : DeState → Result State FileRefusal → DeState
stored_over f (Ok s) = flat_of s
stored_over f (Err r) = f

-- the state that the file holds, where it is taken
unfoldable pub restore_state : DeState → List ℕ → DeState
restore_state f bytes = stored_over f (state_read bytes)
