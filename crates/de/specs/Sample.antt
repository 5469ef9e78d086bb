-- A sample call on the code's own state: demand 2's definition on its view, laid out again. Refusal 0 is for a state that is not sound.
use Rattle.std.specs.Prelude.{ℕ, cond, List}
use Rattle.distribution.specs.declared.Distribution.{Distribution}
use Rattle.evolution.specs.declared.Setup.{Setup}
use Rattle.history.specs.declared.CompletedTrial.{CompletedTrial}
use Rattle.ledger.specs.Call.{Call}
use Rattle.ledger.specs.State as Plain
use Rattle.ledger.specs.State.{Returned, refuse}
use Rattle.ledger.specs.Sample.{step}
use Rattle.kernel.specs.De.{de}
use Rattle.state.specs.Sound.{sound_state}
use Rattle.state.specs.View.{view, laid}
use Rattle.state.specs.declared.State.{State}

-- "each call's trial number, distribution and history"
abbrev pub call_of : ℕ → Distribution → List CompletedTrial → Call de
call_of n d h = record { number = n; distribution = record { distribution = d }; history = h }

-- the same answer and draws, the state in the code's arrays
abbrev pub laid_result : Setup → Returned de (Plain.State de) → Returned de State
laid_result S r = record { answer = r.answer; draws = r.draws; state = laid S r.state }

-- 0: "sample or look: the state isn't sound"; a refusal "has no setting, counts zero draws and hands back the state that came in, generator word included"
abbrev pub unsound : State → Returned de State
unsound s = refuse de 0 s

unfoldable pub sample_of : State → Distribution → ℕ → List CompletedTrial → Returned de State
sample_of s d n h = cond (sound_state s) (laid_result s.setup (step de s.setup (view s) (call_of n d h))) (unsound s)
