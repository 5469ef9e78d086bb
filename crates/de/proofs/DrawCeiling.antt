-- THE DRAW CEILING (W1): no sample call draws more than `draw_ceiling`, whatever the state, sound or not, the distribution, the trial and the history. Idea: a state that is not sound is refused
-- and draws nothing; on a sound one the call is the definition's step, whose ceiling is proved over plain states.
use Prim.Native.Nat.{ℕ, ◌≤◌}
use native.Mathlib.Omega.{arith}
use mathlib.Core.Path.{◌≡◌, refl}
use mathlib.Core.Bool.{Bool, true, false, cond}
use mathlib.Core.List.{List}
use Rattle.distribution.specs.declared.Distribution.{Distribution}
use Rattle.history.specs.declared.CompletedTrial.{CompletedTrial}
use Rattle.evolution.specs.declared.Setup.{Setup}
use Rattle.ledger.specs.Sample.{step}
use Rattle.ledger.proofs.Sound.{step-sound}
use Rattle.kernel.specs.Ceiling.{step_ceiling}
use Rattle.kernel.specs.De.{de}
use Rattle.kernel.proofs.Ceiling.{step-few}
use Rattle.kernel.proofs.Kernel.{de-laws}
use Rattle.state.specs.Sound.{sound_state}
use Rattle.state.specs.View.{view}
use Rattle.state.specs.declared.State.{State}
use Rattle.state.proofs.Laid.{view-laid}
use Rattle.state.proofs.Tidy.{view-sound, setup-valid}
use Rattle.de.specs.Ceiling.{draw_ceiling}
use Rattle.de.specs.Sample.{call_of, laid_result, unsound, sample_of}

pub draw-ceiling : (s : State) (d : Distribution) (n : ℕ) (h : List CompletedTrial) → (sample_of s d n h).draws ≤ draw_ceiling s (sample_of s d n h).state n
unfolding sample_of
draw-ceiling s d n h = go (sound_state s) refl
  where
    S : Setup
    S = s.setup

    go : (b : Bool) → sound_state s ≡ b → let r = cond b (laid_result S (step de S (view s) (call_of n d h))) (unsound s) in r.draws ≤ step_ceiling S.strategy (view s) (view r.state) n
    go false e = omega arith
    go true e =
        let v = view-sound s e de-laws in
        rw (view-laid S (step de S (view s) (call_of n d h)).state (step-sound de de-laws S (setup-valid s e) (view s) (call_of n d h) v)) (step-few S (view s) (call_of n d h) v)
