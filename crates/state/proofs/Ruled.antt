-- No set-up is refused, and no state unsound, for its bounds rule (document 02, W7): each is judged as with any other rule.
use mathlib.Core.Path.{◌≡◌, refl}
use Rattle.evolution.specs.declared.BoundsRule.{BoundsRule}
use Rattle.evolution.specs.BoundsRule.{ruled}
use Rattle.evolution.specs.declared.Setup.{Setup}
use Rattle.kernel.specs.Setup.{setup_verdict}
use Rattle.state.specs.Ruled.{state_ruled}
use Rattle.ledger.specs.Soundness.{sound_test}
use Rattle.state.specs.Sound.{clean_test, sound_state}
use Rattle.state.specs.View.{view}
use Rattle.state.specs.declared.State.{State}

pub either-passes : (r : BoundsRule) (S : Setup) → setup_verdict (ruled r S) ≡ setup_verdict S
unfolding setup_verdict
either-passes r S = refl

pub either-sound : (r : BoundsRule) (s : State) → sound_state (state_ruled r s) ≡ sound_state s
unfolding sound_state clean_test view sound_test setup_verdict
either-sound r s = refl
