-- Refusal 0 in document 01's words: a state is sound exactly where its set-up passes 1 to 3, its view is sound, and it is its view laid out, with its unused
-- places as in a fresh state. A fresh state is; one with 3 slots after discovery is not.
use Rattle.std.specs.Prelude.{is_ok}
use Prim.Native.Nat.{◌≤◌}
use native.Mathlib.Omega.{arith}
use mathlib.Core.Path.{◌≡◌, refl, ap, ◌∙◌}
use mathlib.Core.Logic.{◌↔◌}
use mathlib.Core.Bool.{Bool, true, false}
use Rattle.evolution.specs.declared.Setup.{Setup}
use Rattle.ledger.specs.Kernel.{Laws}
use Rattle.ledger.specs.State as Plain
use Rattle.ledger.specs.Soundness.{Sound}
use Rattle.ledger.proofs.Sound.{fresh-sound}
use Rattle.kernel.specs.De.{de}
use Rattle.kernel.specs.Setup.{setup_verdict}
use Rattle.state.specs.View.{size_in, view, laid}
use Rattle.state.specs.Sound.{sound_state}
use Rattle.state.specs.declared.State.{State}
use Rattle.state.proofs.Laid.{laid-sound}
use Rattle.state.proofs.Measured.{Measured}
use Rattle.state.proofs.Tidy.{setup-valid, view-sound, is-laid}

pub record Tidy (s : State) : Type 0 where
  pub setup : is_ok (setup_verdict s.setup) ≡ true
  pub sound : Sound de s.setup (view s)
  pub unused : s ≡ laid s.setup (view s)

module _ (L : Laws de) where
  pub sound-exactly : (s : State) → Measured s → (sound_state s ≡ true) ↔ Tidy s
  sound-exactly s m = (
    λ e. record { setup = setup-valid s e; sound = view-sound s e L; unused = is-laid s e m },
    λ t. ap sound_state t.unused ∙ laid-sound s.setup (view s) t.sound t.setup L,
  )

  -- "Fresh is what an accepted set-up returns"
  pub fresh-state-sound : (S : Setup) → is_ok (setup_verdict S) ≡ true → sound_state (laid S (Plain.fresh de S)) ≡ true
  fresh-state-sound S ok = laid-sound S (Plain.fresh de S) (fresh-sound de L S) ok L

  -- the table's small input: "N = 3 after discovery"
  pub three-slots : (s : State) → s.discovered ≡ true → s.n ≡ 3 → sound_state s ≡ false
  unfolding view
  three-slots s d e = go (sound_state s) refl
    where
      go : (b : Bool) → sound_state s ≡ b → b ≡ false
      go true q =
          let v = view-sound s q L in
          let w = v.after s.n (ap (λ (b : Bool). size_in b s.n) d) in
          let h : 4 ≤ de.size_of s.setup (view s).dims = L.sized s.setup (view s).dims in
          absurd (omega (arith, w.sized))
      go false q = refl
