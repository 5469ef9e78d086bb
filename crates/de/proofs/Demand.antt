-- DEMAND 3 OF THE CODE: over every list of sample calls from what an accepted set-up returns, each call getting the state that the last one returned. The code is a
-- sampler that meets the definition: each call returns, viewed, what the definition makes of the view.
use Rattle.std.specs.Prelude.{is_ok}
use mathlib.Core.Path.{◌≡◌, sym, ap, subst, ◌∙◌}
use mathlib.Core.Bool.{true}
use mathlib.Core.List.{List}
use Rattle.evolution.specs.declared.Setup.{Setup}
use Rattle.ledger.specs.Call.{Call}
use Rattle.ledger.specs.State as Plain
use Rattle.ledger.specs.State.{fresh}
use Rattle.ledger.specs.Soundness.{Sound, sound_test}
use Rattle.ledger.specs.Sample.{step, sample}
use Rattle.ledger.specs.Sampler.{definition, viewed, returns_from, Meets}
use Rattle.ledger.specs.Claim.{Demand3}
use Rattle.ledger.proofs.Sound.{step-sound, fresh-sound}
use Rattle.ledger.proofs.Lists.{T→true}
use Rattle.ledger.proofs.SoundTest.{sound-test}
use Rattle.ledger.proofs.Theorem.{program-demand3, program-answers}
use Rattle.kernel.specs.De.{de}
use Rattle.kernel.proofs.Kernel.{de-laws}
use Rattle.kernel.specs.Setup.{setup_verdict}
use Rattle.state.specs.Sound.{sound_state}
use Rattle.state.specs.View.{view, laid}
use Rattle.state.specs.declared.State.{State}
use Rattle.state.proofs.Laid.{view-laid, laid-sound}
use Rattle.de.specs.Build.{fresh_state}
use Rattle.de.specs.Program.{ran, program}
use Rattle.de.specs.Sample.{sample_of, laid_result}

-- what holds of the fresh state and of each state that a call on such a state returns: the view is sound, and unused places are as in a fresh state
record Clean (S : Setup) (s : State) : Type 0 where
  pub sound : Sound de S (view s)
  pub unused : s ≡ laid S (view s)

module _ (S : Setup) (ok : is_ok (setup_verdict S) ≡ true) where
  -- a sound plain state, laid out
  laid-clean : (m : Plain.State de) → Sound de S m → Clean S (laid S m)
  laid-clean m v = record { sound = subst (Sound de S) (sym (view-laid S m v)) v; unused = ap (laid S) (sym (view-laid S m v)) }

  -- refusal 0 is not for a clean state, so a call on it is the definition's step, laid out
  stepped : (s : State) (c : Call de) → Clean S s → sample_of s c.distribution.distribution c.number c.history ≡ laid_result S (step de S (view s) c)
  unfolding sample_of laid
  stepped s c e =
      let q : s.setup ≡ S = ap (λ (t : State). t.setup) e.unused in
      let fine : sound_state s ≡ true = ap sound_state e.unused ∙ laid-sound S (view s) e.sound ok de-laws in
      rw (fine, q)

  defined : (s : State) (c : Call de) → Clean S s → sample de S (view s) c ≡ step de S (view s) c
  unfolding sample
  defined s c e = rw (T→true (sound_test de S (view s)) ((sound-test de de-laws S (view s)).1 e.sound))

  call_view : (s : State) (c : Call de) → Clean S s → viewed de (program S) (ran s c) ≡ sample de S (view s) c
  call_view s c e =
      let r = step de S (view s) c in
      rw (stepped s c e, defined s c e)
      (λ i. record { answer = r.answer; draws = r.draws; state = view-laid S r.state (step-sound de de-laws S ok (view s) c e.sound) i })

  call_clean : (s : State) (c : Call de) → Clean S s → Clean S (ran s c).state
  call_clean s c e = rw (stepped s c e) (laid-clean (step de S (view s) c).state (step-sound de de-laws S ok (view s) c e.sound))

  pub meets : Meets de (program S) S
  unfolding fresh_state
  meets =
      record {
        Clean = Clean S;
        new_clean = laid-clean (fresh de S) (fresh-sound de de-laws S);
        call_clean = call_clean;
        view_whole = λ x y a b e. a.unused ∙ (ap (laid S) e ∙ sym b.unused);
        new_view = view-laid S (fresh de S) (fresh-sound de de-laws S);
        call_view = call_view;
      }

  -- THE THEOREM
  pub de-demand3 : (cs : List (Call de)) → Demand3 de (program S) S cs
  de-demand3 cs = program-demand3 de de-laws (program S) S ok meets cs

  -- and over every list the code returns what the definition returns: answers, draws and states
  pub de-answers : (cs : List (Call de)) → returns_from de (program S) (fresh_state S) cs ≡ returns_from de (definition de S) (fresh de S) cs
  de-answers cs = program-answers de de-laws (program S) S meets cs
