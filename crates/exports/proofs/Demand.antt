-- DEMAND 3 OF THE LIBRARY: over every list of `de_sample` calls that C callers can send from what an accepted `de_new` left in the lent memory, each call on what the last one left. The memory always
-- holds a state of the sampler in numbers (Edge), so that the library meets the definition because the sampler does; and only what a call's numbers stand for decides the answer.
use Rattle.std.specs.Prelude.{Option, Some, None, Ok, Err, ⊤, is_ok, Result}
use Prim.Native.Nat.{ℕ}
use mathlib.Core.Path.{◌≡◌, refl, sym, ap, subst, ◌∙◌}
use mathlib.Core.Bool.{Bool, true, false, cond, true≢false}
use mathlib.Core.List.{List, [], ◌∷◌, map}
use Rattle.distribution.specs.declared.ParamValue.{ParamValue}
use Rattle.distribution.specs.declared.ParamValue.TheVariants as P
use Rattle.evolution.specs.declared.Setup.{Setup}
use Rattle.ledger.specs.Words.{or_else}
use Rattle.ledger.specs.Call.{Call, call_refusal}
use Rattle.ledger.specs.State as Plain
use Rattle.ledger.specs.State.{Returned, fresh, refuse}
use Rattle.ledger.specs.Assignment.{Accepted}
use Rattle.ledger.specs.Soundness.{sound_test}
use Rattle.ledger.specs.Sample.{sample, step, outcome, state_refusal, accept}
use Rattle.ledger.specs.Sampler.{definition, viewed, returns_from, Meets}
use Rattle.ledger.proofs.Theorem.{program-demand3, program-answers}
use Rattle.kernel.specs.De.{de}
use Rattle.kernel.proofs.Kernel.{de-laws}
use Rattle.kernel.specs.Setup.{setup_verdict}
use Rattle.state.specs.View.{view}
use Rattle.state.specs.declared.State.{State}
use Rattle.state.proofs.Flags.{and-true}
use Rattle.de.specs.Build.{built_by, built_of, fresh_state}
use Rattle.de.specs.Program.{program}
use Rattle.de.specs.Sample.{sample_of}
use Rattle.de.proofs.Demand as Of
use Rattle.edge.specs.declared.flat.DeSetup.{DeSetup}
use Rattle.edge.specs.declared.flat.DeState.{DeState}
use Rattle.edge.specs.declared.answers.DeAnswer.{DeAnswer}
use Rattle.edge.specs.Flat.{distribution_of, setup_of, open_of, flat_of}
use Rattle.edge.specs.Known.{known_setup}
use Rattle.edge.specs.Answers.{bare_answer, setting_answer, answered, told}
use Rattle.edge.specs.Trial.{trial_of}
use Rattle.exports.specs.Calls.{sample_state, made_state, new_state}
use Rattle.edge.specs.Build.{built_answer, settled_setup, fresh_flat}
use Rattle.exports.specs.Program.{Sent, is_known, meant, meant_by, read_answer, answer_to, leaves, called, spelled, library, reads_from, LibraryDemand3}
use Rattle.exports.proofs.Edge.{distribution-back, trials-back, distribution-known, trials-known, lossless, held_after, one_answer, one_state, same_answer, same_state, unknown-answer, unknown-state}
use Rattle.distribution.specs.declared.Refusal.{Refusal}

-- ---- what a caller reads is the sampler's answer

setting-read : (x : ParamValue) (draws : ℕ) → read_answer (setting_answer x draws) ≡ Plain.given x
setting-read (P.Float x) draws = refl
setting-read (P.Int z) draws = refl
setting-read (P.Categorical k) draws = refl

pub setting-draws : (x : ParamValue) (draws : ℕ) → (setting_answer x draws).draws ≡ draws
setting-draws (P.Float x) draws = refl
setting-draws (P.Int z) draws = refl
setting-draws (P.Categorical k) draws = refl

-- ---- "has no setting, counts zero draws and hands back the state that came in"

-- the definition's answer to a refused call
abbrev Unmoved : Plain.State de → Returned de (Plain.State de) → Plain.Answer de → Type 0
Unmoved m r (Plain.refused n) = r ≡ record { answer = Plain.refused n; draws = 0; state = m }
Unmoved m r (Plain.given x) = Unit {0}

outcome-unmoved : (m : Plain.State de) (o : Option ℕ) (a : Accepted de) → Unmoved m (outcome de m o a) (outcome de m o a).answer
outcome-unmoved m (Some r) a = refl
outcome-unmoved m None a = tt

sample-unmoved : (S : Setup) (m : Plain.State de) (c : Call de) → Unmoved m (sample de S m c) (sample de S m c).answer
unfolding sample step
sample-unmoved S m c = go (sound_test de S m)
  where
    go : (b : Bool) → Unmoved m (cond b (step de S m c) (refuse de 0 m)) (cond b (step de S m c) (refuse de 0 m)).answer
    go true = outcome-unmoved m (or_else (call_refusal de c) (state_refusal de m.size m c)) (accept de S m.size m c)
    go false = refl

-- ---- a call in numbers

spelled-known : (c : Call de) → is_known (spelled c) ≡ true
spelled-known c = and-true (distribution-known c.distribution.distribution) (trials-known c.history)

-- a known call is answered as the call that its numbers stand for, whatever the memory holds
module _ (g : DeState) (q : Sent) (k : is_known q ≡ true) where
  abbrev c : Call de
  c = meant q

  pub meant_answer : answer_to g q ≡ answer_to g (spelled (meant q))
  meant_answer =
      same_answer g q.call (spelled c).call q.history (spelled c).history (k ∙ sym (spelled-known c)) (sym (distribution-back c.distribution.distribution)) refl (sym (trials-back c.history))

  pub meant_state : leaves g q ≡ leaves g (spelled (meant q))
  meant_state =
      same_state g q.call (spelled c).call q.history (spelled c).history (k ∙ sym (spelled-known c)) (sym (distribution-back c.distribution.distribution)) refl (sym (trials-back c.history))

-- ---- a call on the memory that holds s

module _ (s : State) (c : Call de) where
  abbrev result : Returned de State
  result = sample_of s c.distribution.distribution c.number c.history

  -- what the numbers of a call stand for is the call
  spelled-back : sample_of s (distribution_of (spelled c).call.distribution) c.number (map trial_of (spelled c).history) ≡ result
  spelled-back = λ i. sample_of s (distribution-back c.distribution.distribution i) c.number (trials-back c.history i)

  answer-is : answer_to (flat_of s) (spelled c) ≡ told (answered result.answer result.draws)
  answer-is = one_answer s (spelled c).call (spelled c).history (spelled-known c) ∙ ap (λ (r : Returned de State). told (answered r.answer r.draws)) spelled-back

  state-is : leaves (flat_of s) (spelled c) ≡ held_after result.answer s result.state
  state-is = one_state s (spelled c).call (spelled c).history (spelled-known c) ∙ ap (λ (r : Returned de State). held_after r.answer s r.state) spelled-back

-- what a call returns that the sampler refuses, and one that it accepts
given_is : (s : State) (c : Call de) (x : ParamValue) → (result s c).answer ≡ Plain.given x
    → called (flat_of s) (spelled c) ≡ record { answer = Plain.given x; draws = (result s c).draws; state = flat_of (result s c).state }
given_is s c x e =
    let a : answer_to (flat_of s) (spelled c) ≡ setting_answer x (result s c).draws = answer-is s c ∙ ap (λ (z : Plain.Answer de). told (answered z (result s c).draws)) e in
    let m : leaves (flat_of s) (spelled c) ≡ flat_of (result s c).state = state-is s c ∙ ap (λ (z : Plain.Answer de). held_after z s (result s c).state) e in
    λ i. record { answer = (ap read_answer a ∙ setting-read x (result s c).draws) i; draws = (ap (λ (z : DeAnswer). z.draws) a ∙ setting-draws x (result s c).draws) i; state = m i }

refused-is : (s : State) (c : Call de) (n : ℕ) → (result s c).answer ≡ Plain.refused n → called (flat_of s) (spelled c) ≡ record { answer = Plain.refused n; draws = 0; state = flat_of s }
refused-is s c n e =
    let a : answer_to (flat_of s) (spelled c) ≡ bare_answer 0 n = answer-is s c ∙ ap (λ (z : Plain.Answer de). told (answered z (result s c).draws)) e in
    let m : leaves (flat_of s) (spelled c) ≡ flat_of s = state-is s c ∙ ap (λ (z : Plain.Answer de). held_after z s (result s c).state) e in
    λ i. record { answer = ap read_answer a i; draws = ap (λ (z : DeAnswer). z.draws) a i; state = m i }

module _ (f : DeState) (u : DeSetup) (known : known_setup u ≡ true) (ok : is_ok (setup_verdict (setup_of u)) ≡ true) where
  abbrev S : Setup
  S = setup_of u

  abbrev own : Meets de (program S) S
  own = Of.meets S ok

  -- the memory holds a clean state of the sampler
  pub record Holds (g : DeState) : Type 0 where
    pub state : State
    pub clean : own.Clean state
    pub is : g ≡ flat_of state

  -- ---- the memory after the accepted set-up call

  pub new_is : new_state f u ≡ flat_of (fresh_state S)
  unfolding new_state settled_setup built_of fresh_flat
  new_is = rw known (go (setup_verdict S) ok)
    where
      go : (v : Result ⊤ Refusal) → is_ok v ≡ true → made_state f (built_answer (built_by v S)) ≡ flat_of (fresh_state S)
      go (Ok tt) e = refl
      go (Err r) e = absurd (true≢false (sym e))

  -- ---- one call

  module _ (s : State) (c : Call de) (k : own.Clean s) where
    -- the caller reads what the definition answers, and sees its state in the memory
    call_view : viewed de (library f u) (called (flat_of s) (spelled c)) ≡ sample de S (view s) c
    call_view = go (result s c).answer refl
      where
        go : (a : Plain.Answer de) → (result s c).answer ≡ a → viewed de (library f u) (called (flat_of s) (spelled c)) ≡ sample de S (view s) c
        go (Plain.given x) e =
            ap (viewed de (library f u)) (given_is s c x e)
            ∙ (λ i. record { answer = sym e i; draws = (result s c).draws; state = view (lossless (result s c).state i) })
            ∙ own.call_view s c k
        go (Plain.refused n) e =
            let q : (sample de S (view s) c).answer ≡ Plain.refused n = sym (ap (λ (z : Returned de (Plain.State de)). z.answer) (own.call_view s c k)) ∙ e in
            ap (viewed de (library f u)) (refused-is s c n e)
            ∙ (λ i. record { answer = Plain.refused n; draws = 0; state = view (lossless s i) })
            ∙ sym (subst (Unmoved (view s) (sample de S (view s) c)) q (sample-unmoved S (view s) c))

    call-holds : Holds (called (flat_of s) (spelled c)).state
    call-holds = go (result s c).answer refl
      where
        go : (a : Plain.Answer de) → (result s c).answer ≡ a → Holds (called (flat_of s) (spelled c)).state
        go (Plain.given x) e = record { state = (result s c).state; clean = own.call_clean s c k; is = ap (λ (z : Returned de DeState). z.state) (given_is s c x e) }
        go (Plain.refused n) e = record { state = s; clean = k; is = ap (λ (z : Returned de DeState). z.state) (refused-is s c n e) }

  meets : Meets de (library f u) S
  meets =
      record {
        Clean = Holds;
        new_clean = record { state = fresh_state S; clean = own.new_clean; is = new_is };
        call_clean = λ g c h. subst (λ (x : DeState). Holds (called x (spelled c)).state) (sym h.is) (call-holds h.state c h.clean);
        view_whole = λ g g' a b e.
            a.is ∙ ap flat_of (own.view_whole a.state b.state a.clean b.clean (sym (seen g a) ∙ (e ∙ seen g' b))) ∙ sym b.is;
        new_view = ap (λ (x : DeState). view (open_of x)) new_is ∙ ap view (lossless (fresh_state S)) ∙ own.new_view;
        call_view = λ g c h.
            ap (λ (x : DeState). viewed de (library f u) (called x (spelled c))) h.is ∙ call_view h.state c h.clean ∙ ap (λ m. sample de S m c) (sym (seen g h));
      }
    where
      seen : (g : DeState) (h : Holds g) → view (open_of g) ≡ view h.state
      seen g h = ap (λ (x : DeState). view (open_of x)) h.is ∙ ap view (lossless h.state)

  -- ---- what is sent

  meant_is : (g : DeState) (q : Sent) → is_known q ≡ true → called g q ≡ called g (spelled (meant q))
  meant_is g q k = λ i. record { answer = read_answer (meant_answer g q k i); draws = (meant_answer g q k i).draws; state = meant_state g q k i }

  reads-are : (g : DeState) (qs : List Sent) → reads_from f u g qs ≡ returns_from de (library f u) g (meant_by qs)
  unfolding reads_from meant_by returns_from
  reads-are g [] = refl
  reads-are g (q ∷ qs) = go (is_known q) refl (λ x. reads-are x qs)
    where
      next : DeState
      next = sample_state g q.call q.history

      go : (b : Bool) → is_known q ≡ b → ((x : DeState) → reads_from f u x qs ≡ returns_from de (library f u) x (meant_by qs))
          → cond b (viewed de (library f u) (called g q) ∷ reads_from f u next qs) (reads_from f u next qs) ≡ returns_from de (library f u) g (cond b (meant q ∷ meant_by qs) (meant_by qs))
      go true k rest =
          ap (λ (r : Returned de DeState). viewed de (library f u) r ∷ reads_from f u r.state qs) (meant_is g q k)
          ∙ ap (λ (rs : List (Returned de (Plain.State de))). viewed de (library f u) (called g (spelled (meant q))) ∷ rs) (rest (called g (spelled (meant q))).state)
      go false k rest = ap (λ (x : DeState). reads_from f u x qs) (unknown-state g q.call q.history k) ∙ rest g

  -- THE THEOREM
  pub library-demand3 : (qs : List Sent) → LibraryDemand3 f u qs
  library-demand3 qs =
      record {
        unknown = λ q _ k g. (unknown-answer g q.call q.history k, unknown-state g q.call q.history k);
        reads = reads-are (new_state f u) qs;
        claim = program-demand3 de de-laws (library f u) S ok meets (meant_by qs);
      }

  -- and over every list the caller reads what the definition returns: answers, draws and states
  pub library-answers : (qs : List Sent) → reads_from f u (new_state f u) qs ≡ returns_from de (definition de S) (fresh de S) (meant_by qs)
  library-answers qs = reads-are (new_state f u) qs ∙ program-answers de de-laws (library f u) S meets (meant_by qs)
