-- DEMAND 1 OF THE CODE, for every state, distribution, trial number and history, sound or not: the refusal is the first of the table that applies, and it counts zero draws and hands
-- back the state that came in. A refused call on a sound state returns that state laid out again, and a sound state is laid out.
use Rattle.std.specs.Prelude.{Option, Some, None, Err}
use Prim.Native.Nat.{ℕ}
use mathlib.Core.Path.{◌≡◌, refl, sym, ap, subst, ◌∙◌}
use mathlib.Core.Bool.{Bool, true, false, cond, true≢false}
use mathlib.Core.List.{List}
use Rattle.distribution.specs.Refusals.{refusal_number}
use Rattle.distribution.specs.declared.Distribution.{Distribution}
use Rattle.distribution.specs.declared.Refusal.{Refusal}
use Rattle.evolution.specs.declared.Setup.{Setup}
use Rattle.history.specs.History.{any_nan}
use Rattle.history.specs.declared.CompletedTrial.{CompletedTrial}
use Rattle.ledger.specs.Words.{or_else, refuse_if}
use Rattle.ledger.specs.Call.{Call, any_bad, call_refusal}
use Rattle.ledger.specs.State as Plain
use Rattle.ledger.specs.State.{Returned, refuse}
use Rattle.ledger.specs.Assignment.{Accepted}
use Rattle.ledger.specs.Claim.{refusal_in}
use Rattle.ledger.specs.Sample.{step, outcome, state_refusal, accept}
use Rattle.ledger.proofs.Sound.{step-sound}
use Rattle.kernel.specs.De.{de}
use Rattle.kernel.proofs.Kernel.{de-laws}
use Rattle.state.specs.Sound.{sound_state}
use Rattle.state.specs.View.{view, laid}
use Rattle.state.specs.declared.State.{State}
use Rattle.state.proofs.Laid.{laid-sound}
use Rattle.state.proofs.Measured.{Measured}
use Rattle.state.proofs.Tidy as Tidy
use Rattle.de.specs.Answer.{plain_answer, numbered}
use Rattle.de.specs.Demand1.{table_refusal, only_refuses, Demand1}
use Rattle.de.specs.Sample.{call_of, laid_result, unsound, sample_of}
use Rattle.de.proofs.Gather.{same-bad}
use Rattle.de.specs.declared.Sampled.{Sampled}

-- ---- its number is the first of the table that applies, for every state

outcome-by : (m : Plain.State de) (S : Setup) (o : Option ℕ) (a : Accepted de) → refusal_in de (laid_result S (outcome de m o a)).answer ≡ o
outcome-by m S (Some r) a = refl
outcome-by m S None a = refl

pub refused_by : (s : State) (d : Distribution) (n : ℕ) (h : List CompletedTrial) → refusal_in de (sample_of s d n h).answer ≡ table_refusal s (call_of n d h)
unfolding sample_of step
refused_by s d n h = go (sound_state s)
  where
    c : Call de
    c = call_of n d h

    by : Option ℕ
    by = or_else (call_refusal de c) (state_refusal de (view s).size (view s) c)

    go : (b : Bool) → refusal_in de (cond b (laid_result s.setup (step de s.setup (view s) c)) (unsound s)).answer ≡ cond b by (Some 0)
    go true = outcome-by (view s) s.setup by (accept de s.setup (view s).size (view s) c)
    go false = refl

-- ---- a history with an entry that refusal 8 is for gives no setting: that or another refusal is given

-- refused, or no setting by its type
abbrev pub Refuses : Plain.Answer de → Type 0
Refuses (Plain.refused n) = Unit {0}
Refuses (Plain.given x) = ⊥

pub nan-refused : (s : State) (d : Distribution) (n : ℕ) (h : List CompletedTrial) → any_nan h ≡ true → Refuses (sample_of s d n h).answer
unfolding sample_of step
nan-refused s d n h bad = go (sound_state s) (de.judged (call_of n d h).distribution) (any_bad de h) (sym (same-bad h) ∙ bad)
  where
    by : Option ℕ
    by = state_refusal de (view s).size (view s) (call_of n d h)

    go : (b : Bool) (o : Option ℕ) (x : Bool) → x ≡ true
        → Refuses (cond b (laid_result s.setup (outcome de (view s) (or_else (or_else o (refuse_if x 8)) by) (accept de s.setup (view s).size (view s) (call_of n d h)))) (unsound s)).answer
    go true (Some r) x e = tt
    go true None true e = tt
    go true None false e = absurd (true≢false (sym e))
    go false o x e = tt

-- ---- a refusal hands back the state that came in

-- what was returned, by its answer
abbrev Unmoved : State → Returned de State → Plain.Answer de → Type 0
Unmoved s r (Plain.refused q) = r ≡ refuse de q s
Unmoved s r (Plain.given x) = Unit {0}

laid-unmoved : (s : State) (is : s ≡ laid s.setup (view s)) (o : Option ℕ) (a : Accepted de)
    → Unmoved s (laid_result s.setup (outcome de (view s) o a)) (outcome de (view s) o a).answer
laid-unmoved s is (Some r) a = ap (refuse de r) (sym is)
laid-unmoved s is None a = tt

unmoved : (s : State) → Measured s → (d : Distribution) (n : ℕ) (h : List CompletedTrial) → Unmoved s (sample_of s d n h) (sample_of s d n h).answer
unfolding sample_of step
unmoved s mm d n h = go (sound_state s) refl
  where
    c : Call de
    c = call_of n d h

    made : Returned de State
    made = laid_result s.setup (step de s.setup (view s) c)

    go : (b : Bool) → sound_state s ≡ b → Unmoved s (cond b made (unsound s)) (cond b made (unsound s)).answer
    go true e = laid-unmoved s (Tidy.is-laid s e mm) (or_else (call_refusal de c) (state_refusal de (view s).size (view s) c)) (accept de s.setup (view s).size (view s) c)
    go false e = refl

-- `Measured`: the arrays have their lengths, as those of every state in memory do; r is what the call returned, by its contract
module _ (s : State) (mm : Measured s) (d : Distribution) (n : ℕ) (h : List CompletedTrial) (r : Sampled) (returned : numbered r ≡ sample_of s d n h) where
  pub refused_unmoved : (q : Refusal) → r.answer ≡ Err q → r ≡ only_refuses q s
  refused_unmoved q e =
      let a : (sample_of s d n h).answer ≡ Plain.refused (refusal_number q) = sym (ap (λ (x : Returned de State). x.answer) returned) ∙ ap plain_answer e in
      let all : numbered r ≡ refuse de (refusal_number q) s = returned ∙ subst (Unmoved s (sample_of s d n h)) a (unmoved s mm d n h) in
      λ i. record { answer = e i; state = (all i).state; draws = (all i).draws }

  -- THE DEMAND
  pub sample-demand1 : Demand1 s (call_of n d h) r
  sample-demand1 = record { refused_by = ap (λ (x : Returned de State). refusal_in de x.answer) returned ∙ refused_by s d n h; refused_unmoved = refused_unmoved }

-- ---- any call on any sound state leaves a sound state
pub sampled-sound : (s : State) (d : Distribution) (n : ℕ) (h : List CompletedTrial) → sound_state s ≡ true → sound_state (sample_of s d n h).state ≡ true
unfolding sample_of
sampled-sound s d n h e =
    rw e
    (laid-sound s.setup (step de s.setup (view s) (call_of n d h)).state
    (step-sound de de-laws s.setup (Tidy.setup-valid s e) (view s) (call_of n d h) (Tidy.view-sound s e de-laws)) (Tidy.setup-valid s e) de-laws)
