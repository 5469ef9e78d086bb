-- A history with an unknown entry gives no setting, since such an entry opens to a NaN that is refused. So it is enough to judge the entries where there
-- is none.
use Rattle.std.specs.Prelude.{Option, Some, None, is_some, Result, Ok, Err, is_ok}
use Prim.Native.Nat.{ℕ}
use mathlib.Core.Path.{◌≡◌, refl, sym, ap, ◌∙◌}
use mathlib.Core.Bool.{Bool, true, false, ◌&&◌, ◌||◌, cond, true≢false}
use mathlib.Core.List.{List, [], ◌∷◌, map}
use lib.Ieee.{is_nan}
use Rattle.std.proofs.Math.Bool.{or-true}
use Rattle.history.specs.Entry.{state_from, is_bad}
use Rattle.history.specs.History.{any_nan}
use Rattle.history.specs.declared.TrialState.{TrialState}
use Rattle.ledger.specs.State as Plain
use Rattle.ledger.specs.State.{Returned}
use Rattle.kernel.specs.De.{de}
use Rattle.state.specs.declared.State.{State}
use Rattle.de.proofs.Refused.{Refuses, nan-refused}
use Rattle.edge.specs.Answers.{unknown, settled_of, told}
use Rattle.edge.specs.Flat.{distribution_of, open_of, flat_of}
use Rattle.edge.specs.Known.{known_distribution, known_state}
use Rattle.edge.specs.Trial.{known_trial, known_history, trial_in, trial_of}
use Rattle.edge.specs.declared.answers.DeAnswer.{DeAnswer}
use Rattle.edge.specs.declared.answers.DeCall.{DeCall}
use Rattle.edge.specs.declared.flat.DeState.{DeState}
use Rattle.edge.specs.declared.trial.DeCompletedTrial.{DeCompletedTrial}
use Rattle.edge.proofs.Settled.{unknown-stores-nothing}
use Rattle.exports.specs.Calls.{sampled_from, settled_sample, sample_answer, sample_state, unjudged_sample, unjudged_state}

no-state : (o : Option TrialState) → is_some o ≡ false → o ≡ None
no-state (Some t) e = absurd (true≢false e)
no-state None e = refl

opens-bad : (t : DeCompletedTrial) → known_trial t ≡ false → is_bad (trial_of t) ≡ true
unfolding is_bad is_nan
opens-bad t e = ap (λ (o : Option TrialState). is_bad (trial_in o t)) (no-state (state_from t.state) e)

-- one unknown entry is refusal 8
unknown-bad : (h : List DeCompletedTrial) → known_history h ≡ false → any_nan (map trial_of h) ≡ true
unfolding any_nan
unknown-bad [] e = absurd (true≢false e)
unknown-bad (t ∷ h) e = go (known_trial t) refl e (unknown-bad h)
  where
    go : (b : Bool) → known_trial t ≡ b → (b && known_history h) ≡ false → (known_history h ≡ false → any_nan (map trial_of h) ≡ true) → (is_bad (trial_of t) || any_nan (map trial_of h)) ≡ true
    go false k w rest = ap (λ (x : Bool). x || any_nan (map trial_of h)) (opens-bad t k)
    go true k w rest = ap (λ (x : Bool). is_bad (trial_of t) || x) (rest w) ∙ or-true (is_bad (trial_of t))

not-given : (x y : Bool) (a : Plain.Answer de) (draws : ℕ) → Refuses a → is_ok (settled_of x y a draws) ≡ false
unfolding settled_of
not-given true true (Plain.refused n) draws r = refl
not-given true true (Plain.given z) draws r = absurd r
not-given true false a draws r = refl
not-given false y a draws r = refl

module _ (f : DeState) (c : DeCall) (h : List DeCompletedTrial) where
  abbrev r : Returned de State
  r = sampled_from f c h

  -- every entry is known
  module _ (k : known_history h ≡ true) where
    pub known-same : unjudged_sample f c h ≡ settled_sample f c h
    known-same = go (known_distribution c.distribution) ∙ ap (λ (b : Bool). settled_of (known_distribution c.distribution && b) (known_state f) r.answer r.draws) (sym k)
      where
        go : (x : Bool) → settled_of x (known_state f) r.answer r.draws ≡ settled_of (x && true) (known_state f) r.answer r.draws
        go true = refl
        go false = refl

  -- one is not
  module _ (k : known_history h ≡ false) where
    pub unknown-none : is_ok (unjudged_sample f c h) ≡ false
    unknown-none = not-given (known_distribution c.distribution) (known_state f) r.answer r.draws (nan-refused (open_of f) (distribution_of c.distribution) c.trial (map trial_of h) (unknown-bad h k))

    pub unknown-kind : settled_sample f c h ≡ Err unknown
    unknown-kind = go (known_distribution c.distribution) ∙ unknown-stores-nothing (known_state f) r.answer r.draws
      where
        go : (x : Bool) → settled_of (x && known_history h) (known_state f) r.answer r.draws ≡ settled_of false (known_state f) r.answer r.draws
        go true = ap (λ (b : Bool). settled_of b (known_state f) r.answer r.draws) k
        go false = refl

  -- ---- the laws, of the memory after the call and of its answer

  pub judged-state : unjudged_state f c h ≡ sample_state f c h
  unfolding sample_state
  judged-state = go (known_history h) refl
    where
      go : (b : Bool) → known_history h ≡ b → unjudged_state f c h ≡ sample_state f c h
      go true k = ap (λ (z : Result DeAnswer DeAnswer). cond (is_ok z) (flat_of r.state) f) (known-same k)
      go false k = ap (λ (b : Bool). cond b (flat_of r.state) f) (unknown-none k) ∙ ap (λ (z : Result DeAnswer DeAnswer). cond (is_ok z) (flat_of r.state) f) (sym (unknown-kind k))

  pub judged-given : (a : DeAnswer) → Ok a ≡ unjudged_sample f c h → a ≡ sample_answer f c h
  unfolding sample_answer
  judged-given a e = go (known_history h) refl
    where
      go : (b : Bool) → known_history h ≡ b → a ≡ told (settled_sample f c h)
      go true k = ap told (e ∙ known-same k)
      go false k = absurd (true≢false (ap is_ok e ∙ unknown-none k))

  pub judged-known : (a : DeAnswer) → Err a ≡ unjudged_sample f c h → known_history h ≡ true → a ≡ sample_answer f c h
  unfolding sample_answer
  judged-known a e k = ap told (e ∙ known-same k)

  pub judged-unknown : known_history h ≡ false → unknown ≡ sample_answer f c h
  unfolding sample_answer
  judged-unknown k = ap told (sym (unknown-kind k))
