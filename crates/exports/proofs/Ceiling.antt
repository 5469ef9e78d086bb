-- THE DRAW CEILING OF THE LIBRARY (W1), for every memory and every call that a C caller can send: the sampler's own, since what is not known is answered without a draw and what the
-- memory holds after a setting opens to the sampler's state.
use Rattle.std.specs.Prelude.{is_ok, map}
use Prim.Native.Nat.{ℕ, ◌≤◌}
use native.Mathlib.Omega.{arith}
use mathlib.Core.Path.{◌≡◌, refl, sym, ap, subst}
use mathlib.Core.Bool.{Bool, true, false, ◌&&◌, cond}
use lib.Dec.{eqb, leb}
use Rattle.ledger.specs.State as Plain
use Rattle.ledger.specs.State.{Returned}
use Rattle.kernel.specs.De.{de}
use Rattle.state.specs.declared.State.{State}
use Rattle.std.proofs.lemmas.Bool.{and_parts}
use Rattle.de.specs.Ceiling.{draw_ceiling, ceiling_for, most_draws}
use Rattle.de.proofs.DrawCeiling.{draw-ceiling}
use Rattle.de.proofs.CallCeiling.{call-ceiling, never-more, ahead-ceiling}
use Rattle.edge.specs.declared.flat.DeState.{DeState}
use Rattle.edge.specs.Flat.{setup_of, distribution_of, flat_setup, open_with, open_of, flat_of}
use Rattle.edge.specs.Known.{known_setup, known_with, known_state}
use Rattle.edge.specs.Trial.{trial_of}
use Rattle.edge.specs.Answers.{settled_of, told}
use Rattle.exports.specs.Calls.{known_call, sampled_from, sample_answer, sample_state}
use Rattle.exports.specs.Ceiling.{ceiling_at}
use Rattle.exports.specs.Program.{Sent, answer_to, leaves}
use Rattle.exports.proofs.Edge.{strategy-back, strategy-known, lossless}
use Rattle.exports.proofs.Demand.{setting-draws}

-- what is true of a call that draws nothing and of what the sampler makes is true of the library's call
module _ (f : DeState) (q : Sent) (P : ℕ → DeState → Type 0) (idle : (g : DeState) → P 0 g) where
  abbrev r : Returned de State
  r = sampled_from f q.call q.history

  of-sampler : (known_state f ≡ true → P r.draws (flat_of r.state)) → P (answer_to f q).draws (leaves f q)
  unfolding sample_answer sample_state settled_of
  of-sampler h = go (known_call q.call q.history) (known_state f) refl r.answer
    where
      go : (c s : Bool) → known_state f ≡ s → (a : Plain.Answer de) → let o = settled_of c s a r.draws in P (told o).draws (cond (is_ok o) (flat_of r.state) f)
      go false s e a = idle f
      go true false e a = idle f
      go true true e (Plain.refused n) = idle f
      go true true e (Plain.given x) = subst (λ (k : ℕ). P k (flat_of r.state)) (sym (setting-draws x r.draws)) (h e)

-- the ceiling by the state's numbers is the ceiling of the state
flat-ceiling : (draws : ℕ) (s : State) → draws ≤ ceiling_for s.setup.strategy s.n s.n_dims → let g = flat_of s in draws ≤ ceiling_at g.n g.n_dims g.setup.strategy
unfolding ceiling_at flat_of flat_setup
flat-ceiling draws s h = rw (strategy-known s.setup.strategy, strategy-back s.setup.strategy) h

known-strategy : (f : DeState) → known_state f ≡ true → leb f.setup.strategy 2 ≡ true
unfolding known_with known_setup
known-strategy f k =
    let flags = (and_parts (known_setup f.setup && leb f.named 1 && leb f.discovered 1) _ k).0 in
    let named = (and_parts (known_setup f.setup && leb f.named 1) _ flags).0 in
    let numbers = (and_parts (leb f.setup.strategy 2 && leb f.setup.sized 1) _ (and_parts (known_setup f.setup) _ named).0).0 in
    (and_parts (leb f.setup.strategy 2) _ numbers).0

-- ---- THE THEOREMS

module _ (f : DeState) (q : Sent) where
  abbrev made : Returned de State
  made = sampled_from f q.call q.history

  pub library-draw-ceiling : (answer_to f q).draws ≤ draw_ceiling (open_of f) (open_of (leaves f q)) q.call.trial
  library-draw-ceiling =
      of-sampler f q (λ draws g. draws ≤ draw_ceiling (open_of f) (open_of g) q.call.trial) (λ g. omega arith)
      (λ k. rw (lossless made.state) (draw-ceiling (open_of f) (distribution_of q.call.distribution) q.call.trial (map trial_of q.history)))

  -- what `de_draw_ceiling` answers to the numbers that the memory holds after the call
  pub library-call-ceiling : (answer_to f q).draws ≤ ceiling_at (leaves f q).n (leaves f q).n_dims (leaves f q).setup.strategy
  library-call-ceiling =
      of-sampler f q (λ draws g. draws ≤ ceiling_at g.n g.n_dims g.setup.strategy) (λ g. omega arith)
      (λ k. flat-ceiling made.draws made.state (call-ceiling (open_of f) (distribution_of q.call.distribution) q.call.trial (map trial_of q.history)))

  pub library-never-more : (answer_to f q).draws ≤ most_draws
  library-never-more = of-sampler f q (λ draws g. draws ≤ most_draws) (λ g. omega arith) (λ k. never-more (open_of f) (distribution_of q.call.distribution) q.call.trial (map trial_of q.history))

  -- ahead of a call: once `discovered` is 1, what it answers to the numbers that the memory holds before the call
  pub library-ahead-ceiling : f.discovered ≡ 1 → (answer_to f q).draws ≤ ceiling_at f.n f.n_dims f.setup.strategy
  unfolding ceiling_at open_with setup_of
  library-ahead-ceiling e =
      of-sampler f q (λ draws g. draws ≤ ceiling_at f.n f.n_dims f.setup.strategy) (λ g. omega arith)
      (λ k. rw (known-strategy f k) (ahead-ceiling (open_of f) (distribution_of q.call.distribution) q.call.trial (map trial_of q.history) (ap (λ (x : ℕ). eqb x 1) e)))
