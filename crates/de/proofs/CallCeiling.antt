-- THE CEILING FOR CALLERS (W1): what `draw_ceiling` answers for the state after a call is at least what the call drew; and no call draws more than 494,080. Idea: each case of the draw ceiling is at most N × (.. + D)
-- where N is fixed, and before that at most D.
use Rattle.std.specs.Prelude.{Option, Some, None, is_none, slice_get, is_ok}
use Prim.Native.Nat.{ℕ, ◌+◌, ◌*◌, ◌≤◌, min}
use native.Mathlib.Nat.{le_trans, mul-le-mul}
use native.Mathlib.Omega.{arith}
use mathlib.Core.Path.{◌≡◌, refl, ap, subst, ◌∙◌}
use mathlib.Core.Bool.{Bool, true, false, ◌&&◌, ◌||◌, cond}
use mathlib.Core.List.{List}
use borrow.Author.Tests.{leb-true, ne_eqb}
use lib.Dec.{leb}
use lib.Ieee.{Float}
use lib.ListN.{length, length-take}
use Rattle.distribution.specs.declared.Distribution.{Distribution}
use Rattle.history.specs.declared.CompletedTrial.{CompletedTrial}
use Rattle.candidates.specs.declared.Candidate.{Candidate}
use Rattle.evolution.specs.declared.Setup.{Setup}
use Rattle.evolution.specs.declared.DEStrategy.{DEStrategy}
use Rattle.ledger.specs.Kernel as L
use Rattle.ledger.specs.Words.{or_else}
use Rattle.ledger.specs.Call.{Call, call_refusal}
use Rattle.ledger.specs.State as Plain
use Rattle.ledger.specs.State.{numbers, start_gen}
use Rattle.ledger.specs.Closing.{counted, close}
use Rattle.ledger.specs.Assignment.{place_in, assign}
use Rattle.ledger.specs.Soundness.{Sound}
use Rattle.ledger.specs.Sample.{sampling, state_refusal, accept, outcome, step}
use Rattle.ledger.proofs.Lists.{none≢some}
use Rattle.ledger.proofs.Sound.{step-sound}
use Rattle.kernel.specs.Ceiling.{closes, has_candidate, per_slot, generation_ceiling, step_ceiling}
use Rattle.kernel.specs.De.{de}
use Rattle.kernel.proofs.Ceiling.{step-few}
use Rattle.kernel.proofs.Kernel.{de-laws}
use Rattle.kernel.specs.Setup.{setup_verdict}
use Rattle.state.specs.Sound.{clean_test, sound_state}
use Rattle.state.specs.View.{size_in, size_number, view, laid}
use Rattle.state.specs.declared.State.{State}
use Rattle.std.proofs.lemmas.Bool.{and_parts}
use Rattle.state.proofs.Laid.{slots-few}
use Rattle.state.proofs.Tidy.{setup-valid, view-sound}
use Rattle.de.specs.Ceiling.{ceiling_for, most_draws}
use Rattle.de.specs.Sample.{call_of, laid_result, unsound, sample_of}
use Rattle.de.proofs.Ceilings.{within, ceiling-most, ceiling-grows}

-- N slots draw no less than one
generation-least : (q : DEStrategy) (N D : ℕ) → 4 ≤ N → D ≤ generation_ceiling q N D
generation-least q N D h =
    let one : 1 * (per_slot q + D) ≤ generation_ceiling q N D = mul-le-mul {n₁ = 1} {m₁ = per_slot q + D} {n₂ = N} {m₂ = per_slot q + D} (omega arith) (omega arith) in
    omega (arith, one)

module _ (S : Setup) (q : DEStrategy) (before after : Plain.State de) (n : ℕ) (v : Sound de S after) where
  in-discovery : after.size ≡ None → step_ceiling q before after n ≤ length after.dims
  unfolding step_ceiling
  in-discovery e = rw e (go (closes before after) (is_none before.size) (has_candidate before n))
    where
      D : ℕ
      D = length after.dims

      go : (b o t : Bool) → cond (b || (o && false)) (0 * (per_slot q + D)) (cond t (min 1 D) D) ≤ D
      go true o t = omega arith
      go false true true = omega arith
      go false true false = omega arith
      go false false true = omega arith
      go false false false = omega arith

  after-discovery : (N : ℕ) → after.size ≡ Some N → step_ceiling q before after n ≤ generation_ceiling q N (length after.dims)
  unfolding step_ceiling
  after-discovery N e = rw e (go (closes before after || (is_none before.size && true)) (has_candidate before n))
    where
      D : ℕ
      D = length after.dims

      least : D ≤ generation_ceiling q N D
      least = generation-least q N D (omega (arith, (v.after N e).sized, de-laws.sized S after.dims))

      go : (b t : Bool) → cond b (generation_ceiling q N D) (cond t (min 1 D) D) ≤ generation_ceiling q N D
      go true t = omega arith
      go false true = omega (arith, least)
      go false false = least

  module _ (ok : is_ok (setup_verdict S) ≡ true) where
    in-call : step_ceiling q before after n ≤ ceiling_for q (size_number after.size) (length after.dims)
    in-call = go after.size refl
      where
        go : (z : Option ℕ) → after.size ≡ z → step_ceiling q before after n ≤ ceiling_for q (size_number z) (length after.dims)
        go None e = rw (within q 0 (length after.dims) (omega arith) v.dims_few) (in-discovery e)
        go (Some N) e =
            let some-slots : N ≡ 0 → ⊥ = λ z. omega (arith, z, (v.after N e).sized, de-laws.sized S after.dims) in
            rw (within q N (length after.dims) (slots-few S after v ok N e) v.dims_few, ne_eqb N 0 some-slots) (after-discovery N e)

-- ---- after discovery N and D stay

module _ (S : Setup) (c : Call de) where
  -- what a state keeps
  abbrev Keeps : Plain.State de → Plain.State de → Type 0
  Keeps m t = (t.size ≡ m.size) × (t.dims ≡ m.dims)

  assign-keeps : (m : Plain.State de) (g : L.Gen ℕ) (o : Option Candidate) → Keeps m (assign de S m c g o).state
  unfolding assign
  assign-keeps m g (Some y) = (refl, refl)
  assign-keeps m g None = (refl, refl)

  close-keeps : (m : Plain.State de) (g : L.Gen ℕ) (o : Option (List Float)) → Keeps m (close de S m g o).out
  unfolding close
  close-keeps m g None = (refl, refl)
  close-keeps m g (Some row) = (refl, refl)

  step_keeps : (m : Plain.State de) (N : ℕ) → m.size ≡ Some N → Keeps m (step de S m c).state
  unfolding step accept sampling
  step_keeps m N sized = go (or_else (call_refusal de c) (state_refusal de m.size m c)) m.size sized
    where
      go : (r z : Option ℕ) → z ≡ Some N → Keeps m (outcome de m r (accept de S z m c)).state
      go (Some r) z e = (refl, refl)
      go None None e = absurd (none≢some e)
      go None (Some M) e =
          let row = counted de M (numbers m.trials) c.history in
          let p = close de S m (start_gen de m) row in
          let k = close-keeps m (start_gen de m) row in
          let j = assign-keeps p.out p.gen (slice_get p.out.candidates (place_in (numbers p.out.trials) c.number)) in
          (j.0 ∙ k.0, j.1 ∙ k.1)

-- ---- N and D in the code's state

view-size : (s : State) → s.discovered ≡ true → (view s).size ≡ Some s.n
unfolding view
view-size s f = ap (λ (b : Bool). size_in b s.n) f

view-dims : (s : State) → length (view s).dims ≤ s.n_dims
unfolding view
view-dims s = omega (arith, length-take s.n_dims s.dims)

few_dims : (s : State) → sound_state s ≡ true → s.n_dims ≤ 16
unfolding sound_state clean_test
few_dims s e = leb-true s.n_dims 16 (and_parts (leb s.n_dims 16) _ (and_parts (clean_test s) _ e).0).0

-- ---- of every call

module _ (s : State) (d : Distribution) (n : ℕ) (h : List CompletedTrial) where
  pub call-ceiling : let r = sample_of s d n h in r.draws ≤ ceiling_for r.state.setup.strategy r.state.n r.state.n_dims
  unfolding sample_of laid
  call-ceiling = go (sound_state s) refl
    where
      S : Setup
      S = s.setup

      c : Call de
      c = call_of n d h

      go : (b : Bool) → sound_state s ≡ b → let r = cond b (laid_result S (step de S (view s) c)) (unsound s) in r.draws ≤ ceiling_for r.state.setup.strategy r.state.n r.state.n_dims
      go false e = omega arith
      go true e =
          let v = view-sound s e de-laws in
          let ok = setup-valid s e in
          le_trans (step-few S (view s) c v) (in-call S S.strategy (view s) (step de S (view s) c).state n (step-sound de de-laws S ok (view s) c v) ok)

  -- whatever the state, the distribution, the trial and the history
  pub never-more : (sample_of s d n h).draws ≤ most_draws
  never-more = let r = sample_of s d n h in le_trans call-ceiling (ceiling-most r.state.setup.strategy r.state.n r.state.n_dims)

  -- ahead of a call: once discovery has ended, by the state that is handed in
  pub ahead-ceiling : s.discovered ≡ true → (sample_of s d n h).draws ≤ ceiling_for s.setup.strategy s.n s.n_dims
  unfolding sample_of
  ahead-ceiling f = go (sound_state s) refl
    where
      S : Setup
      S = s.setup

      c : Call de
      c = call_of n d h

      go : (b : Bool) → sound_state s ≡ b → (cond b (laid_result S (step de S (view s) c)) (unsound s)).draws ≤ ceiling_for S.strategy s.n s.n_dims
      go false e = omega arith
      go true e =
          let v = view-sound s e de-laws in
          let t = (step de S (view s) c).state in
          let ok = setup-valid s e in
          let u = step-sound de de-laws S ok (view s) c v in
          let k = step_keeps S c (view s) s.n (view-size s f) in
          let sized : t.size ≡ Some s.n = k.0 ∙ view-size s f in
          let few : length t.dims ≤ s.n_dims = omega (arith, ap length k.1, view-dims s) in
          let at : (step de S (view s) c).draws ≤ ceiling_for S.strategy s.n (length t.dims) =
          subst (λ (z : Option ℕ). (step de S (view s) c).draws ≤ ceiling_for S.strategy (size_number z) (length t.dims)) sized
          (le_trans (step-few S (view s) c v) (in-call S S.strategy (view s) t n u ok)) in
          le_trans at (ceiling-grows S.strategy s.n (length t.dims) s.n_dims (slots-few S t u ok s.n sized) few (few_dims s e))
