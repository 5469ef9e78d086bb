-- W1 of the definition: on a sound plain state no call draws more than `step_ceiling`. Idea: by the cases of the ceiling. A closing draws for new candidates alone, for its trial gets the first
-- of them and its first dimension; so does the end of discovery. Any other call draws for an extra's candidate or for one random setting, never both.
use Rattle.std.specs.Prelude.{Option, Some, None, IsSome, is_some, is_none, slice_get}
use Prim.Native.Nat.{ℕ, ◌+◌, ◌*◌, ◌≤◌, ◌<◌}
use native.Mathlib.Nat.{le_trans, mul-add, mul-le-mul}
use native.Mathlib.Omega.{arith}
use mathlib.Core.Path.{◌≡◌, refl, sym, ap, subst, ◌∙◌}
use mathlib.Core.Bool.{Bool, true, false, ◌&&◌, ◌||◌, cond}
use mathlib.Core.List.{List, [], ◌∷◌, ◌++◌}
use borrow.Author.Tests.{lt-ltb, le-ltb, lt-leb}
use lib.Ieee.{Float}
use lib.ListN.{length, length-map}
use Rattle.distribution.specs.Validate.{judged}
use Rattle.distribution.specs.declared.DimensionInfo.{DimensionInfo}
use Rattle.candidates.specs.declared.Candidate.{Candidate}
use Rattle.evolution.specs.declared.Setup.{Setup}
use Rattle.evolution.specs.declared.DEStrategy.{DEStrategy}
use Rattle.evolution.specs.declared.DEStrategy.TheVariants.{Rand1, Best1, CurrentToBest1}
use Rattle.evolution.proofs.Ceiling.{tries}
use Rattle.ledger.specs.Kernel as L
use Rattle.ledger.specs.Words.{or_else, has}
use Rattle.ledger.specs.Call.{Call, call_refusal}
use Rattle.ledger.specs.Call as C
use Rattle.ledger.specs.State as Plain
use Rattle.ledger.specs.State.{Trial, numbers, start_gen}
use Rattle.ledger.specs.Closing.{counted, settle, reopen, close}
use Rattle.ledger.specs.Assignment.{place_in, move, Accepted, serve, assign}
use Rattle.ledger.specs.Soundness.{Sound, Running}
use Rattle.ledger.specs.Sample.{discovers, discover, begin, sampling, discovery, state_refusal, accept, outcome, step}
use Rattle.ledger.proofs.Lists.{neither, not-refused, past_end, snoc-length}
use Rattle.ledger.proofs.Trials.{place-in, move-length}
use Rattle.ledger.proofs.Results.{Counted, counted_is}
use Rattle.ledger.proofs.Steps.{slots_length}
use Rattle.ledger.proofs.Sound.{first-named}
use Rattle.kernel.specs.De.{de, population_size_of, firsts_of, extra_of, nexts_of, random_of}
use Rattle.kernel.specs.Ceiling.{per_slot, closes, ends_discovery, generation_ceiling, step_ceiling}
use Rattle.kernel.proofs.Kernel.{de-laws}
use Rattle.kernel.proofs.Examples.{one-draw}
use Rattle.kernel.proofs.Drawn.{firsts-few, extra-few, nexts-few, serve-new, serve-few, first-served}

-- 1,024 for each of three indices, or of two
slot-tries : (q : DEStrategy) → tries q ≤ per_slot q
slot-tries Rand1 = omega arith
slot-tries Best1 = omega arith
slot-tries CurrentToBest1 = omega arith

-- ---- the ceiling by its cases

module _ (q : DEStrategy) (before after : Plain.State de) (n draws : ℕ) where
  module _ (N : ℕ) (sized : after.size ≡ Some N) (few : draws ≤ N * (tries q + length after.dims)) where
    of-generation : draws ≤ generation_ceiling q N (length after.dims)
    of-generation = le_trans few (mul-le-mul {n₁ = N} {m₁ = tries q + length after.dims} {n₂ = N} {m₂ = per_slot q + length after.dims} (omega arith) (omega (arith, slot-tries q)))

    of-closing : length after.trials < length before.trials → draws ≤ step_ceiling q before after n
    unfolding step_ceiling
    of-closing l = rw (lt-ltb (length after.trials) (length before.trials) l, sized) of-generation

    of_end : before.size ≡ None → draws ≤ step_ceiling q before after n
    unfolding step_ceiling
    of_end e = rw (sized, e) (go (closes before after) _)
      where
        go : (b : Bool) (x : ℕ) → draws ≤ cond (b || true) (generation_ceiling q N (length after.dims)) x
        go true x = of-generation
        go false x = of-generation

  module _ (l : length before.trials ≤ length after.trials) (e : ends_discovery before after ≡ false) where
    of-new : has (numbers before.trials) n ≡ false → draws ≤ length after.dims → draws ≤ step_ceiling q before after n
    unfolding step_ceiling
    of-new f h = rw (le-ltb (length after.trials) (length before.trials) l, e, f) h

    of-open : has (numbers before.trials) n ≡ true → 1 ≤ length after.dims → draws ≤ 1 → draws ≤ step_ceiling q before after n
    unfolding step_ceiling
    of-open f d h = rw (le-ltb (length after.trials) (length before.trials) l, e, f) (omega arith)

-- ---- a call on a sound state

module _ (S : Setup) (m : Plain.State de) (c : Call de) (v : Sound de S m) where
  -- what the call made is within the ceiling
  abbrev Within : Accepted de → Type 0
  Within a = a.draws ≤ step_ceiling S.strategy m a.state c.number

  -- what it made if it is served from state t on
  abbrev served : L.Made ℕ (Plain.State de) → Accepted de
  served r = assign de S r.out c r.gen (slice_get r.out.candidates (place_in (numbers r.out.trials) c.number))

  -- ---- after discovery

  module _ (N : ℕ) (sized : m.size ≡ Some N) where
    w : Running de S N m
    w = v.after N sized

    four : 4 ≤ N
    four = omega (arith, w.sized, de-laws.sized S m.dims)

    ended : (t : Plain.State de) → ends_discovery m t ≡ false
    ended t = ap (λ (o : Option ℕ). is_none o && is_some t.size) sized

    -- it closes nothing
    plain-few : Within (served (record { out = m; gen = start_gen de m }))
    unfolding assign
    plain-few = go (has (numbers m.trials) c.number) refl (slice_get m.candidates (place_in (numbers m.trials) c.number)) refl
      where
        g : L.Gen ℕ
        g = start_gen de m

        no-fewer : length m.trials ≤ length (move (length m.dims) m.trials c.number)
        no-fewer = omega (arith, move-length (length m.dims) m.trials c.number)

        go : (b : Bool) → has (numbers m.trials) c.number ≡ b → (o : Option Candidate) → slice_get m.candidates (place_in (numbers m.trials) c.number) ≡ o → Within (assign de S m c g o)
        go true f (Some y) x =
            let r = serve de m c m.candidates y g in
            of-open S.strategy m r.state c.number r.draws no-fewer (ended r.state) f w.some_dim (serve-few m c m.candidates y g)
        go true f None x =
            absurd (omega (arith, past_end m.candidates (place_in (numbers m.trials) c.number) x, w.candidates, place-in (numbers m.trials) c.number f, length-map m.trials (λ (t : Trial). t.number)))
        go false f (Some y) x =
            let r = serve de m c m.candidates y g in
            of-new S.strategy m r.state c.number r.draws no-fewer (ended r.state) f (omega (arith, serve-new m c m.candidates y g w.some_dim f))
        go false f None x =
            let p = extra_of m.dims g in
            let r = serve de m c (m.candidates ++ (p.out ∷ [])) p.out p.gen in
            of-new S.strategy m r.state c.number r.draws no-fewer (ended r.state) f
            (omega (arith, serve-new m c (m.candidates ++ (p.out ∷ [])) p.out p.gen w.some_dim f, extra-few m.dims g))

    -- it closes a generation
    closing-few : (many : ℕ) (row : List Float) → Counted de de-laws N many row → N ≤ length m.trials → Within (served (close de S m (start_gen de m) (Some row)))
    unfolding close
    closing-few many row q enough =
        let o = settle de m.slots m.candidates row in
        let p = nexts_of S m.dims o.parents o.best (start_gen de m) in
        let n = slots_length de de-laws S N m w many row q in
        go (reopen de m o p.out) p.gen refl refl refl
        (de-laws.nexts_length S m.dims o.parents o.best (start_gen de m) ∙ n)
        (subst (λ (k : ℕ). p.gen.draws ≤ 0 + k * (tries S.strategy + length m.dims)) n (nexts-few m.dims S o.parents o.best (start_gen de m)))
      where
        go : (t : Plain.State de) (g : L.Gen ℕ) → t.trials ≡ [] → t.dims ≡ m.dims → t.size ≡ m.size → length t.candidates ≡ N → g.draws ≤ 0 + N * (tries S.strategy + length m.dims)
            → Within (served (record { out = t; gen = g }))
        go t g none_open dims size there few =
            let a = served (record { out = t; gen = g }) in
            let b = first-served S t c g none_open (omega (arith, there, four)) (rw dims w.some_dim) in
            of-closing S.strategy m a.state c.number a.draws N (b.size ∙ size ∙ sized)
            (subst (λ (ds : List DimensionInfo). a.draws ≤ N * (tries S.strategy + length ds)) (sym (b.dims ∙ dims)) (omega (arith, b.draws, few)))
            (omega (arith, b.one, enough, four))

    after-few : C.any_bad de c.history ≡ false → Within (accept de S (Some N) m c)
    unfolding accept sampling close
    after-few good = go (counted de N (numbers m.trials) c.history) refl
      where
        go : (o : Option (List Float)) → counted de N (numbers m.trials) c.history ≡ o → Within (served (close de S m (start_gen de m) o))
        go None x = plain-few
        go (Some row) x =
            let q = counted_is de de-laws N (numbers m.trials) c.history row good x in
            closing-few (length (numbers m.trials)) row q (omega (arith, q.enough, length-map m.trials (λ (t : Trial). t.number)))

  -- ---- before discovery has ended

  module _ (unsized : m.size ≡ None) where
    no_trials : m.trials ≡ []
    no_trials = (v.before unsized).no_trials

    -- it adds a dimension
    found-few : Within (discover de m c (random_of c.distribution (start_gen de m)))
    unfolding has
    found-few =
        let a = discover de m c (random_of c.distribution (start_gen de m)) in
        of-new S.strategy m a.state c.number a.draws (omega arith) (ap (λ (o : Option ℕ). is_none o && false) unsized) (ap (λ (ts : List Trial). has (numbers ts) c.number) no_trials)
        (omega (arith, ap (λ (x : L.Gen ℕ). x.draws) (one-draw c.distribution (start_gen de m)), snoc-length m.dims c.distribution))

    -- it ends discovery
    ended-few : IsSome m.first → Within (discovery de S false m c)
    unfolding discovery sampling close counted
    ended-few named =
        let N = population_size_of S m.dims in
        let four : 4 ≤ N = de-laws.sized S m.dims in
        let p = firsts_of m.dims N (start_gen de m) in
        let t = begin de m N p.out in
        let a = served (record { out = t; gen = p.gen }) in
        let open-length : length (numbers m.trials) ≡ 0 = ap (λ (ts : List Trial). length (numbers ts)) no_trials in
        let nothing : counted de N (numbers m.trials) c.history ≡ None = rw (lt-leb N (length (numbers m.trials)) (omega (arith, four, open-length))) in
        let there = de-laws.firsts_length S m.dims N (start_gen de m) in
        let b = first-served S t c p.gen no_trials (omega (arith, there, four)) ((v.before unsized).named.0 named) in
        subst (λ (o : Option (List Float)). Within (served (close de S t p.gen o))) (sym nothing)
        (of_end S.strategy m a.state c.number a.draws N b.size
        (subst (λ (ds : List DimensionInfo). a.draws ≤ N * (tries S.strategy + length ds)) (sym b.dims)
        (omega (arith, b.draws, firsts-few m.dims N (start_gen de m), mul-add N (tries S.strategy) (length m.dims))))
        unsized)

    before-few : Within (accept de S None m c)
    unfolding accept discovery
    before-few = go (discovers m.first c.number) refl
      where
        go : (b : Bool) → discovers m.first c.number ≡ b → Within (discovery de S b m c)
        go true h = found-few
        go false h = ended-few (first-named de de-laws m.first c.number h)

  -- ---- either, or a refusal

  accepted-few : C.any_bad de c.history ≡ false → (z : Option ℕ) → m.size ≡ z → Within (accept de S z m c)
  accepted-few good None e = before-few e
  accepted-few good (Some N) e = after-few N e good

  pub step-few : (step de S m c).draws ≤ step_ceiling S.strategy m (step de S m c).state c.number
  unfolding step
  step-few = go (or_else (call_refusal de c) (state_refusal de m.size m c)) refl
    where
      go : (r : Option ℕ) → or_else (call_refusal de c) (state_refusal de m.size m c) ≡ r
          → (outcome de m r (accept de S m.size m c)).draws ≤ step_ceiling S.strategy m (outcome de m r (accept de S m.size m c)).state c.number
      go (Some r) x = omega arith
      go None x =
          let p = neither (call_refusal de c) (state_refusal de m.size m c) x in
          accepted-few (not-refused (C.any_bad de c.history) 8 (neither (judged c.distribution.distribution) _ p.0).1) m.size refl
