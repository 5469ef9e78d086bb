-- A sample call that no refusal stops, part by part: from a sound state laid out, what each part of the code requires holds, and what they make together is the
-- definition's. `Acceptable` is what the tests before leave.
use Rattle.std.specs.Prelude.{Some, None, is_ok}
use Rattle.rng_util.specs.Gen.{Made, made}
use Rattle.rng_util.specs.declared.Gen.{Gen}
use Prim.Native.Nat.{ℕ, ◌+◌, ◌*◌, ◌≤◌, ◌<◌}
use mathlib.Core.Path.{◌≡◌, refl, sym, ap, subst, ◌∙◌}
use mathlib.Core.Logic.{◌≢◌}
use mathlib.Core.Bool.{true, false, not, ◌&&◌}
use mathlib.Core.List.{List, [], map}
use native.Mathlib.Omega.{arith}
use native.Mathlib.Nat.{mul-le-mul}
use lib.Dec.{leb}
use lib.Ieee.{Float, nan}
use lib.ListN.{length, take}
use Rattle.distribution.specs.Validate.{judged}
use Rattle.distribution.specs.declared.Distribution.{Distribution}
use Rattle.distribution.specs.declared.DimensionInfo.{DimensionInfo}
use Rattle.candidates.specs.declared.Candidate.{Candidate}
use Rattle.candidates.proofs.Passed.{few-continuous}
use Rattle.evolution.specs.declared.DEStrategy.{DEStrategy}
use Rattle.evolution.specs.declared.DEStrategy.TheVariants.{Rand1, Best1, CurrentToBest1}
use Rattle.evolution.specs.declared.Setup.{Setup}
use Rattle.evolution.proofs.Ceiling.{tries, ceiling}
use Rattle.kernel.specs.De.{member_of, nexts_of}
use Rattle.ledger.proofs.Results.{Counted}
use Rattle.ledger.proofs.Steps.{slots_length, closing}
use lib.Seq.{length-take-le}
use lib.ListN.{length-map}
use Rattle.ledger.specs.Words.{has, All}
use Rattle.ledger.specs.Kernel as K
use Rattle.ledger.specs.Kernel.{Laws}
use Rattle.ledger.specs.State as Plain
use Rattle.ledger.specs.Closing as C
use Rattle.ledger.specs.Sample.{begin}
use Rattle.ledger.specs.Soundness.{Sound, Running}
use Rattle.kernel.specs.De.{de, code_gen}
use Rattle.kernel.specs.Setup.{setup_verdict}
use Rattle.state.specs.View.{laid}
use Rattle.state.specs.declared.State.{State}
use Rattle.state.proofs.Sizes.{size-passes}
use Rattle.assignment.specs.Raw.{Ready, Complete, raw_active, raw_discovery, raw_begin}
use Rattle.assignment.specs.Laid.{laid_given}
use Rattle.assignment.proofs.Refine.{Open, dims-laid, active-laid}
use Rattle.assignment.proofs.RefineBegin.{discovery-laid, begin-laid}
use Rattle.assignment.proofs.Meet as Meet
use Rattle.closing.specs.Raw.{Closable, raw_close}
use Rattle.closing.proofs.Refine.{close-is}
use Rattle.de.specs.Sample.{call_of}
use Rattle.de.specs.Gathered.{sampling_on, discovery_on}

-- new candidates of a later generation: few draws
tries-few : (s : DEStrategy) → tries s ≤ 3072
tries-few Rand1 = omega arith
tries-few Best1 = omega arith
tries-few CurrentToBest1 = omega arith

product-few : (p q t : ℕ) → p ≤ 160 → q ≤ 16 → t ≤ 3072 → p * (t + q) ≤ 160 * 3088
product-few p q t h l r = mul-le-mul h (let z : t + q ≤ 3088 = omega arith in z)

nexts-draws : (S : Setup) (ds : List DimensionInfo) (ps : List (K.Parent Candidate)) (b : ℕ) (g : K.Gen ℕ) → length ps ≤ 160 → length ds ≤ 16 → (de.nexts S ds ps b g).gen.draws ≤ g.draws + 160 * 3088
unfolding nexts_of
nexts-draws S ds ps b g h l =
    omega (
      arith,
      ceiling S (map member_of ps) b ds (code_gen g),
      length-map ps member_of,
      product-few (length (map member_of ps)) (length ds) (tries S.strategy) (omega (arith, length-map ps member_of)) l (tries-few S.strategy),
    )

module _ (L : Laws de) (S : Setup) (m : Plain.State de) (ok : is_ok (setup_verdict S) ≡ true) (v : Sound de S m) (d : Distribution) (good : judged d ≡ None) (n : ℕ) where
  -- ---- after discovery

  module _ (N : ℕ) (e : m.size ≡ Some N) where
    abbrev w : Running de S N m
    w = v.after N e

    pub few_slots : N ≤ 160
    few_slots = rw w.sized (Meet.size_few S.population_size _ (size-passes S ok) (omega (arith, v.dims_few, few-continuous m.dims)))

    -- a call that neither closes nor ends discovery
    module _ (r : (not (has (Plain.numbers m.trials) n) && leb (N + 64) (length m.trials)) ≡ false) where
      plain-open : Open m N n
      plain-open = Meet.open-running S m N n e w few_slots r

      pub plain_ready : Ready (laid S m) d n (code_gen (Plain.start_gen de m))
      plain_ready = Meet.ready-laid S m (call_of n d []) N (Plain.start_gen de m) plain-open v.dims_few v.dims_pass (omega (arith, w.extras, few_slots)) good (omega arith)

      pub plain-is : raw_active (laid S m) d n (code_gen (Plain.start_gen de m)) ≡ laid_given S (sampling_on S m n d None (Plain.start_gen de m))
      unfolding sampling_on C.close
      plain-is = active-laid S m (call_of n d []) N plain-open (Plain.start_gen de m)

    -- a call that closes a generation
    module _ (rs : List Float) (many : N ≤ length rs) (numbers : All (λ r. r ≢ nan) (take N rs)) where
      abbrev closed : K.Made ℕ (Plain.State de)
      closed = C.close de S m (Plain.start_gen de m) (Some (take N rs))

      pub closable : Closable (laid S m)
      unfolding laid
      closable =
          record {
            enough = rw (e, w.sized) (L.sized S m.dims);
            few = rw e few_slots;
            few_dims = v.dims_few;
            few_choices = rw (dims-laid S m) (Meet.few_choices m.dims v.dims_pass);
          }

      counted : Counted de L N (length rs) (take N rs)
      counted = record { enough = many; each = length-take-le N rs many; good = numbers }

      close-draws : closed.gen.draws ≤ 160 * 3088
      close-draws = unfold C.close in
          let o = C.settle de m.slots m.candidates (take N rs) in
          nexts-draws S m.dims o.parents o.best (Plain.start_gen de m) (rw (slots_length de L S N m w (length rs) (take N rs) counted) few_slots) v.dims_few

      next-ready : Open closed.out N n × Ready (laid S closed.out) d n (code_gen closed.gen)
      next-ready =
          let r = closing de L S ok N m v e (length rs) (take N rs) counted (Plain.start_gen de m) in
          let o = Meet.open-new closed.out N n (ap (λ (x : Plain.State de). x.size) r.is ∙ e) (ap (λ (x : Plain.State de). x.trials) r.is) (ap (λ (x : Plain.State de). length x.candidates) r.is ∙ r.many) in
          let dims : closed.out.dims ≡ m.dims = ap (λ (x : Plain.State de). x.dims) r.is in
          let trials : length closed.out.trials ≡ 0 = ap (λ (x : Plain.State de). length x.trials) r.is in
          (o, Meet.ready-laid S closed.out (call_of n d []) N closed.gen o (rw dims v.dims_few) (rw dims v.dims_pass) (omega arith) good (omega (arith, close-draws)))

      -- the closed state, as the code has it, is open for the call
      pub closed_opened : (s : State) (g : Gen) → made s g ≡ raw_close (laid S m) rs (code_gen (Plain.start_gen de m))
          → Ready s d n g × (raw_active s d n g ≡ laid_given S (sampling_on S m n d (Some (take N rs)) (Plain.start_gen de m)))
      unfolding sampling_on
      closed_opened s g q =
          subst (λ (t : Made State). Ready t.out d n t.after × (raw_active t.out d n t.after ≡ laid_given S (sampling_on S m n d (Some (take N rs)) (Plain.start_gen de m))))
          (sym (q ∙ close-is S m N e w rs many numbers (Plain.start_gen de m)))
          (next-ready.1, active-laid S closed.out (call_of n d []) N next-ready.0 closed.gen)

  -- ---- in discovery

  module _ (e : m.size ≡ None) where
    pub discovery-is : length m.dims < 16 → raw_discovery (laid S m) d n (code_gen (Plain.start_gen de m)) ≡ laid_given S (discovery_on S true m n d)
    unfolding discovery_on
    discovery-is h = discovery-laid S m (call_of n d []) (Plain.start_gen de m) e h

    pub completes : Complete (laid S m)
    completes = Meet.complete-laid S m (size-passes S ok) v.dims_few v.dims_pass

    abbrev N₀ : ℕ
    N₀ = de.size_of S m.dims

    abbrev firsts : K.Made ℕ (List Candidate)
    firsts = de.firsts S m.dims N₀ (Plain.start_gen de m)

    abbrev begun : Plain.State de
    begun = begin de m N₀ firsts.out

    begin-ready : Open begun N₀ n × Ready (laid S begun) d n (code_gen firsts.gen)
    begin-ready =
        let t : m.trials ≡ [] = (v.before e).no_trials in
        let few : N₀ ≤ 160 = Meet.size_few S.population_size _ (size-passes S ok) (omega (arith, v.dims_few, few-continuous m.dims)) in
        let o = Meet.open-new begun N₀ n refl t (L.firsts_length S m.dims N₀ (Plain.start_gen de m)) in
        (o, Meet.ready-laid S begun (call_of n d []) N₀ firsts.gen o v.dims_few v.dims_pass (omega (arith, ap length t)) good (omega (arith, Meet.firsts-draws S m.dims N₀ (Plain.start_gen de m) few v.dims_few)))

    -- the state then, as the code has it, is open for the call
    pub begun_opened : (s : State) (g : Gen) → made s g ≡ raw_begin (laid S m) (code_gen (Plain.start_gen de m)) → Ready s d n g × (raw_active s d n g ≡ laid_given S (discovery_on S false m n d))
    unfolding discovery_on sampling_on C.close
    begun_opened s g q =
        subst (λ (t : Made State). Ready t.out d n t.after × (raw_active t.out d n t.after ≡ laid_given S (discovery_on S false m n d)))
        (sym (q ∙ begin-laid S m (Plain.start_gen de m)))
        (begin-ready.1, active-laid S begun (call_of n d []) N₀ begin-ready.0 firsts.gen)
