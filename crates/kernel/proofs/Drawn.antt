-- What each part of a call draws. A random candidate: at most one draw for each dimension; a later generation: at most `tries` more for each slot. Assignment: one
-- draw for a setting past the last dimension, and none where the trial is new, since a new trial starts at dimension 0.
use Rattle.std.specs.Prelude.{Option, Some, None, slice_get}
use Prim.Native.Nat.{ℕ, ◌+◌, ◌*◌, ◌≤◌}
use native.Mathlib.Omega.{arith}
use mathlib.Core.Path.{◌≡◌, refl, ap, subst}
use mathlib.Core.Bool.{Bool, true, false, cond, true≢false}
use mathlib.Core.List.{List, [], ◌∷◌, map}
use borrow.Author.Tests.{lt-ltb}
use lib.Dec.{eqb, ltb}
use lib.ListN.{length, length-map}
use Rattle.distribution.specs.declared.DimensionInfo.{DimensionInfo}
use Rattle.candidates.specs.declared.Candidate.{Candidate}
use Rattle.candidates.proofs.Count.{candidate-few, candidates-few}
use Rattle.evolution.specs.declared.Setup.{Setup}
use Rattle.evolution.proofs.Ceiling.{tries, ceiling}
use Rattle.ledger.specs.Kernel as L
use Rattle.ledger.specs.Words.{has}
use Rattle.ledger.specs.Call.{Call}
use Rattle.ledger.specs.State as Plain
use Rattle.ledger.specs.State.{Trial, numbers}
use Rattle.ledger.specs.Assignment.{place_in, next_in, Accepted, setting_of, serve, assign}
use Rattle.ledger.proofs.Lists.{past_end}
use Rattle.ledger.proofs.Trials.{move-length}
use Rattle.kernel.specs.De.{de, code_gen, member_of, firsts_of, extra_of, nexts_of}
use Rattle.kernel.proofs.Examples.{one-draw}

-- ---- candidates

module _ (ds : List DimensionInfo) where
  pub firsts-few : (N : ℕ) (g : L.Gen ℕ) → (firsts_of ds N g).gen.draws ≤ g.draws + N * length ds
  unfolding firsts_of
  firsts-few N g = candidates-few ds _ (code_gen g)

  pub extra-few : (g : L.Gen ℕ) → (extra_of ds g).gen.draws ≤ g.draws + length ds
  unfolding extra_of
  extra-few g = candidate-few ds (code_gen g)

  pub nexts-few : (S : Setup) (ps : List (L.Parent Candidate)) (b : ℕ) (g : L.Gen ℕ) → (nexts_of S ds ps b g).gen.draws ≤ g.draws + length ps * (tries S.strategy + length ds)
  unfolding nexts_of
  nexts-few S ps b g =
      subst (λ (k : ℕ). (nexts_of S ds ps b g).gen.draws ≤ g.draws + k * (tries S.strategy + length ds)) (length-map ps member_of) (ceiling S (map member_of ps) _ ds (code_gen g))

-- ---- settings

-- a new trial starts at dimension 0
next-new : (ts : List Trial) (n : ℕ) → has (numbers ts) n ≡ false → next_in ts n ≡ 0
unfolding has next_in
next-new [] n h = refl
next-new (t ∷ ts) n h = go (eqb t.number n) h (next-new ts n)
  where
    go : (b : Bool) → cond b true (has (numbers ts) n) ≡ false → (has (numbers ts) n ≡ false → next_in ts n ≡ 0) → cond b t.next (next_in ts n) ≡ 0
    go true e i = absurd (true≢false e)
    go false e i = i e

module _ (m : Plain.State de) (c : Call de) (cs : List Candidate) (y : Candidate) (g : L.Gen ℕ) where
  pub serve-new : 1 ≤ length m.dims → has (numbers m.trials) c.number ≡ false → (serve de m c cs y g).draws ≡ g.draws
  serve-new d f = rw (next-new m.trials c.number f, lt-ltb 0 (length m.dims) d)

  pub serve-few : (serve de m c cs y g).draws ≤ g.draws + 1
  serve-few = go (next_in m.trials c.number) (ltb (next_in m.trials c.number) (length m.dims))
    where
      go : (k : ℕ) (b : Bool) → (setting_of de b m c k y g).gen.draws ≤ g.draws + 1
      go k true = omega arith
      go k false = omega (arith, ap (λ (x : L.Gen ℕ). x.draws) (one-draw c.distribution g))

-- ---- the first call of a generation: its trial gets the first of N candidates, and its first dimension

pub record FirstServed (t : Plain.State de) (g : L.Gen ℕ) (a : Accepted de) : Type 0 where
  pub draws : a.draws ≡ g.draws
  pub size : a.state.size ≡ t.size
  pub dims : a.state.dims ≡ t.dims
  pub one : length a.state.trials ≡ 1

module _ (S : Setup) (t : Plain.State de) (c : Call de) (g : L.Gen ℕ) (e : t.trials ≡ []) (some-candidate : 1 ≤ length t.candidates) (some_dim : 1 ≤ length t.dims) where
  pub first-served : FirstServed t g (assign de S t c g (slice_get t.candidates (place_in (numbers t.trials) c.number)))
  unfolding assign has place_in
  first-served = go (slice_get t.candidates (place_in (numbers t.trials) c.number)) refl
    where
      no_trials : numbers t.trials ≡ []
      no_trials = ap numbers e

      first : place_in (numbers t.trials) c.number ≡ 0
      first = ap (λ (ns : List ℕ). place_in ns c.number) no_trials

      go : (o : Option Candidate) → slice_get t.candidates (place_in (numbers t.trials) c.number) ≡ o → FirstServed t g (assign de S t c g o)
      go (Some y) h =
          record {
            draws = serve-new t c t.candidates y g some_dim (ap (λ (ns : List ℕ). has ns c.number) no_trials);
            size = refl;
            dims = refl;
            one = omega (arith, move-length (length t.dims) t.trials c.number, ap length e, first);
          }
      go None h = absurd (omega (arith, past_end t.candidates (place_in (numbers t.trials) c.number) h, first))
