-- What this crate's functions require holds on a sound state that is laid out.
use Rattle.std.specs.Prelude.{Option, Some, None, Result, Ok, Err, ⊤}
use Prim.Native.Nat.{ℕ, zero, suc, ◌+◌, ◌≤◌, ◌<◌, ◌^◌, max}
use mathlib.Core.Path.{◌≡◌, refl, ◌∙◌}
use mathlib.Core.Bool.{Bool, true, false, not, ◌&&◌}
use mathlib.Core.List.Memᴰ
use mathlib.Core.List.{List, [], ◌∷◌}
use native.Mathlib.Nat.{not-suc-le-zero, le_of_suc-le-suc, mul-le-mul}
use native.Mathlib.Omega.{arith}
use borrow.Author.Tests.{ltb-false, leb-false}
use lib.Dec.{leb}
use lib.ListN.{length, length-map}
use Rattle.distribution.specs.Dims.{choices}
use Rattle.distribution.specs.Good.{Good}
use Rattle.distribution.specs.Validate.{verdict_of, refusal_of, judged}
use Rattle.distribution.specs.declared.DimensionInfo.{DimensionInfo}
use Rattle.distribution.specs.declared.Distribution.{Distribution}
use Rattle.distribution.specs.declared.Distribution.TheVariants.{Float as FloatD, Int as IntD, Categorical}
use Rattle.distribution.proofs.Meaning.{judged-good}
use Rattle.candidates.specs.Space.{FewChoices, continuous_count}
use Rattle.candidates.proofs.Count.{candidates-few}
use Rattle.candidates.proofs.Passed.{few-continuous}
use Rattle.evolution.specs.declared.Setup.{Setup}
use Rattle.selection.specs.Size.{size_of}
use Rattle.ledger.specs.Words.{All, has}
use Rattle.ledger.specs.Kernel as L
use Rattle.ledger.specs.Call.{Call}
use Rattle.ledger.specs.State as Plain
use Rattle.ledger.specs.State.{Trial, numbers}
use Rattle.ledger.specs.Assignment.{place_in}
use Rattle.ledger.specs.Soundness.{Running}
use Rattle.ledger.proofs.Trials.{place-in}
use Rattle.kernel.specs.De.{de, code_gen, firsts_of}
use Rattle.kernel.specs.Setup.{size_fails}
use Rattle.state.specs.View.{laid}
use Rattle.assignment.specs.Raw.{Ready, Complete}
use Rattle.assignment.proofs.Arrays.{place-numbers}
use Rattle.assignment.proofs.Refine.{dims-laid, place-laid, Open}
use Rattle.distribution.specs.declared.Refusal.{Refusal}

-- ---- distributions that pass 4 to 7

pub judged-valid : (d : Distribution) → judged d ≡ None → verdict_of d ≡ (Ok tt)
judged-valid d e = go (verdict_of d) e
  where
    go : (v : Result ⊤ Refusal) → refusal_of v ≡ None → v ≡ (Ok tt)
    go (Ok tt) e = refl
    go (Err r) e = let z : ◌≡◌ {A = ℕ} 0 1 = cc in absurd (omega arith)

few-of : (d : Distribution) → Good d → choices d ≤ 65535
few-of (FloatD d) g = omega arith
few-of (IntD d) g = omega arith
few-of (Categorical d) g = g.few

pub few_choices : (ds : List DimensionInfo) → All (λ d. de.judged d ≡ None) ds → FewChoices ds
unfolding FewChoices
few_choices [] a i h = absurd (not-suc-le-zero h)
few_choices (d ∷ ds) a zero h = few-of d.distribution (judged-good d.distribution (a d (Memᴰ.head refl)))
few_choices (d ∷ ds) a (suc i) h = few_choices ds (λ x p. a x (Memᴰ.tail p)) i (le_of_suc-le-suc h)

-- ---- the open generation

-- after closing, or after discovery: candidates for the slots, and no trial yet
pub open-new : (m : Plain.State de) (N n : ℕ) → m.size ≡ Some N → m.trials ≡ [] → length m.candidates ≡ N → Open m N n
unfolding place_in
open-new m N n e t k =
    record {
      sized = e;
      candidates = rw t (k ∙ (let z : N ≡ max N 0 = omega arith in z));
      place = rw t (omega arith);
    }

-- before closing: refusal 10 is not for the call
pub open-running : (S : Setup) (m : Plain.State de) (N n : ℕ) → m.size ≡ Some N → Running de S N m → N ≤ 160 → (not (has (numbers m.trials) n) && leb (N + 64) (length m.trials)) ≡ false → Open m N n
open-running S m N n e v few r =
    record { sized = e; candidates = v.candidates; place = go (has (numbers m.trials) n) refl r }
  where
    go : (b : Bool) → has (numbers m.trials) n ≡ b → (not b && leb (N + 64) (length m.trials)) ≡ false → place_in (numbers m.trials) n < 224
    go true h q = omega (arith, place-in (numbers m.trials) n h, length-map m.trials (λ (t : Trial). t.number), v.extras)
    go false h q = omega (arith, place-numbers m.trials n, leb-false (N + 64) (length m.trials) q)

-- ---- a call after discovery

pub ready-laid : (S : Setup) (m : Plain.State de) (c : Call de) (N : ℕ) (g : L.Gen ℕ) → Open m N c.number → length m.dims ≤ 16 → All (λ d. de.judged d ≡ None) m.dims → length m.trials ≤ 224
    → de.judged c.distribution ≡ None → g.draws < 2 ^ 60 → Ready (laid S m) c.distribution.distribution c.number (code_gen g)
unfolding laid
ready-laid S m c N g o few pass trials valid draws =
    record {
      few_dims = few;
      few_choices = rw (dims-laid S m) (few_choices m.dims pass);
      few_trials = trials;
      place = rw (place-laid S m c.number) o.place;
      valid = judged-valid c.distribution.distribution valid;
      few_draws = draws;
    }

-- ---- the end of discovery

-- the first candidates: at most one draw for each dimension of each
pub firsts-draws : (S : Setup) (ds : List DimensionInfo) (N : ℕ) (g : L.Gen ℕ) → N ≤ 160 → length ds ≤ 16 → (de.firsts S ds N g).gen.draws ≤ g.draws + 2560
unfolding firsts_of
firsts-draws S ds N g n k = omega (arith, candidates-few ds N (code_gen g), mul-le-mul n k)

-- refusal 3 is not for the set-up
pub size_few : (u : Option ℕ) (n : ℕ) → size_fails u ≡ false → n ≤ 16 → size_of u n ≤ 160
size_few None n e h = omega arith
size_few (Some k) n e h = omega (arith, ltb-false 160 k e)

pub complete-laid : (S : Setup) (m : Plain.State de) → size_fails S.population_size ≡ false → length m.dims ≤ 16 → All (λ d. de.judged d ≡ None) m.dims → Complete (laid S m)
unfolding laid
complete-laid S m fits few pass =
    record {
      few_dims = few;
      few_choices = rw (dims-laid S m) (few_choices m.dims pass);
      few_slots = rw (dims-laid S m) (size_few S.population_size (continuous_count m.dims) fits (omega (arith, few-continuous m.dims)));
    }
