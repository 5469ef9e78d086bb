-- The rows leave exactly the good distributions: `valid-good` and `good-valid`.
use Rattle.std.specs.Prelude.{None, Result, Ok, Err, ⊤}
use mathlib.Core.Path.{◌≡◌, refl, ap, ◌∙◌}
use mathlib.Core.Bool.{Bool, true, false, true≢false}
use Prim.Native.Nat.{ℕ, ◌≤◌, ◌<◌}
use native.Mathlib.Omega.{arith}
use lib.Dec.{ltb, eqb}
use borrow.Author.Tests.{ltb-false, eqb-false, le-ltb, ne_eqb}
use Rattle.distribution.specs.declared.CategoricalDistribution.{CategoricalDistribution}
use Rattle.distribution.specs.declared.Distribution.{Distribution}
use Rattle.distribution.specs.declared.Distribution.TheVariants.{Float as FloatD, Int as IntD, Categorical}
use Rattle.distribution.specs.declared.IntDistribution.{IntDistribution}
use Rattle.distribution.specs.declared.Refusal.{Refusal}
use Rattle.distribution.specs.declared.Refusal.TheVariants.{LogScale}
use Rattle.distribution.specs.Dims.{continuous, choices}
use Rattle.distribution.specs.Validate.{choices_limit, bounds_fail, log_fails, step_fails, int_step_fails, choices_fail, refused_if, verdict_of, refusal_of, judged}
use Rattle.distribution.specs.Good.{GoodCategorical, Good}
use Rattle.distribution.proofs.Flags.{neither, both-fail}
use Rattle.distribution.proofs.FloatRows.{good-float, float-bounds-pass, float-step-passes}
use Rattle.distribution.proofs.IntRows.{good-int, good-ladder, int-bounds-pass, int-log-passes, int-step-passes}

-- ---- the chain of rows

pub record Passes (d : Distribution) : Type 0 where
  pub bounds : bounds_fail d ≡ false
  pub log : log_fails d ≡ false
  pub step : step_fails d ≡ false
  pub choices : choices_fail d ≡ false

row : (a : Bool) (r : Refusal) (v : Result ⊤ Refusal) → refused_if a r v ≡ Ok tt → (a ≡ false) × (v ≡ Ok tt)
row true r v e = let z : ◌≡◌ {A = ℕ} 0 1 = cc in absurd (omega arith)
row false r v e = (refl, e)

passes : (d : Distribution) → verdict_of d ≡ Ok tt → Passes d
unfolding verdict_of
passes d e =
    let one = row (bounds_fail d) _ _ e in
    let two = row (log_fails d) _ _ one.1 in
    let three = row (step_fails d) _ _ two.1 in
    let four = row (choices_fail d) _ _ three.1 in
    record { bounds = one.0; log = two.0; step = three.0; choices = four.0 }

valid : (d : Distribution) → Passes d → verdict_of d ≡ Ok tt
unfolding verdict_of
valid d p = simp (p.bounds, p.log, p.step, p.choices)

-- ---- log scale

-- 5 is given unless 4 is
pub log-refused : (d : Distribution) → bounds_fail d ≡ false → log_fails d ≡ true → verdict_of d ≡ Err LogScale
unfolding verdict_of
log-refused d b l = simp (b, l)

-- a ladder passes
pub ladder-valid : (d : IntDistribution) → bounds_fail (IntD d) ≡ false → log_fails (IntD d) ≡ false → d.log_scale ≡ true → verdict_of (IntD d) ≡ Ok tt
ladder-valid d b l on =
    let s : int_step_fails d.step ≡ false = ap int_step_fails (good-ladder d l on).no_step ∙ int-step-passes None tt in
    valid (IntD d) (record { bounds = b; log = l; step = s; choices = refl })

-- ---- Categorical

good-categorical : (d : CategoricalDistribution) → choices_fail (Categorical d) ≡ false → GoodCategorical d
good-categorical d e =
    let n = d.n_choices in
    let a = neither (eqb n 0) (ltb choices_limit n) e in
    let z : (n ≡ 0 → ⊥) = eqb-false n 0 a.0 in
    record { some_choice = pos_of n z; few = ltb-false choices_limit n a.1 }
  where
    pos_of : (n : ℕ) → (n ≡ 0 → ⊥) → 0 < n
    pos_of n h = omega arith

categorical-passes : (d : CategoricalDistribution) → GoodCategorical d → choices_fail (Categorical d) ≡ false
categorical-passes d g =
    let n = d.n_choices in
    both-fail (ne_eqb n 0 (λ e. omega (arith, g.some_choice))) (le-ltb choices_limit n g.few)

-- ---- the theorem

pub valid-good : (d : Distribution) → verdict_of d ≡ Ok tt → Good d
valid-good (FloatD d) e = let p = passes (FloatD d) e in good-float d p.bounds p.log p.step
valid-good (IntD d) e = let p = passes (IntD d) e in good-int d p.bounds p.log p.step
valid-good (Categorical d) e = good-categorical d (passes (Categorical d) e).choices

pub good-valid : (d : Distribution) → Good d → verdict_of d ≡ Ok tt
good-valid (FloatD d) g =
    valid (FloatD d) (record { bounds = float-bounds-pass d g; log = g.not_log; step = float-step-passes d g; choices = refl })
good-valid (IntD d) g =
    valid (IntD d) (record { bounds = int-bounds-pass d g; log = int-log-passes d g; step = int-step-passes d.step g.good_step; choices = refl })
good-valid (Categorical d) g =
    valid (Categorical d) (record { bounds = refl; log = refl; step = refl; choices = categorical-passes d g })

-- ---- the same of the refusal's number

no-refusal : (v : Result ⊤ Refusal) → refusal_of v ≡ None → v ≡ Ok tt
no-refusal (Ok tt) e = refl
no-refusal (Err r) e = let z : ◌≡◌ {A = ℕ} 0 1 = cc in absurd (omega arith)

pub judged-good : (d : Distribution) → judged d ≡ None → Good d
judged-good d e = valid-good d (no-refusal (verdict_of d) e)

pub good-judged : (d : Distribution) → Good d → judged d ≡ None
good-judged d g = ap refusal_of (good-valid d g)

-- a good distribution that is not continuous has from 1 to 65,535 choices
pub good-choices : (d : Distribution) → Good d → continuous d ≡ false → (0 < choices d) × (choices d ≤ choices_limit)
good-choices (FloatD d) g e = absurd (true≢false e)
good-choices (IntD d) g e = absurd (true≢false e)
good-choices (Categorical d) g e = (g.some_choice, g.few)
