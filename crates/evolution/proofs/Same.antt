-- THE RULE MOVES NO DRAW (document 02, W7): a whole generation leaves the same generator, its word and its count, under either rule. Idea: whether a unit is drawn
-- hangs on j* alone, so each entry leaves the same generator, and each loop with it.
use Prim.Native.Nat.{ℕ, zero, suc, ◌+◌}
use mathlib.Core.Path.{◌≡◌, refl, ap, ◌∙◌}
use mathlib.Core.Bool.{Bool, true, false, cond}
use mathlib.Core.List.{List}
use lib.Dec.{eqb}
use lib.Ieee.{Float}
use lib.ListN.{length, get_or}
use Rattle.rng_util.specs.Draws.{usize_of}
use Rattle.rng_util.specs.Gen.{draw_of, Made}
use Rattle.rng_util.specs.Many.{many}
use Rattle.rng_util.specs.declared.Gen.{Gen}
use Rattle.candidates.specs.Random.{nan_bounds, random_choices, random_candidates}
use Rattle.candidates.specs.declared.Space.{Space}
use Rattle.evolution.specs.BoundsRule.{ruled}
use Rattle.evolution.specs.Mutant.{entries, mutant_at, indices_for}
use Rattle.evolution.specs.Cross.{cross_at, crossed}
use Rattle.evolution.specs.Trial.{trial_of, trial_vectors, next_candidates}
use Rattle.evolution.specs.declared.BoundsRule.{BoundsRule}
use Rattle.evolution.specs.declared.Member.{Member}
use Rattle.evolution.specs.declared.Setup.{Setup}
use Rattle.evolution.proofs.Midpoint.{same-draws}

module _ {A : Type 0} (make other : ℕ → Gen → Made A) (same : (j : ℕ) (g : Gen) → (make j g).after ≡ (other j g).after) where
  many-after : (k i : ℕ) (g : Gen) → (many make k i g).after ≡ (many other k i g).after
  unfolding many
  many-after zero i g = refl
  many-after (suc k) i g = many-after k (i + 1) (make i g).after ∙ ap (λ (h : Gen). (many other k (i + 1) h).after) (same i g)

crossed-after : (rule other : BoundsRule) (CR : Float) (star : ℕ) (v x : ℕ → Float) (s : Space) (g : Gen) → (crossed rule CR star v x s g).after ≡ (crossed other CR star v x s g).after
unfolding crossed
crossed-after rule other CR star v x s g =
    many-after (cross_at rule CR star v x s) (cross_at other CR star v x s) (λ j h. same-draws CR (v j) (x j) (get_or s.bounds j nan_bounds) star j h rule other) s.n 0 g

module _ (rule : BoundsRule) (S : Setup) where
  trial-after : (x : ℕ → ℕ → Float) (N best : ℕ) (s : Space) (i : ℕ) (g : Gen) → (trial_of (ruled rule S) x N best s i g).after ≡ (trial_of S x N best s i g).after
  unfolding trial_of
  trial-after x N best s i g =
      let t = indices_for S N i g in
      let d = draw_of t.after in
      ap (λ (h : Gen). (random_choices s h).after) (crossed-after rule S.bounds_rule S.crossover_rate (usize_of d.out s.n) (mutant_at S x best i t.out) (x i) s d.after)

  pub generation-after : (ps : List Member) (best : ℕ) (s : Space) (g : Gen) → (next_candidates (ruled rule S) ps best s g).after ≡ (next_candidates S ps best s g).after
  unfolding next_candidates trial_vectors
  generation-after ps best s g = go (eqb s.n 0)
    where
      go : (t : Bool) → (cond t (random_candidates s (length ps) g) (trial_vectors (ruled rule S) ps best s g)).after ≡ (cond t (random_candidates s (length ps) g) (trial_vectors S ps best s g)).after
      go true = refl
      go false = many-after (trial_of (ruled rule S) (entries ps) (length ps) best s) (trial_of S (entries ps) (length ps) best s) (λ i h. trial-after (entries ps) (length ps) best s i h) (length ps) 0 g
