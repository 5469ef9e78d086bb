-- The draws of a later generation: at most N × (3,072 + D) under Rand1 and N × (2,048 + D) under the others, since there is none at j*.
use Prim.Native.Nat.{ℕ, zero, suc, ◌+◌, ◌*◌, ◌<◌, ◌≤◌}
use native.Mathlib.Nat.{mod-lt, mul-add}
use native.Mathlib.Omega.{arith}
use mathlib.Core.Path.{◌≡◌, refl}
use mathlib.Core.Bool.{Bool, true, false, cond}
use mathlib.Core.List.{List}
use borrow.Author.Tests.{eqb-false}
use lib.Dec.{eqb}
use lib.Ieee.{Float}
use lib.ListN.{length, get_or}
use Rattle.rng_util.specs.Draws.{usize_of}
use Rattle.rng_util.specs.Gen.{draw_of}
use Rattle.rng_util.specs.Many.{many}
use Rattle.rng_util.specs.declared.Gen.{Gen}
use Rattle.rng_util.proofs.Parts.{many-draws, draw-draws}
use Rattle.distribution.specs.declared.DimensionInfo.{DimensionInfo}
use Rattle.common.specs.declared.Bounds.{Bounds}
use Rattle.candidates.specs.Space.{space_of}
use Rattle.candidates.specs.Random.{nan_bounds, random_candidates}
use Rattle.candidates.specs.declared.Space.{Space}
use Rattle.candidates.proofs.Count.{choices-count, draws-few, candidates-few}
use Rattle.evolution.specs.Select.{index_count, indices_of}
use Rattle.evolution.specs.Mutant.{entries, mutant_at, indices_for}
use Rattle.evolution.specs.Cross.{cross_entry, cross_at, crossed}
use Rattle.evolution.specs.Trial.{cross_with, trial_of, trial_vectors, next_candidates}
use Rattle.evolution.specs.declared.BoundsRule.{BoundsRule}
use Rattle.evolution.specs.declared.Member.{Member}
use Rattle.evolution.specs.declared.Setup.{Setup}
use Rattle.evolution.specs.declared.DEStrategy.{DEStrategy}
use Rattle.evolution.specs.declared.DEStrategy.TheVariants.{Rand1, Best1, CurrentToBest1}
use Rattle.evolution.proofs.Apart.{indices-draws, indices-draws-two}
use Rattle.evolution.proofs.Draws.{cross-draws}

-- 1,024 draws for each index
abbrev pub tries : DEStrategy → ℕ
tries s = 1024 * index_count s

pub indices-ceiling : (s : DEStrategy) (N i : ℕ) (g : Gen) → (indices_of (index_count s) N i g).after.draws ≤ g.draws + tries s
indices-ceiling Rand1 N i g = indices-draws 3 N i g
indices-ceiling Best1 N i g = indices-draws-two 2 N i g (λ e. omega arith)
indices-ceiling CurrentToBest1 N i g = indices-draws-two 2 N i g (λ e. omega arith)

-- no draw at j*
own-none : (rule : BoundsRule) (rate : Float) (star : ℕ) (v x : Float) (b : Bounds) (j : ℕ) (g : Gen) → eqb j star ≡ true → (cross_entry rule rate star v x b j g).after.draws ≡ g.draws
unfolding cross_entry
own-none rule rate star v x b j g e = rw e

module _ (rule : BoundsRule) (rate : Float) (star : ℕ) (v x : ℕ → Float) (s : Space) where
  at-draws : (j : ℕ) (g : Gen) → (cross_at rule rate star v x s j g).after.draws ≤ g.draws + 1
  at-draws j g = cross-draws rule rate star (v j) (x j) (get_or s.bounds j nan_bounds) j g

  -- so one draw less than entries, where j* is among them
  cross-from : (k i : ℕ) (g : Gen) → i ≤ star → star < i + k → (many (cross_at rule rate star v x s) k i g).after.draws + 1 ≤ g.draws + k
  unfolding many
  cross-from zero i g l h = omega arith
  cross-from (suc k) i g l h = go (eqb i star) refl (λ p f. cross-from k (i + 1) f p (omega arith))
    where
      go : (t : Bool) → eqb i star ≡ t → (i + 1 ≤ star → (f : Gen) → (many (cross_at rule rate star v x s) k (i + 1) f).after.draws + 1 ≤ f.draws + k) → (many (cross_at rule rate star v x s) (suc k) i g).after.draws + 1 ≤ g.draws + suc k
      go true e ih = omega (arith, own-none rule rate star (v i) (x i) (get_or s.bounds i nan_bounds) i g e, many-draws (cross_at rule rate star v x s) 1 at-draws k (i + 1) (cross_at rule rate star v x s i g).after)
      go false e ih = let n : i ≡ star → ⊥ = eqb-false i star e in omega (arith, ih (omega arith) (cross_at rule rate star v x s i g).after, at-draws i g)

  pub crossed-count : (g : Gen) → star < s.n → (crossed rule rate star v x s g).after.draws + 1 ≤ g.draws + s.n
  unfolding crossed
  crossed-count g h = cross-from s.n 0 g (omega arith) (omega arith)

module _ (S : Setup) (x : ℕ → ℕ → Float) (N best : ℕ) (ds : List DimensionInfo) (some : 0 < (space_of ds).n) where
  pub trial-ceiling : (i : ℕ) (g : Gen) → (trial_of S x N best (space_of ds) i g).after.draws ≤ g.draws + (tries S.strategy + length ds)
  unfolding trial_of space_of
  trial-ceiling i g =
      let t = indices_for S N i g in
      let d = draw_of t.after in
      omega (arith, indices-ceiling S.strategy N i g, draw-draws t.after, crossed-count S.bounds_rule S.crossover_rate (usize_of d.out (space_of ds).n) (mutant_at S x best i t.out) (x i) (space_of ds) d.after (mod-lt d.out some), choices-count ds (cross_with S x best (space_of ds) i t).after, draws-few ds)

-- the candidates of a later generation
pub ceiling : (S : Setup) (ps : List Member) (best : ℕ) (ds : List DimensionInfo) (g : Gen) → (next_candidates S ps best (space_of ds) g).after.draws ≤ g.draws + length ps * (tries S.strategy + length ds)
unfolding next_candidates trial_vectors
ceiling S ps best ds g = go (eqb (space_of ds).n 0) refl
  where
    go : (t : Bool) → eqb (space_of ds).n 0 ≡ t → (cond t (random_candidates (space_of ds) (length ps) g) (trial_vectors S ps best (space_of ds) g)).after.draws ≤ g.draws + length ps * (tries S.strategy + length ds)
    go true e = omega (arith, candidates-few ds (length ps) g, mul-add (length ps) (tries S.strategy) (length ds))
    go false e =
        let z : (space_of ds).n ≡ 0 → ⊥ = eqb-false (space_of ds).n 0 e in
        many-draws (trial_of S (entries ps) (length ps) best (space_of ds)) (tries S.strategy + length ds) (trial-ceiling S (entries ps) (length ps) best ds (omega arith)) (length ps) 0 g
