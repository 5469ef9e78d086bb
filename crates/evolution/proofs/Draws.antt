-- How many draws are made at most: what the code's counter stays below.
use Prim.Native.Nat.{ℕ, ◌+◌, ◌≤◌}
use native.Mathlib.Omega.{arith}
use mathlib.Core.Path.{◌≡◌}
use mathlib.Core.Bool.{Bool, true, false, cond}
use mathlib.Core.List.{List}
use lib.Dec.{eqb}
use lib.Ieee.{Float, lt}
use lib.ListN.{get_or}
use Rattle.rng_util.specs.Draws.{unit_of, usize_of}
use Rattle.rng_util.specs.Gen.{draw_of, made}
use Rattle.rng_util.specs.Many.{padded}
use Rattle.rng_util.specs.declared.Gen.{Gen}
use Rattle.rng_util.proofs.Parts.{many-draws, draw-draws, drew}
use Rattle.common.specs.Bounds.{zero_f}
use Rattle.common.specs.declared.Bounds.{Bounds}
use Rattle.candidates.specs.Random.{nan_bounds}
use Rattle.candidates.specs.declared.Space.{Space}
use Rattle.candidates.proofs.Draws.{choices-draws}
use Rattle.evolution.specs.Select.{index_count}
use Rattle.evolution.specs.Mutant.{mutant_at, indices_for, mutated}
use Rattle.evolution.specs.Cross.{clamped, judged_entry, cross_entry, cross_at, crossed}
use Rattle.evolution.specs.Trial.{cross_with, trial_of}
use Rattle.evolution.specs.declared.BoundsRule.{BoundsRule}
use Rattle.evolution.specs.declared.Setup.{Setup}
use Rattle.evolution.proofs.Apart.{indices-draws}

one_at_most : (t : Bool) (a b : Float) (g : Gen) → (cond t (made a g) (made b (draw_of g).after)).after.draws ≤ g.draws + 1
unfolding draw_of
one_at_most true a b g = omega arith
one_at_most false a b g = omega arith

pub cross-draws : (rule : BoundsRule) (rate : Float) (star : ℕ) (v x : Float) (b : Bounds) (j : ℕ) (g : Gen) → (cross_entry rule rate star v x b j g).after.draws ≤ g.draws + 1
unfolding cross_entry
cross-draws rule rate star v x b j g = one_at_most (eqb j star) (judged_entry rule b x v) (cond (lt (unit_of (draw_of g).out) rate) (judged_entry rule b x v) (clamped b x)) g

pub crossed-draws : (rule : BoundsRule) (rate : Float) (star : ℕ) (v x : ℕ → Float) (s : Space) (g : Gen) → (crossed rule rate star v x s g).after.draws ≤ g.draws + s.n
unfolding crossed
crossed-draws rule rate star v x s g = omega (arith, many-draws (cross_at rule rate star v x s) 1 (λ j h. cross-draws rule rate star (v j) (x j) (get_or s.bounds j nan_bounds) j h) s.n 0 g)

pub mutant-draws : (S : Setup) (x : ℕ → ℕ → Float) (N best i n : ℕ) (g : Gen) → (mutated S x N best i n g).after.draws ≤ g.draws + 3072
unfolding mutated
mutant-draws S x N best i n g = indices-draws (index_count S.strategy) N i g

pub trial-draws : (S : Setup) (x : ℕ → ℕ → Float) (N best : ℕ) (s : Space) (i : ℕ) (g : Gen) → (trial_of S x N best s i g).after.draws ≤ g.draws + 3073 + s.n + s.n_dims
unfolding trial_of
trial-draws S x N best s i g =
    let t = indices_for S N i g in
    let d = draw_of t.after in
    omega (arith, indices-draws (index_count S.strategy) N i g, draw-draws t.after, crossed-draws S.bounds_rule S.crossover_rate (usize_of d.out s.n) (mutant_at S x best i t.out) (x i) s d.after, choices-draws s (cross_with S x best s i t).after)

-- ---- after a call

pub drew-mutant : (S : Setup) (x : ℕ → ℕ → Float) (N best i n : ℕ) (g g' : Gen) (v : List Float) → made v g' ≡ padded 16 zero_f (mutated S x N best i n g) → g'.draws ≤ g.draws + 3072
drew-mutant S x N best i n g g' v e = omega (arith, drew e, mutant-draws S x N best i n g)

pub drew-crossed : (rule : BoundsRule) (rate : Float) (star : ℕ) (v x : ℕ → Float) (s : Space) (g g' : Gen) (xs : List Float) → made xs g' ≡ padded 16 zero_f (crossed rule rate star v x s g) → g'.draws ≤ g.draws + s.n
drew-crossed rule rate star v x s g g' xs e = omega (arith, drew e, crossed-draws rule rate star v x s g)
