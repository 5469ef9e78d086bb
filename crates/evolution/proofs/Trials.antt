-- Mutants and trial vectors, with the code's call results as variables.
use Rattle.std.proofs.Common.{◌≡◌, ℕ, ◌<◌, List, get_or, ap, ◌∙◌}
use lib.Ieee.{Float, nan}
use Rattle.rng_util.specs.Draws.{usize_of}
use Rattle.rng_util.specs.Gen.{draw_of, made}
use Rattle.rng_util.specs.Many.{pad_to, padded}
use Rattle.rng_util.specs.declared.Gen.{Gen}
use Rattle.rng_util.proofs.Parts.{many-same, pad-listed_read}
use Rattle.common.specs.Bounds.{zero_f}
use Rattle.candidates.specs.Random.{nan_bounds, random_choices}
use Rattle.candidates.specs.declared.Candidate.{Candidate}
use Rattle.candidates.specs.declared.Space.{Space}
use Rattle.candidates.proofs.Draws.{with-choices}
use Rattle.evolution.specs.Select.{index_count, indices_of}
use Rattle.evolution.specs.Mutant.{in_row, mutant_at, indices_for, mutant_of, mutated}
use Rattle.evolution.specs.Cross.{cross_entry, cross_at, crossed}
use Rattle.evolution.specs.Trial.{cross_with, trial_of}
use Rattle.evolution.specs.declared.BoundsRule.{BoundsRule}
use Rattle.evolution.specs.declared.Indices.{Indices}
use Rattle.evolution.specs.declared.Setup.{Setup}

module _ (S : Setup) (x : ℕ → ℕ → Float) (N best i n : ℕ) (g : Gen) where
  pub mutated-is : (count : ℕ) (t : Indices) (v : List Float) (g' : Gen) → count ≡ index_count S.strategy → made t g' ≡ indices_of count N i g → v ≡ pad_to 16 zero_f (mutant_of S x best i n t)
      → made v g' ≡ padded 16 zero_f (mutated S x N best i n g)
  unfolding mutated
  mutated-is count t v g' p e q =
      let h : made t g' ≡ indices_for S N i g = e ∙ ap (λ (k : ℕ). indices_of k N i g) p in
      (λ z. made (q z) g') ∙ (λ z. made (pad_to 16 zero_f (mutant_of S x best i n (h z).out)) (h z).after)

-- only the n entries of the mutant are read
crossed-same : (rule : BoundsRule) (rate : Float) (star : ℕ) (v w x : ℕ → Float) (s : Space) (g : Gen) → ((j : ℕ) → j < s.n → v j ≡ w j) → crossed rule rate star v x s g ≡ crossed rule rate star w x s g
unfolding crossed
crossed-same rule rate star v w x s g a =
    many-same (cross_at rule rate star v x s) (cross_at rule rate star w x s) s.n g (λ j e h. let p = a j h in λ i. cross_entry rule rate star (p i) (x j) (get_or s.bounds j nan_bounds) j e)

-- the trial vector: a mutant in an array, j*, what is crossed, and the choices
module _ (S : Setup) (x : ℕ → ℕ → Float) (N best : ℕ) (s : Space) (i : ℕ) (g : Gen) where
  pub trial-is : (m : List Float) (o star : ℕ) (xs : List Float) (cs : List ℕ) (g₁ g₂ g₃ g₄ : Gen) → made m g₁ ≡ padded 16 zero_f (mutated S x N best i s.n g) → made o g₂ ≡ draw_of g₁ → star ≡ usize_of o s.n
      → made xs g₃ ≡ padded 16 zero_f (crossed S.bounds_rule S.crossover_rate star (in_row m) (x i) s g₂) → made cs g₄ ≡ padded 16 0 (random_choices s g₃) → made {A = Candidate} (record { x = xs; choices = cs }) g₄ ≡ trial_of S x N best s i g
  unfolding mutated mutant_of trial_of
  trial-is m o star xs cs g₁ g₂ g₃ g₄ p q k r u =
      let t = indices_for S N i g in
      let d : made o g₂ ≡ draw_of t.after = q ∙ (λ z. draw_of (p z).after) in
      let row : (j : ℕ) → j < s.n → in_row m j ≡ mutant_at S x best i t.out j = λ j h. (λ z. in_row (p z).out j) ∙ pad-listed_read (mutant_at S x best i t.out) 16 zero_f nan s.n j h in
      let v : made xs g₃ ≡ padded 16 zero_f (cross_with S x best s i t) =
      r
      ∙ ap (padded 16 zero_f) (crossed-same S.bounds_rule S.crossover_rate star (in_row m) (mutant_at S x best i t.out) (x i) s g₂ row)
      ∙ (λ z. padded 16 zero_f (crossed S.bounds_rule S.crossover_rate (k z) (mutant_at S x best i t.out) (x i) s g₂))
      ∙ (λ z. padded 16 zero_f (crossed S.bounds_rule S.crossover_rate (usize_of (d z).out s.n) (mutant_at S x best i t.out) (x i) s (d z).after)) in
      with-choices s (cross_with S x best s i t) xs cs g₃ g₄ v u
