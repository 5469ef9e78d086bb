-- Steps 3 and 4 for every slot: the candidates of a later generation.
use Rattle.std.specs.Prelude.{ℕ, cond, List, eqb, Float, length}
use Rattle.rng_util.specs.Draws.{usize_of}
use Rattle.rng_util.specs.Gen.{draw_of, Made}
use Rattle.rng_util.specs.Many.{many}
use Rattle.rng_util.specs.declared.Gen.{Gen}
use Rattle.candidates.specs.Random.{with_choices, random_candidates}
use Rattle.candidates.specs.declared.Candidate.{Candidate}
use Rattle.candidates.specs.declared.Space.{Space}
use Rattle.evolution.specs.Mutant.{entries, mutant_at, indices_for}
use Rattle.evolution.specs.Cross.{crossed}
use Rattle.evolution.specs.declared.Indices.{Indices}
use Rattle.evolution.specs.declared.Member.{Member}
use Rattle.evolution.specs.declared.Setup.{Setup}

-- "Crossover: one index j* is drawn below n", after the indices t of slot i; its mutant and its parent are crossed
abbrev pub cross_with : Setup → (ℕ → ℕ → Float) → ℕ → Space → ℕ → Made Indices → Made (List Float)
cross_with S x best s i t =
    let d = draw_of t.after in
    crossed S.bounds_rule S.crossover_rate (usize_of d.out s.n) (mutant_at S x best i t.out) (x i) s d.after

-- the trial vector of slot i, of N slots: mutation, crossover, "Then choices as in 2"
unfoldable pub trial_of : Setup → (ℕ → ℕ → Float) → ℕ → ℕ → Space → ℕ → Gen → Made Candidate
trial_of S x N best s i g = with_choices s (cross_with S x best s i (indices_for S N i g))

-- one for each parent, in slot order
unfoldable pub trial_vectors : Setup → List Member → ℕ → Space → Gen → Made (List Candidate)
trial_vectors S ps best s g = many (trial_of S (entries ps) (length ps) best s) (length ps) 0 g

-- "New candidates: steps 3 and 4 if n > 0, else step 2"
unfoldable pub next_candidates : Setup → List Member → ℕ → Space → Gen → Made (List Candidate)
next_candidates S ps best s g = cond (eqb s.n 0) (random_candidates s (length ps) g) (trial_vectors S ps best s g)
