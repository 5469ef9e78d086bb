-- The draws of random candidates: at most one for each dimension, and exactly one where every categorical dimension has a choice (refusal 7).
use Prim.Native.Nat.{ℕ, zero, suc, ◌+◌, ◌*◌, ◌<◌, ◌≤◌}
use native.Mathlib.Omega.{arith}
use native.Mathlib.Nat.{mul-le-mul_left}
use mathlib.Core.Path.{◌≡◌, refl, ap, ◌∙◌}
use mathlib.Core.Bool.{Bool, true, false, cond}
use mathlib.Core.List.{List, [], ◌∷◌}
use borrow.Author.Tests.{ne_eqb}
use lib.Dec.{eqb}
use lib.ListN.{length, get_or, drop, take, length-append, length-map}
use lib.Seq.{take-append_seam}
use Rattle.rng_util.specs.Draws.{usize_of}
use Rattle.rng_util.specs.Gen.{draw_of, made}
use Rattle.rng_util.specs.Many.{pad_to, many}
use Rattle.rng_util.specs.declared.Gen.{Gen}
use Rattle.distribution.specs.Dims.{continuous, choices, is_continuous, choices_of}
use Rattle.distribution.specs.declared.DimensionInfo.{DimensionInfo}
use Rattle.distribution.specs.declared.Distribution.{Distribution}
use Rattle.distribution.specs.declared.Distribution.TheVariants.{Float as FloatD, Int as IntD, Categorical}
use Rattle.candidates.specs.Space.{continuous_dims, continuous_count, choice_counts, space_of}
use Rattle.candidates.specs.Random.{random_entry, entry_at, random_entries, random_choice, choice_at, random_choices, random_candidate, candidate_at, random_candidates}
use Rattle.candidates.specs.declared.Space.{Space}
use Rattle.candidates.proofs.Lists.{next-drop}

-- ---- entries: one draw each

entries_from : (s : Space) (k i : ℕ) (g : Gen) → (many (entry_at s) k i g).after.draws ≡ g.draws + k
unfolding many random_entry draw_of
entries_from s zero i g = omega arith
entries_from s (suc k) i g = omega (arith, entries_from s k (i + 1) (draw_of g).after)

pub entries-count : (s : Space) (g : Gen) → (random_entries s g).after.draws ≡ g.draws + s.n
unfolding random_entries
entries-count s g = entries_from s s.n 0 g

-- ---- choices: one draw for each dimension that has some

abbrev some : ℕ → ℕ
some k = cond (eqb k 0) 0 1

unfoldable pub chosen : List ℕ → ℕ
chosen [] = 0
chosen (k ∷ ks) = some k + chosen ks

choice-count : (k : ℕ) (g : Gen) → (random_choice k g).after.draws ≡ g.draws + some k
unfolding random_choice draw_of
choice-count k g = go (eqb k 0) 0 (usize_of (draw_of g).out k)
  where
    go : (t : Bool) (a b : ℕ) → (cond t (made a g) (made b (draw_of g).after)).after.draws ≡ g.draws + cond t 0 1
    go true a b = omega arith
    go false a b = omega arith

choices-from : (s : Space) (k i : ℕ) (g : Gen) → i + k ≤ length s.counts → (many (choice_at s) k i g).after.draws ≡ g.draws + chosen (take k (drop i s.counts))
unfolding many chosen
choices-from s zero i g h = omega arith
choices-from s (suc k) i g h =
    rw (next-drop s.counts i 0 (omega arith))
    (omega (arith, choices-from s k (i + 1) (choice_at s i g).after (omega arith), choice-count (get_or s.counts i 0) g))

counts-long : (ds : List DimensionInfo) → length ds ≤ length (pad_to 16 0 (choice_counts ds))
counts-long ds = simp length-append (omega (arith, length-map ds choices_of))

counts-there : (ds : List DimensionInfo) → take (length ds) (pad_to 16 0 (choice_counts ds)) ≡ choice_counts ds
counts-there ds = rw (← length-map ds choices_of) (take-append_seam (choice_counts ds) _)

pub choices-count : (ds : List DimensionInfo) (g : Gen) → (random_choices (space_of ds) g).after.draws ≡ g.draws + chosen (choice_counts ds)
unfolding random_choices space_of
choices-count ds g =
    choices-from (space_of ds) (length ds) 0 g (omega (arith, counts-long ds))
    ∙ rw (counts-there ds)

-- ---- a dimension has an entry, or a choice

-- refusal 7 is for no dimension
unfoldable pub Chosen : List DimensionInfo → Type 0
Chosen [] = Unit {0}
Chosen (d ∷ ds) = (is_continuous d ≡ false → 0 < choices_of d) × Chosen ds

one_of : (t : Bool) → cond t 0 1 + 0 ≤ 1
one_of true = omega arith
one_of false = omega arith

at_most_one : (k : Distribution) → some (choices k) + cond (continuous k) 1 0 ≤ 1
at_most_one (FloatD f) = omega arith
at_most_one (IntD i) = omega arith
at_most_one (Categorical c) = one_of (eqb c.n_choices 0)

just-one : (k : Distribution) → (continuous k ≡ false → 0 < choices k) → some (choices k) + cond (continuous k) 1 0 ≡ 1
just-one (FloatD f) h = refl
just-one (IntD i) h = refl
just-one (Categorical c) h = rw (ne_eqb c.n_choices 0 (λ e. let p = h refl in omega arith))

counted : (t : Bool) (d : DimensionInfo) (ds : List DimensionInfo) → length (cond t (d ∷ ds) ds) ≡ cond t 1 0 + length ds
counted true d ds = omega arith
counted false d ds = omega arith

dims-count : (d : DimensionInfo) (ds : List DimensionInfo) → continuous_count (d ∷ ds) ≡ cond (is_continuous d) 1 0 + continuous_count ds
unfolding continuous_dims
dims-count d ds = counted (is_continuous d) d (continuous_dims ds)

pub draws-few : (ds : List DimensionInfo) → chosen (choice_counts ds) + continuous_count ds ≤ length ds
unfolding chosen continuous_dims
draws-few [] = omega arith
draws-few (d ∷ ds) = omega (arith, dims-count d ds, at_most_one d.distribution, draws-few ds)

pub draws-all : (ds : List DimensionInfo) → Chosen ds → chosen (choice_counts ds) + continuous_count ds ≡ length ds
unfolding chosen continuous_dims Chosen
draws-all [] h = refl
draws-all (d ∷ ds) h = omega (arith, dims-count d ds, just-one d.distribution h.0, draws-all ds h.1)

-- ---- candidates

candidate-count : (ds : List DimensionInfo) (g : Gen) → (random_candidate (space_of ds) g).after.draws ≡ g.draws + (chosen (choice_counts ds) + continuous_count ds)
unfolding random_candidate space_of
candidate-count ds g = omega (arith, choices-count ds (random_entries (space_of ds) g).after, entries-count (space_of ds) g)

candidates-from : (ds : List DimensionInfo) (k i : ℕ) (g : Gen) → (many (candidate_at (space_of ds)) k i g).after.draws ≡ g.draws + k * (chosen (choice_counts ds) + continuous_count ds)
unfolding many
candidates-from ds zero i g = omega arith
candidates-from ds (suc k) i g = omega (arith, candidates-from ds k (i + 1) (random_candidate (space_of ds) g).after, candidate-count ds g)

pub candidate-few : (ds : List DimensionInfo) (g : Gen) → (random_candidate (space_of ds) g).after.draws ≤ g.draws + length ds
candidate-few ds g = omega (arith, candidate-count ds g, draws-few ds)

-- exactly D for a random candidate, and N × D for the first generation
pub candidate-draws-all : (ds : List DimensionInfo) (g : Gen) → Chosen ds → (random_candidate (space_of ds) g).after.draws ≡ g.draws + length ds
candidate-draws-all ds g h = candidate-count ds g ∙ ap (λ (k : ℕ). g.draws + k) (draws-all ds h)

pub candidates-few : (ds : List DimensionInfo) (N : ℕ) (g : Gen) → (random_candidates (space_of ds) N g).after.draws ≤ g.draws + N * length ds
unfolding random_candidates
candidates-few ds N g = omega (arith, candidates-from ds N 0 g, mul-le-mul_left N (draws-few ds))

pub candidates-draws-all : (ds : List DimensionInfo) (N : ℕ) (g : Gen) → Chosen ds → (random_candidates (space_of ds) N g).after.draws ≡ g.draws + N * length ds
unfolding random_candidates
candidates-draws-all ds N g h = candidates-from ds N 0 g ∙ ap (λ (k : ℕ). g.draws + N * k) (draws-all ds h)
