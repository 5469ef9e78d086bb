-- A new candidate fits its dimensions. Idea: a drawn entry fits, and so does a crossed one where the parents' entries do (Small); a choice is a remainder by its dimension's number.
use Rattle.std.specs.Prelude.{None}
use Rattle.std.specs.Float.{NotNan}
use mathlib.Core.Path.{◌≡◌, refl, sym, ◌∙◌, subst}
use mathlib.Core.Bool.{Bool, true, false, cond}
use mathlib.Core.List.Memᴰ
use mathlib.Core.List.{List, [], ◌∷◌, ◌++◌, map}
use Prim.Native.Nat.{ℕ, zero, suc, ◌+◌, ◌-◌, ◌≤◌, ◌<◌}
use native.Mathlib.Nat.{mod-lt, not-suc-le-zero, le_of_suc-le-suc}
use native.Mathlib.Omega.{arith}
use lib.Dec.{T, eqb, ltb, lt→ltb}
use lib.Ieee.{Float, nan, of_bits, of_fields, odd}
use lib.Ieee.Fits.{and_i, and_l, and_r}
use lib.ListN.{length, get_or, drop, replicate, length-map, drop_of_length-le, get_or-append, get_or-map}
use Rattle.rng_util.specs.Draws.{usize_of}
use Rattle.rng_util.specs.Gen.{draw_of, Made, made}
use Rattle.rng_util.specs.Many.{pad_to, many}
use Rattle.rng_util.specs.declared.Gen.{Gen}
use Rattle.rng_util.proofs.Parts.{many-length}
use Rattle.distribution.specs.Dims.{continuous, choices, is_continuous, choices_of, no_dim}
use Rattle.distribution.specs.Good.{Good}
use Rattle.distribution.specs.Validate.{judged}
use Rattle.distribution.specs.declared.DimensionInfo.{DimensionInfo}
use Rattle.distribution.specs.declared.Distribution.{Distribution}
use Rattle.distribution.specs.declared.Distribution.TheVariants.{Float as FloatD, Int as IntD, Categorical}
use Rattle.distribution.proofs.Meaning.{judged-good}
use Rattle.common.specs.Bounds.{zero_f, bounds_of}
use Rattle.candidates.specs.Space.{continuous_dims, continuous_count, continuous_bounds, choice_counts, space_of}
use Rattle.candidates.specs.Random.{nan_bounds, entry_at, random_entries, random_choice, choice_at, random_choices, with_choices, random_candidate, candidate_at, random_candidates}
use Rattle.candidates.proofs.Lists.{next-drop}
use Rattle.evolution.specs.Select.{index_count}
use Rattle.evolution.specs.Mutant.{no_member, entries, mutant_at, indices_for}
use Rattle.evolution.specs.Cross.{cross_at, crossed}
use Rattle.evolution.specs.Trial.{trial_of, trial_vectors, next_candidates}
use Rattle.evolution.specs.declared.Member.{Member}
use Rattle.evolution.specs.declared.Setup.{Setup}
use Rattle.evolution.proofs.Apart.{indices-apart, third-below}
use Rattle.ledger.specs.Words.{All, all}
use Rattle.ledger.proofs.Lists.{all_nil}
use Rattle.kernel.specs.Fits.{is_zero, entry_fits, entries_fit, choice_limit, choices_fit, fits}
use Rattle.kernel.specs.Setup.{factor_fails}
use Rattle.kernel.proofs.Small.{SmallBounds, bounds-small, drawn-fits, crossed-fits, mutant-number}

-- ---- what holds of each of a list

module _ {A : Type 0} (P : A → Type 0) where
  pub all_cons : (x : A) (xs : List A) → P x → All P xs → All P (x ∷ xs)
  all_cons x xs p h a (Memᴰ.head e) = subst P (sym e) p
  all_cons x xs p h a (Memᴰ.tail t) = h a t

  all-at : (xs : List A) (j : ℕ) (z : A) → All P xs → j < length xs → P (get_or xs j z)
  all-at [] j z h l = absurd (not-suc-le-zero l)
  all-at (x ∷ xs) zero z h l = h x (Memᴰ.head refl)
  all-at (x ∷ xs) (suc j) z h l = all-at xs j z (λ a t. h a (Memᴰ.tail t)) (le_of_suc-le-suc l)

  -- of each that is made, where the first m numbers give such
  pub all_made : (make : ℕ → Gen → Made A) (m : ℕ) → ((j : ℕ) → j < m → (g : Gen) → P (make j g).out) → (k i : ℕ) (g : Gen) → i + k ≤ m → All P (many make k i g).out
  unfolding many
  all_made make m h zero i g l = all_nil P
  all_made make m h (suc k) i g l = all_cons (make i g).out _ (h i (omega arith) g) (all_made make m h k (i + 1) (make i g).after (omega arith))

-- ---- what refusals 4 to 7 leave

abbrev pub Passes : DimensionInfo → Type 0
Passes d = judged d.distribution ≡ None

all_small : (ds : List DimensionInfo) → All Passes ds → All SmallBounds (continuous_bounds ds)
unfolding continuous_dims
all_small [] h = all_nil SmallBounds
all_small (d ∷ ds) h = go (is_continuous d) (all_small ds (λ a t. h a (Memᴰ.tail t)))
  where
    go : (t : Bool) → All SmallBounds (continuous_bounds ds) → All SmallBounds (map bounds_of (cond t (d ∷ continuous_dims ds) (continuous_dims ds)))
    go true r = all_cons SmallBounds (bounds_of d) (continuous_bounds ds) (bounds-small d.distribution (judged-good d.distribution (h d (Memᴰ.head refl)))) r
    go false r = r

-- the bounds of entry j
bounds-at : (ds : List DimensionInfo) → All Passes ds → (j : ℕ) → j < continuous_count ds → SmallBounds (get_or (space_of ds).bounds j nan_bounds)
unfolding space_of
bounds-at ds h j l =
    let n : j < length (continuous_bounds ds) = omega (arith, length-map (continuous_dims ds) bounds_of) in
    subst SmallBounds (sym (get_or-append (continuous_bounds ds) _ nan_bounds j n)) (all-at SmallBounds (continuous_bounds ds) j nan_bounds (all_small ds h) n)

-- ---- entries

-- it is at most 4e300 in size
abbrev EntryFits : Float → Type 0
EntryFits x = T (entry_fits x)

zeros : (m : ℕ) → T (all is_zero (replicate m zero_f))
unfolding all of_bits of_fields odd
zeros zero = tt
zeros (suc m) = zeros m

entries-fit : (xs : List Float) (m : ℕ) → All EntryFits xs → T (entries_fit (length xs) (xs ++ replicate m zero_f))
unfolding entries_fit
entries-fit [] m h = zeros m
entries-fit (x ∷ xs) m h =
    and_i (entry_fits x) (entries_fit (length xs) (xs ++ replicate m zero_f)) (h x (Memᴰ.head refl)) (entries-fit xs m (λ a t. h a (Memᴰ.tail t)))

-- ---- the parents' entries

fit-at : (n : ℕ) (xs : List Float) (j : ℕ) → T (entries_fit n xs) → j < n → EntryFits (get_or xs j nan)
unfolding entries_fit
fit-at zero xs j h l = absurd (not-suc-le-zero l)
fit-at (suc n) [] j h l = absurd h
fit-at (suc n) (x ∷ xs) zero h l = and_l (entry_fits x) (entries_fit n xs) h
fit-at (suc n) (x ∷ xs) (suc j) h l = fit-at n xs j (and_r (entry_fits x) (entries_fit n xs) h) (le_of_suc-le-suc l)

abbrev pub MemberFits : List DimensionInfo → Member → Type 0
MemberFits ds p = T (fits ds p.candidate)

parents-fit : (ds : List DimensionInfo) (ps : List Member) → All (MemberFits ds) ps → (r j : ℕ) → r < length ps → j < continuous_count ds → EntryFits (entries ps r j)
unfolding fits
parents-fit ds ps h r j p q =
    let y = (get_or ps r no_member).candidate in
    fit-at (continuous_count ds) y.x j (and_l (entries_fit (continuous_count ds) y.x) (choices_fit ds y.choices) (all-at (MemberFits ds) ps r no_member h p)) q

-- ---- choices

no-choices : (m : ℕ) → T (all (eqb 0) (replicate m 0))
unfolding all
no-choices zero = tt
no-choices (suc m) = no-choices m

choice-below : (d : Distribution) (g : Gen) → Good d → T (ltb (random_choice (choices d) g).out (cond (continuous d) 1 (choices d)))
unfolding random_choice
choice-below (FloatD d) g h = tt
choice-below (IntD d) g h = tt
choice-below (Categorical d) g h = go (eqb d.n_choices 0)
  where
    go : (t : Bool) → T (ltb (cond t (made 0 g) (made (usize_of (draw_of g).out d.n_choices) (draw_of g).after)).out d.n_choices)
    go true = lt→ltb 0 d.n_choices h.some_choice
    go false = lt→ltb (usize_of (draw_of g).out d.n_choices) d.n_choices (mod-lt (draw_of g).out h.some_choice)

choice-fits : (d : DimensionInfo) (g : Gen) → Passes d → T (ltb (random_choice (choices_of d) g).out (choice_limit d))
choice-fits d g p = choice-below d.distribution g (judged-good d.distribution p)

count-at : (ds : List DimensionInfo) (i : ℕ) → i < length ds → get_or (space_of ds).counts i 0 ≡ choices_of (get_or ds i no_dim)
unfolding space_of
count-at ds i l = get_or-append (choice_counts ds) _ 0 i (omega (arith, length-map ds choices_of)) ∙ get_or-map choices_of ds i no_dim

choices-from : (ds : List DimensionInfo) → All Passes ds → (k i : ℕ) (g : Gen) (m : ℕ) → i + k ≡ length ds → T (choices_fit (drop i ds) ((many (choice_at (space_of ds)) k i g).out ++ replicate m 0))
unfolding many choices_fit
choices-from ds h zero i g m e = rw (drop_of_length-le ds {i = i} (omega arith)) (no-choices m)
choices-from ds h (suc k) i g m e =
    let l : i < length ds = omega arith in
    let c = choice_at (space_of ds) i g in
    rw (next-drop ds i no_dim l)
    (and_i (ltb c.out (choice_limit (get_or ds i no_dim))) (choices_fit (drop (i + 1) ds) ((many (choice_at (space_of ds)) k (i + 1) c.after).out ++ replicate m 0))
    (rw (count-at ds i l) (choice-fits (get_or ds i no_dim) g (all-at Passes ds i no_dim h l))) (choices-from ds h k (i + 1) c.after m (omega arith)))

choices-fit : (ds : List DimensionInfo) → All Passes ds → (g : Gen) → T (choices_fit ds (pad_to 16 0 (random_choices (space_of ds) g).out))
unfolding random_choices space_of
choices-fit ds h g = choices-from ds h (length ds) 0 g (16 - length (many (choice_at (space_of ds)) (length ds) 0 g).out) (omega arith)

-- ---- a candidate

candidate-fits : (ds : List DimensionInfo) → All Passes ds → (xs : Made (List Float)) → length xs.out ≡ continuous_count ds → All EntryFits xs.out → T (fits ds (with_choices (space_of ds) xs).out)
unfolding fits
candidate-fits ds h xs e k =
    and_i (entries_fit (continuous_count ds) (pad_to 16 zero_f xs.out)) (choices_fit ds (pad_to 16 0 (random_choices (space_of ds) xs.after).out))
    (subst (λ (n : ℕ). T (entries_fit n (pad_to 16 zero_f xs.out))) e (entries-fit xs.out (16 - length xs.out) k))
    (choices-fit ds h xs.after)

module _ (ds : List DimensionInfo) (h : All Passes ds) where
  pub random-fits : (g : Gen) → T (fits ds (random_candidate (space_of ds) g).out)
  unfolding random_candidate random_entries space_of
  random-fits g =
      let n = continuous_count ds in
      let make = entry_at (space_of ds) in
      candidate-fits ds h (many make n 0 g) (many-length make n 0 g)
      (all_made EntryFits make n (λ j l e. drawn-fits (get_or (space_of ds).bounds j nan_bounds) e (bounds-at ds h j l)) n 0 g (omega arith))

  pub firsts_fit : (N : ℕ) (g : Gen) → All (λ c. T (fits ds c)) (random_candidates (space_of ds) N g).out
  unfolding random_candidates
  firsts_fit N g = all_made (λ c. T (fits ds c)) (candidate_at (space_of ds)) N (λ j l e. random-fits e) N 0 g (omega arith)

  -- ---- a later one, of the entries x of N parents

  module _ (S : Setup) (f : factor_fails S.mutation_factor ≡ false) (x : ℕ → ℕ → Float) (N best : ℕ) (size : 4 ≤ N) (below : best < N) (fit : (r j : ℕ) → r < N → j < continuous_count ds → EntryFits (x r j)) where
    -- a mutant's entry is a number
    mutant-at : (i : ℕ) (g : Gen) → i < N → (j : ℕ) → j < continuous_count ds → NotNan (mutant_at S x best i (indices_for S N i g).out j)
    mutant-at i g hi j l =
        let count = index_count S.strategy in
        let t = (indices_for S N i g).out in
        let a = indices-apart count N i g size in
        mutant-number S.strategy S.mutation_factor (x i j) (x best j) (x t.r1 j) (x t.r2 j) (x t.r3 j) f (fit i j hi l) (fit best j below l)
        (fit t.r1 j a.below_1 l) (fit t.r2 j a.below_2 l) (fit t.r3 j (third-below count N i g size hi) l)

    trial-fits : (i : ℕ) (g : Gen) → i < N → T (fits ds (trial_of S x N best (space_of ds) i g).out)
    unfolding trial_of crossed space_of
    trial-fits i g hi =
        let n = continuous_count ds in
        let t = indices_for S N i g in
        let d = draw_of t.after in
        let make = cross_at S.bounds_rule S.crossover_rate (usize_of d.out n) (mutant_at S x best i t.out) (x i) (space_of ds) in
        candidate-fits ds h (many make n 0 d.after) (many-length make n 0 d.after)
        (all_made EntryFits make n (λ j l e. crossed-fits _ _ _ _ _ (get_or (space_of ds).bounds j nan_bounds) j e (bounds-at ds h j l) (fit i j hi l) (mutant-at i g hi j l)) n 0 d.after (omega arith))

  pub nexts_fit : (S : Setup) → factor_fails S.mutation_factor ≡ false → (ps : List Member) (best : ℕ) (g : Gen) → All (MemberFits ds) ps → 4 ≤ length ps → best < length ps
      → All (λ c. T (fits ds c)) (next_candidates S ps best (space_of ds) g).out
  unfolding next_candidates trial_vectors
  nexts_fit S f ps best g fit size below = go (eqb (space_of ds).n 0)
    where
      go : (t : Bool) → All (λ c. T (fits ds c)) (cond t (random_candidates (space_of ds) (length ps) g) (trial_vectors S ps best (space_of ds) g)).out
      go true = firsts_fit (length ps) g
      go false =
          all_made (λ c. T (fits ds c)) (trial_of S (entries ps) (length ps) best (space_of ds)) (length ps)
          (λ j l e. trial-fits S f (entries ps) (length ps) best size below (parents-fit ds ps fit) j e l) (length ps) 0 g (omega arith)

-- ---- as many as asked for, or as there are parents

pub firsts_length : (ds : List DimensionInfo) (N : ℕ) (g : Gen) → length (random_candidates (space_of ds) N g).out ≡ N
unfolding random_candidates
firsts_length ds N g = many-length (candidate_at (space_of ds)) N 0 g

pub nexts_length : (ds : List DimensionInfo) (S : Setup) (ps : List Member) (best : ℕ) (g : Gen) → length (next_candidates S ps best (space_of ds) g).out ≡ length ps
unfolding next_candidates trial_vectors
nexts_length ds S ps best g = go (eqb (space_of ds).n 0)
  where
    go : (t : Bool) → length (cond t (random_candidates (space_of ds) (length ps) g) (trial_vectors S ps best (space_of ds) g)).out ≡ length ps
    go true = firsts_length ds (length ps) g
    go false = many-length (trial_of S (entries ps) (length ps) best (space_of ds)) (length ps) 0 g
