-- The sampler's candidates are of doubles and its generator's words of 64 bits: every entry is a sum of doubles, a bound or a parent's entry.
use Prim.Native.Nat.{ℕ, zero, suc, ◌+◌, ◌≤◌}
use native.Mathlib.Omega.{arith}
use mathlib.Core.Path.{refl}
use mathlib.Core.Bool.{Bool, true, false, cond}
use mathlib.Core.List.Memᴰ
use mathlib.Core.List.{List, [], ◌∷◌, map}
use lib.Dec.{eqb}
use lib.Ieee.{Float, nan, binary64, add, sub, mul, lt, of_int}
use lib.Ieee.Bits.{of_bits-fits}
use lib.Ieee.Fits.{add-fits, div-fits, nan-fits, of_int-fits}
use lib.ListN.{length, get_or}
use Rattle.rng_util.specs.Draws.{unit_of, usize_of}
use Rattle.rng_util.specs.Gen.{draw_of, Made}
use Rattle.rng_util.specs.Many.{many, pad_to}
use Rattle.rng_util.specs.SplitMix.{grown, drawn}
use Rattle.rng_util.specs.declared.Gen.{Gen}
use Rattle.rng_util.proofs.Parts.{many-length, pad-length}
use Rattle.rounding.specs.Clamp.{clamp_of}
use Rattle.distribution.specs.Dims.{is_continuous}
use Rattle.distribution.specs.declared.DimensionInfo.{DimensionInfo}
use Rattle.distribution.specs.declared.Distribution.{Distribution}
use Rattle.distribution.specs.declared.Distribution.TheVariants as D
use Rattle.common.specs.Bounds.{zero_f, ladder_bounds, no_bounds, bounds, bounds_of}
use Rattle.common.specs.Random.{random_setting}
use Rattle.common.specs.declared.Bounds.{Bounds}
use Rattle.ledger.specs.Words.{All}
use Rattle.ledger.specs.Kernel as L
use Rattle.ledger.proofs.Lists.{all_nil}
use Rattle.candidates.specs.Candidate.{packed}
use Rattle.candidates.specs.Random.{random_entry, nan_bounds, entry_at, random_entries, random_choice, choice_at, random_choices, random_candidate, candidate_at, random_candidates}
use Rattle.candidates.specs.Space.{continuous_dims, continuous_bounds, space_of}
use Rattle.candidates.specs.declared.Candidate.{Candidate}
use Rattle.candidates.specs.declared.Space.{Space}
use Rattle.candidates.proofs.Passed.{few-continuous}
use Rattle.evolution.specs.Cross.{two, clamped, halfway, drawn_in, judged_entry, cross_entry, cross_at, crossed}
use Rattle.evolution.specs.Mutant.{no_member, entries, mutant_entry, mutant_at, indices_for}
use Rattle.evolution.specs.Trial.{trial_of, trial_vectors, next_candidates}
use Rattle.evolution.specs.declared.BoundsRule.{BoundsRule}
use Rattle.evolution.specs.declared.BoundsRule.TheVariants.{Clamp, Midpoint}
use Rattle.evolution.specs.declared.DEStrategy.{DEStrategy}
use Rattle.evolution.specs.declared.DEStrategy.TheVariants.{Rand1, Best1, CurrentToBest1}
use Rattle.evolution.specs.declared.Member.{Member}
use Rattle.evolution.specs.declared.Setup.{Setup}
use Rattle.kernel.specs.De.{de, code_gen, member_of, firsts_of, extra_of, nexts_of}
use Rattle.kernel.proofs.Fit.{all_cons, all_made}
use Rattle.state.proofs.Measured.{Sized}
use Rattle.records.proofs.Lists.{all-padded}
use Rattle.kinds.specs.Typed.{Double, Word, TypedDistribution}
use Rattle.restarts.proofs.Keep.{Makes}

-- ---- words

after-draw : (g : Gen) → Word (draw_of g).after.word
unfolding draw_of drawn grown
after-draw g = omega arith

many-word : {A : Type 0} (make : ℕ → Gen → Made A) → ((j : ℕ) (g : Gen) → Word g.word → Word (make j g).after.word) → (k i : ℕ) (g : Gen) → Word g.word → Word (many make k i g).after.word
unfolding many
many-word make h zero i g w = w
many-word make h (suc k) i g w = many-word make h k (i + 1) (make i g).after (h i g w)

entry-word : (b : Bounds) (g : Gen) → Word (random_entry b g).after.word
unfolding random_entry
entry-word b g = after-draw g

choice-word : (k : ℕ) (g : Gen) → Word g.word → Word (random_choice k g).after.word
unfolding random_choice
choice-word k g w = go (eqb k 0)
  where
    go : (b : Bool) → Word (cond {A = Made ℕ} b (record { out = 0; after = g }) (record { out = usize_of (draw_of g).out k; after = (draw_of g).after })).after.word
    go true = w
    go false = after-draw g

choices-word : (s : Space) (g : Gen) → Word g.word → Word (random_choices s g).after.word
unfolding random_choices
choices-word s g w = many-word (choice_at s) (λ j h v. choice-word (get_or s.counts j 0) h v) s.n_dims 0 g w

entries-word : (s : Space) (g : Gen) → Word g.word → Word (random_entries s g).after.word
unfolding random_entries
entries-word s g w = many-word (entry_at s) (λ j h v. entry-word (get_or s.bounds j nan_bounds) h) s.n 0 g w

candidate-word : (s : Space) (g : Gen) → Word g.word → Word (random_candidate s g).after.word
unfolding random_candidate
candidate-word s g w = choices-word s (random_entries s g).after (entries-word s g w)

candidates-word : (s : Space) (N : ℕ) (g : Gen) → Word g.word → Word (random_candidates s N g).after.word
unfolding random_candidates
candidates-word s N g w = many-word (candidate_at s) (λ j. candidate-word s) N 0 g w

cross-word : (rule : BoundsRule) (CR : Float) (star : ℕ) (v x : Float) (b : Bounds) (j : ℕ) (g : Gen) → Word g.word → Word (cross_entry rule CR star v x b j g).after.word
unfolding cross_entry
cross-word rule CR star v x b j g w = go (eqb j star)
  where
    go : (t : Bool) → Word (cond {A = Made Float} t (record { out = judged_entry rule b x v; after = g })
        (record { out = cond (lt (unit_of (draw_of g).out) CR) (judged_entry rule b x v) (clamped b x); after = (draw_of g).after })).after.word
    go true = w
    go false = after-draw g

crossed-word : (rule : BoundsRule) (CR : Float) (star : ℕ) (v x : ℕ → Float) (s : Space) (g : Gen) → Word g.word → Word (crossed rule CR star v x s g).after.word
unfolding crossed
crossed-word rule CR star v x s g w = many-word (cross_at rule CR star v x s) (λ j h u. cross-word rule CR star (v j) (x j) (get_or s.bounds j nan_bounds) j h u) s.n 0 g w

trial-word : (S : Setup) (x : ℕ → ℕ → Float) (N best : ℕ) (s : Space) (i : ℕ) (g : Gen) → Word (trial_of S x N best s i g).after.word
unfolding trial_of
trial-word S x N best s i g =
    let t = indices_for S N i g in
    let d = draw_of t.after in
    choices-word s _ (crossed-word S.bounds_rule S.crossover_rate (usize_of d.out s.n) (mutant_at S x best i t.out) (x i) s d.after (after-draw t.after))

nexts-word : (S : Setup) (ps : List Member) (best : ℕ) (s : Space) (g : Gen) → Word g.word → Word (next_candidates S ps best s g).after.word
unfolding next_candidates trial_vectors
nexts-word S ps best s g w = go (eqb s.n 0)
  where
    go : (b : Bool) → Word (cond b (random_candidates s (length ps) g) (trial_vectors S ps best s g)).after.word
    go true = candidates-word s (length ps) g w
    go false = many-word (trial_of S (entries ps) (length ps) best s) (λ j h u. trial-word S (entries ps) (length ps) best s j h) (length ps) 0 g w

-- ---- doubles

all-at : {A : Type 0} (P : A → Type 0) (xs : List A) (j : ℕ) (z : A) → All P xs → P z → P (get_or xs j z)
all-at P [] j z h k = k
all-at P (x ∷ xs) zero z h k = h x (Memᴰ.head refl)
all-at P (x ∷ xs) (suc j) z h k = all-at P xs j z (λ a t. h a (Memᴰ.tail t)) k

clamp-double : (v low high : Float) → Double v → Double low → Double high → Double (clamp_of v low high)
unfolding clamp_of
clamp-double v low high a b c = go (lt v low) (lt high v)
  where
    go : (s t : Bool) → Double (cond s low (cond t high v))
    go true t = b
    go false true = c
    go false false = a

half-double : (x bound : Float) → Double (halfway x bound)
unfolding halfway
half-double x bound = div-fits binary64 (add binary64 x bound) two

drawn-double : (rule : BoundsRule) (b : Bounds) (x v : Float) → Double v → Double (drawn_in rule b x v)
unfolding drawn_in
drawn-double Clamp b x v a = a
drawn-double Midpoint b x v a = go (lt v b.low) (lt b.high v)
  where
    go : (s t : Bool) → Double (cond s (halfway x b.low) (cond t (halfway x b.high) v))
    go true t = half-double x b.low
    go false true = half-double x b.high
    go false false = a

mutant-double : (s : DEStrategy) (F x b x1 x2 x3 : Float) → Double (mutant_entry s F x b x1 x2 x3)
unfolding mutant_entry
mutant-double Rand1 F x b x1 x2 x3 = add-fits binary64 x1 (mul binary64 F (sub binary64 x2 x3))
mutant-double Best1 F x b x1 x2 x3 = add-fits binary64 b (mul binary64 F (sub binary64 x1 x2))
mutant-double CurrentToBest1 F x b x1 x2 x3 = add-fits binary64 (add binary64 x (mul binary64 F (sub binary64 b x))) (mul binary64 F (sub binary64 x1 x2))

abbrev DoubleBounds : Bounds → Type 0
DoubleBounds b = Double b.low × Double b.high

bounds-double : (d : Distribution) → TypedDistribution d → DoubleBounds (bounds d)
bounds-double (D.Float d) t = (t.0, t.1)
bounds-double (D.Int d) t = go d.log_scale
  where
    go : (b : Bool) → DoubleBounds (cond b (ladder_bounds d) (record { low = of_int binary64 d.low; high = of_int binary64 d.high }))
    go true = (of_int-fits binary64 _, of_int-fits binary64 _)
    go false = (of_int-fits binary64 d.low, of_int-fits binary64 d.high)
bounds-double (D.Categorical d) t = (of_bits-fits binary64 0, of_bits-fits binary64 0)

abbrev pub TypedDim : DimensionInfo → Type 0
TypedDim d = TypedDistribution d.distribution

-- a candidate of 16 places each, of doubles
abbrev pub Doubles : Candidate → Type 0
Doubles c = Sized c × All Double c.x

module _ (ds : List DimensionInfo) (few : length ds ≤ 16) (h : All TypedDim ds) where
  all-bounds : (ds : List DimensionInfo) → All TypedDim ds → All DoubleBounds (continuous_bounds ds)
  unfolding continuous_dims
  all-bounds [] h = all_nil DoubleBounds
  all-bounds (d ∷ ds) h = go (is_continuous d) (all-bounds ds (λ a t. h a (Memᴰ.tail t)))
    where
      go : (t : Bool) → All DoubleBounds (continuous_bounds ds) → All DoubleBounds (map bounds_of (cond t (d ∷ continuous_dims ds) (continuous_dims ds)))
      go true r = all_cons DoubleBounds (bounds_of d) (continuous_bounds ds) (bounds-double d.distribution (h d (Memᴰ.head refl))) r
      go false r = r

  bounds-at : (j : ℕ) → DoubleBounds (get_or (space_of ds).bounds j nan_bounds)
  unfolding space_of
  bounds-at j = all-at DoubleBounds (pad_to 16 no_bounds (continuous_bounds ds)) j nan_bounds (all-padded DoubleBounds 16 no_bounds (continuous_bounds ds) (all-bounds ds h) (of_bits-fits binary64 0, of_bits-fits binary64 0)) (nan-fits binary64, nan-fits binary64)

  abbrev s : Space
  s = space_of ds

  n-few : s.n ≤ 16
  unfolding space_of
  n-few = omega (arith, few-continuous ds)

  d-few : s.n_dims ≤ 16
  unfolding space_of
  d-few = few

  choices-length : (g : Gen) → length (random_choices s g).out ≤ 16
  unfolding random_choices
  choices-length g = omega (arith, many-length (choice_at s) s.n_dims 0 g, d-few)

  packed-doubles : (xs : List Float) (g : Gen) → length xs ≤ 16 → All Double xs → Doubles (packed xs (random_choices s g).out)
  packed-doubles xs g l d = (
    record { x = pad-length 16 zero_f xs l; choices = pad-length 16 0 (random_choices s g).out (choices-length g) },
    all-padded Double 16 zero_f xs d (of_bits-fits binary64 0),
  )

  entry-double : (b : Bounds) (g : Gen) → Double (random_entry b g).out
  unfolding random_entry
  entry-double b g = add-fits binary64 _ _

  random-doubles : (g : Gen) → Doubles (random_candidate s g).out
  unfolding random_candidate random_entries
  random-doubles g =
      packed-doubles (many (entry_at s) s.n 0 g).out (many (entry_at s) s.n 0 g).after (omega (arith, many-length (entry_at s) s.n 0 g, n-few))
      (all_made Double (entry_at s) s.n (λ j l e. entry-double (get_or s.bounds j nan_bounds) e) s.n 0 g (omega arith))

  firsts-doubles : (N : ℕ) (g : Gen) → All Doubles (random_candidates s N g).out
  unfolding random_candidates
  firsts-doubles N g = all_made Doubles (candidate_at s) N (λ j l e. random-doubles e) N 0 g (omega arith)

  cross-double : (rule : BoundsRule) (CR : Float) (star : ℕ) (v x : Float) (b : Bounds) (j : ℕ) (g : Gen) → Double v → Double x → DoubleBounds b → Double (cross_entry rule CR star v x b j g).out
  unfolding cross_entry
  cross-double rule CR star v x b j g p q r = go (eqb j star) (lt (unit_of (draw_of g).out) CR)
    where
      mutants : Double (judged_entry rule b x v)
      mutants = clamp-double (drawn_in rule b x v) b.low b.high (drawn-double rule b x v p) r.0 r.1

      go : (t u : Bool) → Double (cond {A = Made Float} t (record { out = judged_entry rule b x v; after = g }) (record { out = cond u (judged_entry rule b x v) (clamped b x); after = (draw_of g).after })).out
      go true u = mutants
      go false true = mutants
      go false false = clamp-double x b.low b.high q r.0 r.1

  module _ (S : Setup) (x : ℕ → ℕ → Float) (xs : (i j : ℕ) → Double (x i j)) (N best : ℕ) where
    trial-doubles : (i : ℕ) (g : Gen) → Doubles (trial_of S x N best s i g).out
    unfolding trial_of crossed
    trial-doubles i g =
        let t = indices_for S N i g in
        let d = draw_of t.after in
        let make = cross_at S.bounds_rule S.crossover_rate (usize_of d.out s.n) (mutant_at S x best i t.out) (x i) s in
        packed-doubles (many make s.n 0 d.after).out (many make s.n 0 d.after).after (omega (arith, many-length make s.n 0 d.after, n-few))
        (all_made Double make s.n
        (λ j l e. cross-double S.bounds_rule S.crossover_rate (usize_of d.out s.n) (mutant_at S x best i t.out j) (x i j) (get_or s.bounds j nan_bounds) j e (mutant-double S.strategy _ _ _ _ _ _) (xs i j) (bounds-at j))
        s.n 0 d.after (omega arith))

  entries-double : (ps : List Member) → All (λ (m : Member). Doubles m.candidate) ps → (i j : ℕ) → Double (entries ps i j)
  entries-double ps k i j = all-at Double (get_or ps i no_member).candidate.x j nan (all-at (λ (m : Member). All Double m.candidate.x) ps i no_member (λ m t. (k m t).1) (all_nil Double)) (nan-fits binary64)

  nexts-doubles : (S : Setup) (ps : List Member) (best : ℕ) (g : Gen) → All (λ (m : Member). Doubles m.candidate) ps → All Doubles (next_candidates S ps best s g).out
  unfolding next_candidates trial_vectors
  nexts-doubles S ps best g k = go (eqb s.n 0)
    where
      go : (b : Bool) → All Doubles (cond b (random_candidates s (length ps) g) (trial_vectors S ps best s g)).out
      go true = firsts-doubles (length ps) g
      go false =
          all_made Doubles (trial_of S (entries ps) (length ps) best s) (length ps) (λ j l e. trial-doubles S (entries ps) (entries-double ps k) (length ps) best j e) (length ps) 0 g (omega arith)

-- ---- the kernel

abbrev FineMember : L.Parent Candidate → Type 0
FineMember p = Doubles p.candidate × Double p.value

members : (ps : List (L.Parent Candidate)) → All FineMember ps → All (λ (m : Member). Doubles m.candidate) (map member_of ps)
members [] h = all_nil (λ (m : Member). Doubles m.candidate)
members (p ∷ ps) h = all_cons (λ (m : Member). Doubles m.candidate) (member_of p) (map member_of ps) (h p (Memᴰ.head refl)).0 (members ps (λ a t. h a (Memᴰ.tail t)))

pub de-makes : (S : Setup) → Word S.seed → Makes de Word Doubles TypedDim Double Word S
unfolding firsts_of extra_of nexts_of random_setting
de-makes S w =
    record {
      of_seed = w;
      of_random = λ d g v. after-draw (code_gen g);
      of_firsts = λ ds n g few h v. (firsts-doubles ds few h n (code_gen g), candidates-word (space_of ds) n (code_gen g) v);
      of_extra = λ ds g few h v. (random-doubles ds few h (code_gen g), candidate-word (space_of ds) (code_gen g) v);
      of_nexts = λ ds ps b g few h k v. (nexts-doubles ds few h S (map member_of ps) b (code_gen g) (members ps k), nexts-word S (map member_of ps) b (space_of ds) (code_gen g) v);
    }
