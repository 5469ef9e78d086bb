-- Every word of a sound state of the machine has 64 bits.
use Rattle.std.specs.Prelude.{Option, Some, None, is_some, IfSome}
use Prim.Native.Nat.{ℕ, ◌^◌, ◌<◌}
use native.Mathlib.Omega.{arith}
use mathlib.Core.Path.{◌≡◌, refl, sym, subst}
use mathlib.Core.Bool.{Bool, true, false, cond}
use mathlib.Core.List.Memᴰ
use mathlib.Core.List.{List, [], ◌∷◌}
use lib.Dec.{eqb}
use lib.Ieee.{Float, nan, binary64}
use lib.Ieee.Bits.{to_bits-lt}
use lib.Ieee.Fits.{nan-fits}
use lib.IntN.{ℤ}
use lib.ListN.{take, drop, get_or}
use Rattle.distribution.specs.Dims.{is_continuous}
use Rattle.distribution.specs.declared.DimensionInfo.{DimensionInfo}
use Rattle.distribution.specs.declared.Distribution.{Distribution}
use Rattle.distribution.specs.declared.Distribution.TheVariants as D
use Rattle.common.proofs.PlaceLaws.{place-le}
use Rattle.ledger.specs.Words.{All}
use Rattle.candidates.specs.declared.Candidate.{Candidate}
use Rattle.evolution.specs.Strategy.{strategy_number}
use Rattle.evolution.specs.declared.DEStrategy.{DEStrategy}
use Rattle.evolution.specs.declared.DEStrategy.TheVariants.{Rand1, Best1, CurrentToBest1}
use Rattle.evolution.specs.declared.Member.{Member}
use Rattle.state.specs.Sound.{sound_state}
use Rattle.state.specs.View.{candidate_count, parent_count}
use Rattle.state.specs.declared.State.{State}
use Rattle.state.specs.declared.TrialProgress.{TrialProgress}
use Rattle.records.proofs.Lists.{both, all_take}
use Rattle.records.proofs.Fits.{Small}
use Rattle.kinds.specs.Rows.{double_word, whole_word, flag, setup_words, float_words, int_words, dim_words, trial_words, vector_words, candidate_words, member_words}
use Rattle.std.specs.List.{flat_map}
use Rattle.kinds.specs.Kinds.{dims_of, kind_words, count_words, dims_words, trials_words, parents_words, candidates_words}
use Rattle.kinds.specs.Typed.{Double, Whole, TypedDistribution, Choices, Word, TypedState, TypedNumbers, TypedCandidate, TypedMember}
use Rattle.kinds.proofs.Typed.{measured-of}

-- ---- one word

none : Small []
none a m = absurd (Memᴰ.not-nil m)

more : {w : ℕ} {ws : List ℕ} → Word w → Small ws → Small (w ∷ ws)
more h k a (Memᴰ.head e) = subst Word (sym e) h
more h k a (Memᴰ.tail m) = k a m

double-word : (x : Float) → Double x → Word (double_word x)
double-word x h = to_bits-lt binary64 x h

whole-word : (z : ℤ) → Whole z → Word (whole_word z)
whole-word z h = let k = place-le z h in omega arith

flag_word : (b : Bool) → Word (flag b)
flag_word true = omega arith
flag_word false = omega arith

strategy-word : (t : DEStrategy) → Word (strategy_number t)
strategy-word Rand1 = omega arith
strategy-word Best1 = omega arith
strategy-word CurrentToBest1 = omega arith

-- ---- a dimension, an open trial

float_small : (a b : Float) (s : Option Float) → Double a → Double b → IfSome s Double → Small (float_words a b s)
float_small a b None h k l = more (omega arith) (more (double-word a h) (more (double-word b k) (more (omega arith) (more (omega arith) none))))
float_small a b (Some x) h k l = more (omega arith) (more (double-word a h) (more (double-word b k) (more (omega arith) (more (double-word x l) none))))

int_small : (a b : ℤ) (s : Option ℤ) → Whole a → Whole b → IfSome s Whole → Small (int_words a b s)
int_small a b None h k l = more (omega arith) (more (whole-word a h) (more (whole-word b k) (more (omega arith) (more (omega arith) none))))
int_small a b (Some x) h k l = more (omega arith) (more (whole-word a h) (more (whole-word b k) (more (omega arith) (more (whole-word x l) none))))

dim-small : (d : Distribution) → TypedDistribution d → Choices d → Small (dim_words (record { distribution = d }))
unfolding dim_words
dim-small (D.Float d) t c = float_small d.low d.high d.step t.0 t.1 t.2
dim-small (D.Int d) t c = int_small d.low d.high d.step t.0 t.1 t.2
dim-small (D.Categorical d) t c = more (omega arith) (more (omega arith) (more (omega arith) (more (omega arith) (more (omega arith) none))))

-- ---- a vector

all_drop : {A : Type 0} (P : A → Type 0) (xs : List A) → All P xs → All P (drop 1 xs)
all_drop P [] h a m = h a m
all_drop P (x ∷ xs) h a m = h a (Memᴰ.tail m)

at_all : {A : Type 0} (P : A → Type 0) (xs : List A) (d : A) → All P xs → P d → P (get_or xs 0 d)
at_all P [] d h k = k
at_all P (x ∷ xs) d h k = h x (Memᴰ.head refl)

vector-small : (ds : List DimensionInfo) (xs : List Float) (cs : List ℕ) → All Double xs → All (λ (c : ℕ). c < 2 ^ 16) cs → Small (vector_words ds xs cs)
unfolding vector_words
vector-small [] xs cs h k = none
vector-small (d ∷ ds) xs cs h k =
    go (is_continuous d) (vector-small ds (drop 1 xs) (drop 1 cs) (all_drop Double xs h) (all_drop (λ (c : ℕ). c < 2 ^ 16) cs k)) (vector-small ds xs (drop 1 cs) h (all_drop (λ (c : ℕ). c < 2 ^ 16) cs k))
  where
    choice : get_or cs 0 0 < 2 ^ 16
    choice = at_all (λ (c : ℕ). c < 2 ^ 16) cs 0 k (omega arith)

    go : (b : Bool) → Small (vector_words ds (drop 1 xs) (drop 1 cs)) → Small (vector_words ds xs (drop 1 cs))
        → Small (cond b (double_word (get_or xs 0 nan) ∷ vector_words ds (drop 1 xs) (drop 1 cs)) (get_or cs 0 0 ∷ vector_words ds xs (drop 1 cs)))
    go true p q = more (double-word (get_or xs 0 nan) (at_all Double xs nan h (nan-fits binary64))) p
    go false p q = more (let l = choice in omega arith) q

candidate-small : (ds : List DimensionInfo) (c : Candidate) → TypedCandidate c → Small (candidate_words ds c)
candidate-small ds c t = vector-small ds c.x c.choices t.doubles t.small

member-small : (ds : List DimensionInfo) (m : Member) → TypedCandidate m.candidate × Double m.value → Small (member_words ds m)
member-small ds m t = both (candidate_words ds m.candidate) (double_word m.value ∷ []) (candidate-small ds m.candidate t.0) (more (double-word m.value t.1) none)

flat_map_small : {A : Type 0} (P : A → Type 0) (f : A → List ℕ) (xs : List A) → ((x : A) → P x → Small (f x)) → All P xs → Small (flat_map f xs)
flat_map_small P f [] h k = none
flat_map_small P f (x ∷ xs) h k = both (f x) (flat_map f xs) (h x (k x (Memᴰ.head refl))) (flat_map_small P f xs h (λ a m. k a (Memᴰ.tail m)))

-- ---- the state

module _ (s : State) (e : sound_state s ≡ true) (p : TypedState s) (c : TypedNumbers s) where
  small-1 : Small (setup_words s.setup)
  unfolding setup_words
  small-1 =
      more (double-word s.setup.mutation_factor p.factor) (more (double-word s.setup.crossover_rate p.rate) (more (strategy-word s.setup.strategy) (more (flag_word (is_some s.setup.population_size))
      (more (let h = c.size in omega arith) (more (let h = c.seed in omega arith) none)))))

  small-2 : Small (count_words s)
  unfolding count_words
  small-2 =
      more (flag_word (is_some s.first)) (more (let h = c.first in omega arith) (more (flag_word s.discovered) (more (let h = c.n in omega arith) (more (let h = c.dims in omega arith)
      (more (let h = c.trials in omega arith) (more (let h = (measured-of s p).closed in omega arith) (more (let h = (measured-of s p).idle in omega arith) (more (let h = c.best in omega arith) (more (let h = c.word in omega arith) none)))))))))

  abbrev TypedDim : DimensionInfo → Type 0
  TypedDim d = TypedDistribution d.distribution × Choices d.distribution

  small-3 : Small (dims_words s)
  unfolding dims_words
  small-3 = flat_map_small TypedDim dim_words (dims_of s) (λ d t. dim-small d.distribution t.0 t.1) (all_take TypedDim s.n_dims s.dims (λ d m. (p.dims d m, c.choices d m)))

  abbrev TypedTrial : TrialProgress → Type 0
  TypedTrial t = (t.number < 2 ^ 64) × (t.next_dim < 2 ^ 64)

  trial-small : (t : TrialProgress) → TypedTrial t → Small (trial_words t)
  unfolding trial_words
  trial-small t h = more (let k = h.0 in omega arith) (more (let k = h.1 in omega arith) none)

  small-4 : Small (trials_words s)
  unfolding trials_words
  small-4 = flat_map_small TypedTrial trial_words (take s.n_trials s.trials) trial-small (all_take TypedTrial s.n_trials s.trials c.numbers)

  small-5 : Small (parents_words s)
  unfolding parents_words
  small-5 = flat_map_small TypedMember (member_words (dims_of s)) (take (parent_count s) s.parents) (member-small (dims_of s)) (all_take TypedMember (parent_count s) s.parents p.parents)

  small-6 : Small (candidates_words s)
  unfolding candidates_words
  small-6 = flat_map_small TypedCandidate (candidate_words (dims_of s)) (take (candidate_count s) s.candidates) (candidate-small (dims_of s)) (all_take TypedCandidate (candidate_count s) s.candidates p.candidates)

  either : (b : Bool) (x y : List ℕ) → Small x → Small y → Small (cond b x y)
  either true x y h k = h
  either false x y h k = k

  pub kinds-small : (kind : ℕ) → Small (kind_words s kind)
  unfolding kind_words
  kinds-small kind =
      either (eqb kind 1) _ _ small-1
      (either (eqb kind 2) _ _ small-2
      (either (eqb kind 3) _ _ small-3
      (either (eqb kind 4) _ _ small-4
      (either (eqb kind 5) _ _ small-5 (either (eqb kind 6) _ _ small-6 none)))))
