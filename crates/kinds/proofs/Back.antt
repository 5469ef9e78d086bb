-- Each part of a state comes back from its words.
use Rattle.std.specs.Prelude.{Option, Some, None, is_some, unwrap_or, IfSome}
use Prim.Native.Nat.{ℕ, zero, suc, ◌+◌, ◌*◌, ◌%◌, ◌^◌, ◌≤◌, ◌<◌}
use native.Mathlib.Omega.{arith}
use mathlib.Core.Bool.{Bool, true, false, cond, true≢false}
use mathlib.Core.List.Memᴰ
use mathlib.Core.List.{List, [], ◌∷◌, ◌++◌, append_assoc, append-nil}
use mathlib.Core.Path.{◌≡◌, refl, sym, ap, ◌∙◌, subst}
use borrow.Author.Tests.{ltb-true, eqb-true}
use lib.Dec.{ltb, eqb}
use lib.Ieee.Bits.{of_bits-to_bits}
use lib.Ieee.{Float, nan, binary64}
use lib.IntN.{ℤ}
use lib.ListN.{length, take, drop, get_or, replicate, length-append}
use lib.Seq.{take_at, drop_at, get_or_at}
use Rattle.rng_util.specs.Many.{pad_to, listed}
use Rattle.distribution.specs.Dims.{is_continuous, choices_of}
use Rattle.distribution.specs.declared.DimensionInfo.{DimensionInfo}
use Rattle.distribution.specs.declared.Distribution.{Distribution}
use Rattle.distribution.specs.declared.Distribution.TheVariants as D
use Rattle.common.specs.Bounds.{zero_f}
use Rattle.common.proofs.PlaceLaws.{at-place}
use Rattle.ledger.specs.Words.{All, all}
use Rattle.candidates.specs.Space.{continuous_dims, continuous_count}
use Rattle.candidates.specs.declared.Candidate.{Candidate}
use Rattle.evolution.specs.declared.BoundsRule.{BoundsRule}
use Rattle.evolution.specs.declared.BoundsRule.TheVariants.{Clamp, Midpoint}
use Rattle.evolution.specs.declared.DEStrategy.TheVariants.{Rand1, Best1, CurrentToBest1}
use Rattle.evolution.specs.Strategy.{strategy_number}
use Rattle.evolution.specs.declared.DEStrategy.{DEStrategy}
use Rattle.evolution.specs.declared.Member.{Member}
use Rattle.evolution.specs.declared.Setup.{Setup}
use Rattle.kernel.specs.Fits.{is_zero, entry_fits, entries_fit, choice_limit, choices_fit, fits}
use Rattle.state.specs.declared.TrialProgress.{TrialProgress}
use Rattle.std.proofs.lemmas.Bool.{and_parts}
use Rattle.state.proofs.Floats.{zero-true}
use Rattle.state.proofs.Tidy.{padded}
use Rattle.kinds.specs.Opened.{row}
use Rattle.kinds.specs.Rows.{double_word, word_double, whole_word, word_whole, word_strategy, flag, word_option, rule_has_place, setup_has_place, setup_words, setup_in, float_words, int_words, dim_words, dim_in, trial_words, trial_in, vector_words, entries_in, choices_in, candidate_words, candidate_in, member_words, member_in}
use Rattle.std.specs.List.{flat_map}
use Rattle.kinds.specs.Typed.{Double, Whole, TypedCandidate}

double-back : (x : Float) → Double x → word_double (double_word x) ≡ x
double-back x h = of_bits-to_bits binary64 x h

-- ---- the set-up and the first trial

strategy-back : (t : DEStrategy) → word_strategy (strategy_number t) ≡ t
strategy-back Rand1 = refl
strategy-back Best1 = refl
strategy-back CurrentToBest1 = refl

pub option_back : (o : Option ℕ) → word_option (flag (is_some o)) (unwrap_or o 0) ≡ o
option_back None = refl
option_back (Some n) = refl

-- the one rule that has a place
pub rule-back : (r : BoundsRule) → rule_has_place r ≡ true → Clamp ≡ r
rule-back Clamp e = refl
rule-back Midpoint e = absurd (true≢false (sym e))

pub setup-back : (S : Setup) (rest : List ℕ) → setup_has_place S ≡ true → Double S.mutation_factor → Double S.crossover_rate → setup_in (setup_words S ++ rest) ≡ S
unfolding setup_in setup_words
setup-back S rest h f r =
    λ i. record {
      mutation_factor = double-back S.mutation_factor f i;
      crossover_rate = double-back S.crossover_rate r i;
      strategy = strategy-back S.strategy i;
      population_size = option_back S.population_size i;
      seed = S.seed;
      bounds_rule = rule-back S.bounds_rule h i;
    }

-- ---- a dimension

-- of 64 bits

whole_back : (z : ℤ) → Whole z → word_whole (whole_word z) ≡ z
whole_back z h = at-place z h

-- a distribution of doubles and 64-bit numbers, without log scale
abbrev pub Sayable : Distribution → Type 0
Sayable (D.Float d) = Double d.low × Double d.high × (d.log_scale ≡ false) × IfSome d.step Double
Sayable (D.Int d) = Whole d.low × Whole d.high × (d.log_scale ≡ false) × IfSome d.step Whole
Sayable (D.Categorical d) = Unit {0}

float_back : (a b : Float) (l : Bool) (s : Option Float) → Double a → Double b → l ≡ false → IfSome s Double
    → dim_in (float_words a b s) ≡ record { distribution = D.Float (record { low = a; high = b; log_scale = l; step = s }) }
unfolding dim_in
float_back a b l None p q e h = λ i. record { distribution = D.Float (record { low = double-back a p i; high = double-back b q i; log_scale = sym e i; step = None }) }
float_back a b l (Some x) p q e h = λ i. record { distribution = D.Float (record { low = double-back a p i; high = double-back b q i; log_scale = sym e i; step = Some (double-back x h i) }) }

int-back : (a b : ℤ) (l : Bool) (s : Option ℤ) → Whole a → Whole b → l ≡ false → IfSome s Whole
    → dim_in (int_words a b s) ≡ record { distribution = D.Int (record { low = a; high = b; log_scale = l; step = s }) }
unfolding dim_in
int-back a b l None p q e h = λ i. record { distribution = D.Int (record { low = whole_back a p i; high = whole_back b q i; log_scale = sym e i; step = None }) }
int-back a b l (Some x) p q e h = λ i. record { distribution = D.Int (record { low = whole_back a p i; high = whole_back b q i; log_scale = sym e i; step = Some (whole_back x h i) }) }

distribution-back : (d : Distribution) → Sayable d → dim_in (dim_words (record { distribution = d })) ≡ record { distribution = d }
unfolding dim_words dim_in
distribution-back (D.Float d) h = float_back d.low d.high d.log_scale d.step h.0 h.1 h.2 h.3
distribution-back (D.Int d) h = int-back d.low d.high d.log_scale d.step h.0 h.1 h.2 h.3
distribution-back (D.Categorical d) h = refl

pub dim-back : (d : DimensionInfo) → Sayable d.distribution → dim_in (dim_words d) ≡ d
dim-back d h = distribution-back d.distribution h

pub dim-length : (d : Distribution) → length (dim_words (record { distribution = d })) ≡ 5
unfolding dim_words
dim-length (D.Float d) = go d.step
  where
    go : (s : Option Float) → length (float_words d.low d.high s) ≡ 5
    go None = refl
    go (Some x) = refl
dim-length (D.Int d) = go d.step
  where
    go : (s : Option ℤ) → length (int_words d.low d.high s) ≡ 5
    go None = refl
    go (Some x) = refl
dim-length (D.Categorical d) = refl

pub trial-back : (t : TrialProgress) → trial_in (trial_words t) ≡ t
unfolding trial_in trial_words
trial-back t = refl

-- ---- several parts, a row each

module _ {A : Type 0} (f : A → List ℕ) (g : List ℕ → A) (w : ℕ) where
  pub record Returns (x : A) : Type 0 where
    pub width : length (f x) ≡ w
    pub back : g (f x) ≡ x

  from : (xs : List A) (before pad : List ℕ) (i : ℕ) → length before ≡ i * w → All Returns xs → listed (λ j. g (row (before ++ (flat_map f xs ++ pad)) w j)) (length xs) i ≡ xs
  unfolding listed
  from [] before pad i e h = refl
  from (x ∷ xs) before pad i e h =
      let r = h x (Memᴰ.head refl) in
      let q : row (before ++ (f x ++ flat_map f xs ++ pad)) w i ≡ f x =
      ap (take w) (drop_at before (f x ++ flat_map f xs ++ pad) (i * w) e) ∙ ap (take w) (append_assoc (f x) (flat_map f xs) pad) ∙ take_at (f x) (flat_map f xs ++ pad) w r.width in
      let s : before ++ (f x ++ flat_map f xs ++ pad) ≡ (before ++ f x) ++ (flat_map f xs ++ pad) =
      ap (λ (t : List ℕ). before ++ t) (append_assoc (f x) (flat_map f xs) pad) ∙ sym (append_assoc before (f x) (flat_map f xs ++ pad)) in
      λ k.
      (ap g q ∙ r.back) k
      ∷ (ap (λ (t : List ℕ). listed (λ j. g (row t w j)) (length xs) (i + 1)) s
      ∙ from xs (before ++ f x) pad (i + 1) (length-append before (f x) ∙ (λ j. e j + r.width j) ∙ next i) (λ a m. h a (Memᴰ.tail m))) k
    where
      next : (i : ℕ) → i * w + w ≡ (i + 1) * w
      next i = omega arith

  pub rows_back : (xs : List A) (pad : List ℕ) → All Returns xs → listed (λ j. g (row (flat_map f xs ++ pad) w j)) (length xs) 0 ≡ xs
  rows_back xs pad h = let z : 0 ≡ 0 * w = omega arith in from xs [] pad 0 z h

-- ---- a vector

-- by whether the dimension is continuous: how many entries, the words, the entries and the choices
module _ (d : DimensionInfo) (ds : List DimensionInfo) where
  count_by : (b : Bool) → is_continuous d ≡ b → continuous_count (d ∷ ds) ≡ cond b (suc (continuous_count ds)) (continuous_count ds)
  unfolding continuous_dims
  count_by true e = ap (λ (t : Bool). length (cond t (d ∷ continuous_dims ds) (continuous_dims ds))) e
  count_by false e = ap (λ (t : Bool). length (cond t (d ∷ continuous_dims ds) (continuous_dims ds))) e

  pub words-by : (b : Bool) (xs : List Float) (cs : List ℕ) → is_continuous d ≡ b
      → vector_words (d ∷ ds) xs cs ≡ cond b (double_word (get_or xs 0 nan) ∷ vector_words ds (drop 1 xs) (drop 1 cs)) (get_or cs 0 0 ∷ vector_words ds xs (drop 1 cs))
  unfolding vector_words
  words-by b xs cs e = ap (λ (t : Bool). cond t (double_word (get_or xs 0 nan) ∷ vector_words ds (drop 1 xs) (drop 1 cs)) (get_or cs 0 0 ∷ vector_words ds xs (drop 1 cs))) e

  pub entries_by : (b : Bool) (w : ℕ) (ws : List ℕ) → is_continuous d ≡ b → entries_in (d ∷ ds) (w ∷ ws) ≡ cond b (word_double w ∷ entries_in ds ws) (entries_in ds ws)
  unfolding entries_in
  entries_by b w ws e = ap (λ (t : Bool). cond t (word_double w ∷ entries_in ds ws) (entries_in ds ws)) e

  pub choices-by : (b : Bool) (w : ℕ) (ws : List ℕ) → is_continuous d ≡ b → choices_in (d ∷ ds) (w ∷ ws) ≡ cond b 0 (w % 2 ^ 16) ∷ choices_in ds ws
  unfolding choices_in
  choices-by b w ws e = ap (λ (t : Bool). cond t 0 (w % 2 ^ 16) ∷ choices_in ds ws) e

pub vector-length : (ds : List DimensionInfo) (xs : List Float) (cs : List ℕ) → length (vector_words ds xs cs) ≡ length ds
unfolding vector_words
vector-length [] xs cs = refl
vector-length (d ∷ ds) xs cs = go (is_continuous d) refl (vector-length ds (drop 1 xs) (drop 1 cs)) (vector-length ds xs (drop 1 cs))
  where
    go : (b : Bool) → is_continuous d ≡ b → length (vector_words ds (drop 1 xs) (drop 1 cs)) ≡ length ds → length (vector_words ds xs (drop 1 cs)) ≡ length ds → length (vector_words (d ∷ ds) xs cs) ≡ suc (length ds)
    go true e p q = ap length (words-by d ds true xs cs e) ∙ ap suc p
    go false e p q = ap length (words-by d ds false xs cs e) ∙ ap suc q

entries-back : (ds : List DimensionInfo) (xs : List Float) (cs rest : List ℕ) → All Double xs → continuous_count ds ≤ length xs
    → entries_in ds (vector_words ds xs cs ++ rest) ≡ take (continuous_count ds) xs
unfolding entries_in vector_words continuous_dims
entries-back [] xs cs rest h l = refl
entries-back (d ∷ ds) xs cs rest h l = go (is_continuous d) refl xs h l (λ ys k m. entries-back ds ys (drop 1 cs) rest k m)
  where
    go : (b : Bool) → is_continuous d ≡ b → (xs : List Float) → All Double xs → continuous_count (d ∷ ds) ≤ length xs
        → ((ys : List Float) → All Double ys → continuous_count ds ≤ length ys → entries_in ds (vector_words ds ys (drop 1 cs) ++ rest) ≡ take (continuous_count ds) ys)
        → entries_in (d ∷ ds) (vector_words (d ∷ ds) xs cs ++ rest) ≡ take (continuous_count (d ∷ ds)) xs
    go true e [] h l again = absurd (omega (arith, count_by d ds true e))
    go true e (x ∷ xs) h l again =
        ap (λ (ws : List ℕ). entries_in (d ∷ ds) (ws ++ rest)) (words-by d ds true (x ∷ xs) cs e)
        ∙ entries_by d ds true (double_word x) (vector_words ds xs (drop 1 cs) ++ rest) e
        ∙ (λ i. double-back x (h x (Memᴰ.head refl)) i ∷ again xs (λ a m. h a (Memᴰ.tail m)) (omega (arith, count_by d ds true e)) i)
        ∙ ap (λ (n : ℕ). take n (x ∷ xs)) (sym (count_by d ds true e))
    go false e xs h l again =
        ap (λ (ws : List ℕ). entries_in (d ∷ ds) (ws ++ rest)) (words-by d ds false xs cs e)
        ∙ entries_by d ds false (get_or cs 0 0) (vector_words ds xs (drop 1 cs) ++ rest) e
        ∙ again xs h (omega (arith, count_by d ds false e))
        ∙ ap (λ (n : ℕ). take n xs) (sym (count_by d ds false e))

limit-by : (b : Bool) (d : DimensionInfo) → is_continuous d ≡ b → choice_limit d ≡ cond b 1 (choices_of d)
limit-by b d e = ap (λ (t : Bool). cond t 1 (choices_of d)) e

choices-back : (ds : List DimensionInfo) (xs : List Float) (cs rest : List ℕ) → choices_fit ds cs ≡ true → All (λ c. c < 2 ^ 16) cs
    → choices_in ds (vector_words ds xs cs ++ rest) ≡ take (length ds) cs
unfolding choices_in vector_words choices_fit
choices-back [] xs cs rest h l = refl
choices-back (d ∷ ds) xs [] rest h l = absurd (true≢false (sym h))
choices-back (d ∷ ds) xs (c ∷ cs) rest h l =
    let r = and_parts (ltb c (choice_limit d)) (choices_fit ds cs) h in
    go (is_continuous d) refl (ltb-true c (choice_limit d) r.0) (λ ys. choices-back ds ys cs rest r.1 (λ a m. l a (Memᴰ.tail m)))
  where
    none_left : (c : ℕ) → c < 1 → 0 ≡ c
    none_left c h = omega arith

    small : (c : ℕ) → c < 2 ^ 16 → c % 2 ^ 16 ≡ c
    small c h = omega arith

    go : (b : Bool) → is_continuous d ≡ b → c < choice_limit d → ((ys : List Float) → choices_in ds (vector_words ds ys cs ++ rest) ≡ take (length ds) cs)
        → choices_in (d ∷ ds) (vector_words (d ∷ ds) xs (c ∷ cs) ++ rest) ≡ c ∷ take (length ds) cs
    go true e k again =
        ap (λ (ws : List ℕ). choices_in (d ∷ ds) (ws ++ rest)) (words-by d ds true xs (c ∷ cs) e)
        ∙ choices-by d ds true (double_word (get_or xs 0 nan)) (vector_words ds (drop 1 xs) cs ++ rest) e
        ∙ (λ i. none_left c (subst (λ (n : ℕ). c < n) (limit-by true d e) k) i ∷ again (drop 1 xs) i)
    go false e k again =
        ap (λ (ws : List ℕ). choices_in (d ∷ ds) (ws ++ rest)) (words-by d ds false xs (c ∷ cs) e)
        ∙ choices-by d ds false c (vector_words ds xs cs ++ rest) e
        ∙ (λ i. small c (l c (Memᴰ.head refl)) i ∷ again xs i)

-- ---- a candidate: past its dimensions it is blank

zeros : (xs : List Float) → all is_zero xs ≡ true → xs ≡ replicate (length xs) zero_f
unfolding all
zeros [] e = refl
zeros (x ∷ xs) e = let r = and_parts (is_zero x) (all is_zero xs) e in λ i. zero-true x r.0 i ∷ zeros xs r.1 i

noughts : (cs : List ℕ) → all (eqb 0) cs ≡ true → cs ≡ replicate (length cs) 0
unfolding all
noughts [] e = refl
noughts (c ∷ cs) e = let r = and_parts (eqb 0 c) (all (eqb 0) cs) e in λ i. sym (eqb-true 0 c r.0) i ∷ noughts cs r.1 i

entries-after : (n : ℕ) (xs : List Float) → entries_fit n xs ≡ true → (n ≤ length xs) × (all is_zero (drop n xs) ≡ true)
unfolding entries_fit
entries-after zero xs e = (omega arith, e)
entries-after (suc n) [] e = absurd (true≢false (sym e))
entries-after (suc n) (x ∷ xs) e = let r = entries-after n xs (and_parts (entry_fits x) (entries_fit n xs) e).1 in (omega (arith, r.0), r.1)

choices-after : (ds : List DimensionInfo) (cs : List ℕ) → choices_fit ds cs ≡ true → (length ds ≤ length cs) × (all (eqb 0) (drop (length ds) cs) ≡ true)
unfolding choices_fit
choices-after [] cs e = (omega arith, e)
choices-after (d ∷ ds) [] e = absurd (true≢false (sym e))
choices-after (d ∷ ds) (c ∷ cs) e = let r = choices-after ds cs (and_parts (ltb c (choice_limit d)) (choices_fit ds cs) e).1 in (omega (arith, r.0), r.1)

module _ (ds : List DimensionInfo) (y : Candidate) (t : TypedCandidate y) (h : fits ds y ≡ true) (rest : List ℕ) where
  pub candidate-back : candidate_in ds (candidate_words ds y ++ rest) ≡ y
  unfolding fits
  candidate-back =
      let r = and_parts (entries_fit (continuous_count ds) y.x) (choices_fit ds y.choices) h in
      let a = entries-after (continuous_count ds) y.x r.0 in
      let b = choices-after ds y.choices r.1 in
      let lx = t.x in
      let lc = t.choices in
      let px : pad_to 16 zero_f (take (continuous_count ds) y.x) ≡ y.x = padded zero_f (continuous_count ds) 16 y.x lx (omega (arith, a.0)) (zeros (drop (continuous_count ds) y.x) a.1) in
      let pc : pad_to 16 0 (take (length ds) y.choices) ≡ y.choices = padded 0 (length ds) 16 y.choices lc (omega (arith, b.0)) (noughts (drop (length ds) y.choices) b.1) in
      λ i. record {
        x = (ap (pad_to 16 zero_f) (entries-back ds y.x y.choices rest t.doubles a.0) ∙ px) i;
        choices = (ap (pad_to 16 0) (choices-back ds y.x y.choices rest r.1 t.small) ∙ pc) i;
      }

pub candidate-returns : (ds : List DimensionInfo) (y : Candidate) → TypedCandidate y → fits ds y ≡ true → Returns (candidate_words ds) (candidate_in ds) (length ds) y
candidate-returns ds y t h =
    record {
      width = vector-length ds y.x y.choices;
      back = ap (candidate_in ds) (sym (append-nil (candidate_words ds y))) ∙ candidate-back ds y t h [];
    }

pub member-returns : (ds : List DimensionInfo) (m : Member) → TypedCandidate m.candidate → Double m.value → fits ds m.candidate ≡ true → Returns (member_words ds) (member_in ds) (length ds + 1) m
member-returns ds m t v h =
    let l = vector-length ds m.candidate.x m.candidate.choices in
    record {
      width = length-append (candidate_words ds m.candidate) (double_word m.value ∷ []) ∙ ap (λ (n : ℕ). n + 1) l;
      back = λ i. record {
        candidate = candidate-back ds m.candidate t h (double_word m.value ∷ []) i;
        value = (ap word_double (get_or_at (candidate_words ds m.candidate) (double_word m.value) [] 0 (length ds) l) ∙ double-back m.value v) i;
      };
    }

pub dim-returns : (d : DimensionInfo) → Sayable d.distribution → Returns dim_words dim_in 5 d
dim-returns d h = record { width = dim-length d.distribution; back = dim-back d h }

pub trial-returns : (t : TrialProgress) → Returns trial_words trial_in 2 t
unfolding trial_words
trial-returns t = record { width = refl; back = trial-back t }
