-- What document 02 says of a sweep (W10): the answer, lent memory afterwards, and which refusal it is. Idea: each combination has D numbers, so that the
-- blocks of D numbers in lent memory are the combinations in order; the checks are a chain of cases, each of which one answer alone comes of.
use Rattle.std.proofs.Common.{◌≡◌, ℕ, zero, suc, ◌+◌, ◌*◌, ◌<◌, ◌≤◌, ◌↔◌, Bool, true, false, not, ◌&&◌, ◌||◌, cond, eqb, ltb, List, [], ◌∷◌, ◌++◌, flat_map, length, get_or, take, drop, slice_index_or, inl, inr, All, AllPairs, Contains, HoldsAt, ℤ, Result, Ok, Err, refl, sym, ap, ◌∙◌, subst, true≢false, append_assoc, length-append, length-drop, take_at, drop_at, zero-mul, suc-mul, drop-drop, lt_trans, arith}
use Rattle.std.specs.Prelude.{⊤, Decides}
use Rattle.std.specs.List.{list_all}
use Rattle.std.specs.Result.{result_and}
use Rattle.std.proofs.lemmas.Bool.Decides.{Decides-by_or, Decides-at, Decides-or, Decides-ltb, Decides-eqb}
use Rattle.std.proofs.lemmas.List.{get_or_default}
use Rattle.std.proofs.lemmas.List.Elements.{All-nil, All-cons, All-head, All-tail, Contains-get_or}
use Rattle.distribution.specs.declared.Distribution.{Distribution}
use Rattle.distribution.specs.declared.Distribution.TheVariants.{Float as FloatD, Int as IntD, Categorical}
use Rattle.distribution.specs.declared.Refusal.{Refusal}
use Rattle.distribution.specs.Validate.{verdict_of}
use Rattle.sweep.specs.Gathered.{AllValid}
use Rattle.sweep.specs.Meaning.{IsValue, IsCombination, Before, IsFirst, IsFloatOrLadder, Applies16, Applies17, standing}
use Rattle.distribution.specs.declared.IntDistribution.{IntDistribution}
use Rattle.sweep.specs.Sweep.{int_value, is_sweepable, combinations_of, first_verdict, is_unsweepable, is_too_many, counted, after_verdict, sweep_of, numbers_of, swept_in}
use Rattle.sweep.specs.declared.SweepRefusal.{SweepRefusal}
use Rattle.sweep.specs.declared.SweepRefusal.TheVariants.{Dimension, Unsweepable, TooMany}
use Rattle.sweep.proofs.Members as members
use Rattle.sweep.proofs.Members.{Valid, all-valid}
use Rattle.sweep.proofs.Order as order

-- ---- lists of n numbers each, one after the other

module _ (n : ℕ) where
  joined-long : (cs : List (List ℤ)) → All (λ c. length c ≡ n) cs → length (flat_map (λ c. c) cs) ≡ length cs * n
  joined-long [] a = sym (zero-mul n)
  joined-long (c ∷ cs) a =
      length-append c (flat_map (λ c. c) cs)
      ∙ omega (arith, suc-mul (length cs) n, All-head (λ c. length c ≡ n) c cs a, joined-long cs (All-tail (λ c. length c ≡ n) c cs a))

  joined-at : (cs : List (List ℤ)) (rest : List ℤ) → All (λ c. length c ≡ n) cs → (i : ℕ) → i < length cs
      → take n (drop (i * n) (flat_map (λ c. c) cs ++ rest)) ≡ get_or cs i []
  joined-at [] rest a i l = absurd (omega (arith, l))
  joined-at (c ∷ cs) rest a zero l = rw (zero-mul n, append_assoc) (take_at c _ n (All-head (λ c. length c ≡ n) c cs a))
  joined-at (c ∷ cs) rest a (suc i) l =
      let long : length c ≡ n = All-head (λ c. length c ≡ n) c cs a in
      let after : suc i * n ≡ n + i * n = omega (arith, suc-mul i n) in
      let front : drop n (c ++ flat_map (λ c. c) cs ++ rest) ≡ flat_map (λ c. c) cs ++ rest = rw append_assoc (drop_at c _ n long) in
      rw (after, ← drop-drop (i * n) n (c ++ flat_map (λ c. c) cs ++ rest), front) (joined-at cs rest (All-tail (λ c. length c ≡ n) c cs a) i (omega arith))

-- ---- 4 to 7

first-is : (ds : List Distribution) (why : Refusal) → (first_verdict ds ≡ Err why) ↔ IsFirst ds why
unfolding first_verdict
first-is [] why = (λ e. cc, λ f. absurd (omega (arith, f.1)))
first-is (d ∷ ds) why = go (verdict_of d) refl (first-is ds why)
  where
    go : (v : Result ⊤ Refusal) → verdict_of d ≡ v → (first_verdict ds ≡ Err why) ↔ IsFirst ds why
        → (result_and v (first_verdict ds) ≡ Err why) ↔ IsFirst (d ∷ ds) why
    go (Ok u) e rest = (
      λ f. let q = rest.0 f in (suc q.0, omega (arith, q.1), All-cons Valid d (take q.0 ds) e q.2, q.3),
      λ f. rest.1 (past e f.0 f.1 f.2 f.3),
    )
      where
        past : Valid d → (k : ℕ) → k < length (d ∷ ds) → AllValid (take k (d ∷ ds)) → HoldsAt (λ x. verdict_of x ≡ Err why) (d ∷ ds) k → IsFirst ds why
        past e zero l a h = let one : Err why ≡ Ok tt = sym (h d) ∙ e in cc
        past e (suc k) l a h = (k, omega (arith, l), All-tail Valid d (take k ds) a, h)
    go (Err r) e rest = (λ f. (0, omega arith, All-nil Valid, λ x. e ∙ f), λ f. here f.0 f.2 f.3)
      where
        here : (k : ℕ) → AllValid (take k (d ∷ ds)) → HoldsAt (λ x. verdict_of x ≡ Err why) (d ∷ ds) k → ◌≡◌ {A = Result ⊤ Refusal} (Err r) (Err why)
        here zero a h = sym e ∙ h d
        here (suc k) a h = let one : Err r ≡ Ok tt = sym e ∙ All-head Valid d (take k ds) a in cc

-- ---- 16 and 17

float-or-ladder : (d : Distribution) → Decides (not (is_sweepable d)) (IsFloatOrLadder d)
float-or-ladder (FloatD d) = (λ e. tt, λ f. refl)
float-or-ladder (IntD d) = go d.log_scale
  where
    go : (b : Bool) → Decides (not (not b)) (b ≡ true)
    go true = (λ e. e, λ e. e)
    go false = (λ e. e, λ e. e)
float-or-ladder (Categorical d) = (λ e. absurd (true≢false (sym e)), λ f. absurd f)

one-of : (ds : List Distribution) → Decides (not (list_all is_sweepable ds)) ((k : ℕ) × (k < length ds) × HoldsAt IsFloatOrLadder ds k)
one-of =
    Decides-by_or (λ d. not (is_sweepable d)) IsFloatOrLadder (λ ds. not (list_all is_sweepable ds)) float-or-ladder refl
    (λ d ds. parts (is_sweepable d) (list_all is_sweepable ds))
  where
    parts : (a b : Bool) → not (a && b) ≡ (not a || not b)
    parts true b = refl
    parts false b = refl

decides-16 : (ds : List Distribution) → Decides (is_unsweepable ds) (Applies16 ds)
unfolding is_unsweepable
decides-16 ds =
    Decides-at (is_unsweepable ds) _ (grouped (eqb (length ds) 0) (ltb 16 (length ds)) (not (list_all is_sweepable ds)))
    (Decides-or _ _ (Decides-eqb (length ds) 0) (Decides-or _ _ (Decides-ltb 16 (length ds)) (one-of ds)))
  where
    grouped : (a b c : Bool) → (a || b || c) ≡ (a || (b || c))
    grouped true b c = refl
    grouped false b c = refl

decides-17 : (ds : List Distribution) (places : ℕ) → Decides (is_too_many ds places) (Applies17 ds places)
unfolding is_too_many
decides-17 ds places = Decides-or _ _ (Decides-ltb 65536 (length (combinations_of ds))) (Decides-ltb places (length (combinations_of ds) * length ds))

-- ---- the checks in their order: what each answer comes of

-- "Checks, after 4 to 7 on each dimension in turn: 16 .. comes before 17"
abbrev chain : Result ⊤ Refusal → Bool → Bool → ℕ → Result ℕ SweepRefusal
chain v a b n = after_verdict v (cond a (Err Unsweepable) (cond b (Err TooMany) (Ok n)))

module _ (n : ℕ) where
  by-4-to-7 : (v : Result ⊤ Refusal) (a b : Bool) (why : Refusal) → (chain v a b n ≡ Err (Dimension why)) ↔ (v ≡ Err why)
  by-4-to-7 (Err r) a b why = (λ e. cc, λ e. cc)
  by-4-to-7 (Ok u) true b why = (λ e. cc, λ e. cc)
  by-4-to-7 (Ok u) false true why = (λ e. cc, λ e. cc)
  by-4-to-7 (Ok u) false false why = (λ e. cc, λ e. cc)

  by-16 : (v : Result ⊤ Refusal) (a b : Bool) → (chain v a b n ≡ Err Unsweepable) ↔ ((v ≡ Ok tt) × (a ≡ true))
  by-16 (Err r) a b = (λ e. cc, λ e. cc)
  by-16 (Ok u) true b = (λ e. (refl, refl), λ e. refl)
  by-16 (Ok u) false true = (λ e. cc, λ e. cc)
  by-16 (Ok u) false false = (λ e. cc, λ e. cc)

  by-17 : (v : Result ⊤ Refusal) (a b : Bool) → (chain v a b n ≡ Err TooMany) ↔ ((v ≡ Ok tt) × (a ≡ false) × (b ≡ true))
  by-17 (Err r) a b = (λ e. cc, λ e. cc)
  by-17 (Ok u) true b = (λ e. cc, λ e. cc)
  by-17 (Ok u) false true = (λ e. (refl, refl, refl), λ e. refl)
  by-17 (Ok u) false false = (λ e. cc, λ e. cc)

  by-none : (v : Result ⊤ Refusal) (a b : Bool) (m : ℕ) → (chain v a b n ≡ Ok m) ↔ ((v ≡ Ok tt) × (a ≡ false) × (b ≡ false) × (m ≡ n))
  by-none (Err r) a b m = (λ e. cc, λ e. cc)
  by-none (Ok u) true b m = (λ e. cc, λ e. cc)
  by-none (Ok u) false true m = (λ e. cc, λ e. cc)
  by-none (Ok u) false false m = (λ e. (refl, refl, refl, cc), λ e. cc)

-- ---- which refusal

fails : {P : Type 0} (r : Bool) → Decides r P → (r ≡ false) ↔ (P → ⊥)
fails true d = (λ e. absurd (true≢false e), λ none. absurd (none (d.0 refl)))
fails false d = (λ e p. absurd (true≢false (sym (d.1 p))), λ none. refl)

module _ (ds : List Distribution) (places : ℕ) where
  -- "4 to 7 on each dimension in turn": whatever else is wrong, and the refusal is that of the first dimension that has one
  pub refused-4-to-7 : (why : Refusal) → (sweep_of ds places ≡ Err (Dimension why)) ↔ IsFirst ds why
  unfolding sweep_of counted
  refused-4-to-7 why =
      let q = by-4-to-7 (length (combinations_of ds)) (first_verdict ds) (is_unsweepable ds) (is_too_many ds places) why in
      let first = first-is ds why in
      (λ e. first.0 (q.0 e), λ f. q.1 (first.1 f))

  -- "16, no dimension, more than 16, or a Float or ladder dimension, comes before 17": whether or not 17 applies
  pub refused-16 : (sweep_of ds places ≡ Err Unsweepable) ↔ (AllValid ds × Applies16 ds)
  unfolding sweep_of counted
  refused-16 =
      let q = by-16 (length (combinations_of ds)) (first_verdict ds) (is_unsweepable ds) (is_too_many ds places) in
      let valid = all-valid ds in
      let sixteen = decides-16 ds in
      (λ e. let p = q.0 e in (valid.0 p.0, sixteen.0 p.1), λ h. q.1 (valid.1 h.0, sixteen.1 h.1))

  -- "17, more combinations than 65,536 or than the lent memory holds"
  pub refused-17 : (sweep_of ds places ≡ Err TooMany) ↔ (AllValid ds × (Applies16 ds → ⊥) × Applies17 ds places)
  unfolding sweep_of counted
  refused-17 =
      let q = by-17 (length (combinations_of ds)) (first_verdict ds) (is_unsweepable ds) (is_too_many ds places) in
      let valid = all-valid ds in
      let not-16 = fails (is_unsweepable ds) (decides-16 ds) in
      let seventeen = decides-17 ds places in
      (λ e. let p = q.0 e in (valid.0 p.0, not-16.0 p.1, seventeen.0 p.2), λ h. q.1 (valid.1 h.0, not-16.1 h.1, seventeen.1 h.2))

  -- where none of them applies, "its count is reported"
  pub taken : (n : ℕ) → (sweep_of ds places ≡ Ok n) ↔ (AllValid ds × (Applies16 ds → ⊥) × (Applies17 ds places → ⊥) × (n ≡ length (combinations_of ds)))
  unfolding sweep_of counted
  taken n =
      let q = by-none (length (combinations_of ds)) (first_verdict ds) (is_unsweepable ds) (is_too_many ds places) n in
      let valid = all-valid ds in
      let not-16 = fails (is_unsweepable ds) (decides-16 ds) in
      let not-17 = fails (is_too_many ds places) (decides-17 ds places) in
      (λ e. let p = q.0 e in (valid.0 p.0, not-16.0 p.1, not-17.0 p.2, p.3), λ h. q.1 (valid.1 h.0, not-16.1 h.1, not-17.1 h.2, h.3))

-- ---- the list, where the answer is a count n

module _ (ds : List Distribution) (lent : List ℤ) (n : ℕ) (answer : sweep_of ds (length lent) ≡ Ok n) where
  first-passes : first_verdict ds ≡ Ok tt
  first-passes = (all-valid ds).1 ((taken ds (length lent) n).0 answer).0

  -- "its count is reported": n combinations, at most 65,536, and lent memory holds them
  pub count-is : (n ≡ length (combinations_of ds)) × (n ≤ 65536) × (n * length ds ≤ length lent)
  count-is =
      let q = (taken ds (length lent) n).0 answer in
      let few : 65536 < length (combinations_of ds) → ⊥ = λ l. q.2 (inl l) in
      let held : length lent < length (combinations_of ds) * length ds → ⊥ = λ l. q.2 (inr l) in
      (q.3, omega arith, rw q.3 (omega arith))

  -- "every combination of these values and choices and no other"
  pub list-exactly : (c : List ℤ) → Contains (combinations_of ds) c ↔ IsCombination ds c
  list-exactly = members.listed-exactly ds first-passes

  -- "the last dimension changing fastest"
  pub rises : AllPairs Before (combinations_of ds)
  rises = order.rises ds first-passes

  -- "each combination once"
  pub once : (i j : ℕ) → i < n → j < n → slice_index_or (combinations_of ds) i [] ≡ slice_index_or (combinations_of ds) j [] → i ≡ j
  once i j k l = let c = count-is.0 in order.once ds first-passes i j (omega arith) (omega arith)

  -- "A combination is one signed 64-bit number a dimension"
  pub as-long : All (λ c. length c ≡ length ds) (combinations_of ds)
  as-long k d l = members.as-long ds (get_or (combinations_of ds) k d) (Contains-get_or (combinations_of ds) k d l)

  -- "The list goes into lent memory"
  left-is : swept_in ds lent ≡ numbers_of ds ++ drop (length (numbers_of ds)) lent
  unfolding swept_in
  left-is = rw answer refl

  numbers-long : length (numbers_of ds) ≡ n * length ds
  unfolding numbers_of
  numbers-long = joined-long (length ds) (combinations_of ds) as-long ∙ ap (λ (m : ℕ). m * length ds) (sym count-is.0)

  -- combination i of the list stands at place i × D and after
  pub stands-at : (i : ℕ) → i < n → standing (length ds) (swept_in ds lent) i ≡ slice_index_or (combinations_of ds) i []
  unfolding numbers_of
  stands-at i l = let c = count-is.0 in rw left-is (joined-at (length ds) (combinations_of ds) _ as-long i (omega arith))

  -- "nothing past it is touched"
  pub nothing-past : (drop (n * length ds) (swept_in ds lent) ≡ drop (n * length ds) lent) × (length (swept_in ds lent) ≡ length lent)
  nothing-past =
      let held = count-is.2 in (
        rw (left-is, ← numbers-long) (drop_at (numbers_of ds) _ _ refl),
        rw left-is (length-append (numbers_of ds) _ ∙ omega (arith, numbers-long, length-drop (length (numbers_of ds)) lent)),
      )

  -- the same of lent memory alone: "the list holds every combination of these values and choices and no other"
  pub memory-exactly : (c : List ℤ) → ((i : ℕ) × (i < n) × (standing (length ds) (swept_in ds lent) i ≡ c)) ↔ IsCombination ds c
  memory-exactly c =
      let count = count-is.0 in (
        λ m.
            let at = Contains-get_or (combinations_of ds) m.0 [] (omega (arith, m.1)) in
            (list-exactly c).0 (subst (Contains (combinations_of ds)) (sym (stands-at m.0 m.1) ∙ m.2) at),
        λ i.
            let m = (list-exactly c).1 i in
            let l : m.0 < n = omega (arith, m.1) in
            (m.0, l, stands-at m.0 l ∙ get_or_default (combinations_of ds) m.0 [] c m.1 ∙ m.2),
      )

  -- "a high that no step meets is left out": no combination has it in that dimension
  pub high-never-stands : (i k : ℕ) (d : IntDistribution) → i < n → k < length ds → slice_index_or ds k (IntD d) ≡ IntD d
      → ((m : ℕ) → int_value d m ≡ d.high → ⊥)
      → get_or (standing (length ds) (swept_in ds lent) i) k d.high ≡ d.high → ⊥
  high-never-stands i k d l m e never h =
      let c = standing (length ds) (swept_in ds lent) i in
      let is : IsCombination ds c = (memory-exactly c).0 (i, l, refl) in
      let high : IsValue (IntD d) d.high = rw (e, h) at (members.value-at ds c is k (IntD d) d.high m) in
      never high.0.0 (sym high.0.1)

  -- "the last dimension changing fastest"
  pub memory-rises : (i j : ℕ) → i < j → j < n → Before (standing (length ds) (swept_in ds lent) i) (standing (length ds) (swept_in ds lent) j)
  memory-rises i j h l = let count = count-is.0 in rw (stands-at i (lt_trans h l), stands-at j l) (rises i j [] h (omega arith))

  -- "each combination once"
  pub memory-once : (i j : ℕ) → i < n → j < n → standing (length ds) (swept_in ds lent) i ≡ standing (length ds) (swept_in ds lent) j → i ≡ j
  memory-once i j k l e = once i j k l (sym (stands-at i k) ∙ e ∙ stands-at j l)

-- ---- lent memory, where the answer is a refusal

-- nothing is touched
pub untouched : (ds : List Distribution) (lent : List ℤ) (why : SweepRefusal) → sweep_of ds (length lent) ≡ Err why → swept_in ds lent ≡ lent
unfolding swept_in
untouched ds lent why e = rw e refl
