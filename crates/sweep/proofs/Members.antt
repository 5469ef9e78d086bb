-- What is in a list of combinations: exactly what has one value of each list. By recursion on the lists: what begins with one value of the first list is
-- that value put before each combination of the others.
use Rattle.std.proofs.Common.{◌≡◌, ℕ, zero, suc, ◌<◌, ◌⊎◌, ◌↔◌, List, [], ◌∷◌, map, flat_map, length, get_or, Contains, ℤ, Result, Ok, Err, refl, sym, ap, ◌∙◌, subst, inl, inr, ⊎_elim, arith}
use Rattle.std.specs.Prelude.{⊤}
use Rattle.std.specs.List.{AllZip}
use Rattle.std.proofs.lemmas.List.{length-map, get_or-map}
use Rattle.std.proofs.lemmas.List.Elements.{Contains-get_or, Contains-append_left, Contains-append_right, Contains-append_cases, All-nil, All-cons, All-head, All-tail}
use Rattle.std.specs.Result.{result_and}
use Rattle.distribution.specs.declared.Distribution.{Distribution}
use Rattle.distribution.specs.declared.Refusal.{Refusal}
use Rattle.distribution.specs.Validate.{verdict_of}
use Rattle.sweep.specs.Gathered.{AllValid}
use Rattle.sweep.specs.Meaning.{IsValue, IsCombination}
use Rattle.sweep.specs.Sweep.{values_of, combinations, combinations_of, first_verdict}
use Rattle.sweep.proofs.Values.{values-exactly}

-- ---- members of a list, of its images and of joined lists

module _ {A : Type 0} where
  pub nothing-in : (x : A) → Contains [] x → ⊥
  nothing-in x m = absurd (omega (arith, m.1))

  pub in-front : (x : A) (xs : List A) → Contains (x ∷ xs) x
  in-front x xs = (0, omega arith, refl)

  pub in-rest : (y : A) (xs : List A) (x : A) → Contains xs x → Contains (y ∷ xs) x
  in-rest y xs x m = (suc m.0, omega (arith, m.1), m.2)

  front-or-rest : (y : A) (xs : List A) (x : A) → Contains (y ∷ xs) x → (y ≡ x) ⊎ Contains xs x
  front-or-rest y xs x (zero, l, e) = inl e
  front-or-rest y xs x (suc k, l, e) = inr (k, omega (arith, l), e)

module _ {A B : Type 0} (f : A → B) where
  map-in : (xs : List A) (x : A) → Contains xs x → Contains (map f xs) (f x)
  map-in xs x m = (m.0, omega (arith, m.1, length-map xs f), get_or-map f xs m.0 x (f x) m.1 ∙ ap f m.2)

  pub map-out : (xs : List A) (y : B) → Contains (map f xs) y → (x : A) × Contains xs x × (y ≡ f x)
  map-out [] y m = absurd (nothing-in y m)
  map-out (x ∷ xs) y m =
      let l : m.0 < length (x ∷ xs) = omega (arith, m.1, length-map (x ∷ xs) f) in
      (get_or (x ∷ xs) m.0 x, Contains-get_or (x ∷ xs) m.0 x l, sym m.2 ∙ get_or-map f (x ∷ xs) m.0 x y l)

module _ {A B : Type 0} (f : A → List B) where
  flat_map-in : (xs : List A) (x : A) (y : B) → Contains xs x → Contains (f x) y → Contains (flat_map f xs) y
  flat_map-in [] x y m n = absurd (nothing-in x m)
  flat_map-in (a ∷ xs) x y m n =
      ⊎_elim (λ (e : a ≡ x). Contains-append_left (f a) (flat_map f xs) y (rw e n))
      (λ (r : Contains xs x). Contains-append_right (f a) (flat_map f xs) y (flat_map-in xs x y r n)) (front-or-rest a xs x m)

  pub flat_map-out : (xs : List A) (y : B) → Contains (flat_map f xs) y → (x : A) × Contains xs x × Contains (f x) y
  flat_map-out [] y m = absurd (nothing-in y m)
  flat_map-out (a ∷ xs) y m =
      ⊎_elim (λ (n : Contains (f a) y). (a, in-front a xs, n))
      (λ (r : Contains (flat_map f xs) y). let s = flat_map-out xs y r in (s.0, in-rest a xs s.0 s.1, s.2)) (Contains-append_cases (f a) (flat_map f xs) y m)

-- ---- combinations of any lists

-- every one is in the list
every : (vss : List (List ℤ)) (c : List ℤ) → AllZip Contains vss c → Contains (combinations vss) c
unfolding combinations
every [] [] o = in-front [] []
every [] (v ∷ c) o = absurd o
every (vs ∷ vss) [] o = absurd o
every (vs ∷ vss) (v ∷ c) o = flat_map-in _ vs v (v ∷ c) o.0 (map-in _ (combinations vss) c (every vss c o.1))

-- and no other
no-other : (vss : List (List ℤ)) (c : List ℤ) → Contains (combinations vss) c → AllZip Contains vss c
unfolding combinations
no-other [] c m = go (front-or-rest [] [] c m)
  where
    go : ([] ≡ c) ⊎ Contains [] c → AllZip Contains [] c
    go (inl e) = subst (λ (x : List ℤ). AllZip Contains [] x) e tt
    go (inr n) = absurd (nothing-in c n)
no-other (vs ∷ vss) c m =
    let p = flat_map-out _ vs c m in
    let q = map-out _ (combinations vss) c p.2 in
    subst (λ (x : List ℤ). AllZip Contains (vs ∷ vss) x) (sym q.2) (p.1, no-other vss q.0 q.1)

-- a combination is in the list exactly if it has one value of each list, in their order
combined-exactly : (vss : List (List ℤ)) (c : List ℤ) → Contains (combinations vss) c ↔ AllZip Contains vss c
combined-exactly vss c = (no-other vss c, every vss c)

-- ---- the combinations of dimensions that 4 to 7 pass

pub first-valid : (d : Distribution) (ds : List Distribution) → first_verdict (d ∷ ds) ≡ Ok tt → (verdict_of d ≡ Ok tt) × (first_verdict ds ≡ Ok tt)
unfolding first_verdict
first-valid d ds e = go (verdict_of d) e
  where
    go : (v : Result ⊤ Refusal) → result_and v (first_verdict ds) ≡ Ok tt → (v ≡ Ok tt) × (first_verdict ds ≡ Ok tt)
    go (Ok u) e = (refl, e)
    go (Err r) e = cc

abbrev pub Valid : Distribution → Type 0
Valid d = verdict_of d ≡ Ok tt

pub all-valid : (ds : List Distribution) → (first_verdict ds ≡ Ok tt) ↔ AllValid ds
unfolding first_verdict
all-valid [] = (λ e. All-nil Valid, λ a. refl)
all-valid (d ∷ ds) =
    let rest = all-valid ds in (
      λ e. let q = first-valid d ds e in All-cons Valid d ds q.0 (rest.0 q.1),
      λ a. rw (All-head Valid d ds a) (rest.1 (All-tail Valid d ds a)),
    )

each-exactly : (ds : List Distribution) → first_verdict ds ≡ Ok tt → (c : List ℤ) → AllZip Contains (map values_of ds) c ↔ IsCombination ds c
unfolding IsCombination
each-exactly [] e [] = (λ z. z, λ z. z)
each-exactly [] e (v ∷ c) = (λ z. z, λ z. z)
each-exactly (d ∷ ds) e [] = (λ z. z, λ z. z)
each-exactly (d ∷ ds) e (v ∷ c) =
    let q = first-valid d ds e in
    let one = values-exactly d q.0 v in
    let rest = each-exactly ds q.1 c in
    (λ z. (one.0 z.0, rest.0 z.1), λ z. (one.1 z.0, rest.1 z.1))

-- "every combination of these values and choices and no other"
pub listed-exactly : (ds : List Distribution) → first_verdict ds ≡ Ok tt → (c : List ℤ) → Contains (combinations_of ds) c ↔ IsCombination ds c
listed-exactly ds e c =
    let one = combined-exactly (map values_of ds) c in
    let each = each-exactly ds e c in
    (λ m. each.0 (one.0 m), λ i. one.1 (each.1 i))

-- a combination's number for a dimension is a value of that dimension
pub value-at : (ds : List Distribution) (c : List ℤ) → IsCombination ds c → (k : ℕ) (d : Distribution) (v : ℤ) → k < length ds → IsValue (get_or ds k d) (get_or c k v)
unfolding IsCombination
value-at [] c o k d v l = absurd (omega (arith, l))
value-at (x ∷ ds) [] o k d v l = absurd o
value-at (x ∷ ds) (w ∷ c) o zero d v l = o.0
value-at (x ∷ ds) (w ∷ c) o (suc k) d v l = value-at ds c o.1 k d v (omega arith)

-- "one signed 64-bit number a dimension"
zip-long : (vss : List (List ℤ)) (c : List ℤ) → AllZip Contains vss c → length c ≡ length vss
zip-long [] [] o = refl
zip-long [] (v ∷ c) o = absurd o
zip-long (vs ∷ vss) [] o = absurd o
zip-long (vs ∷ vss) (v ∷ c) o = ap suc (zip-long vss c o.1)

pub as-long : (ds : List Distribution) (c : List ℤ) → Contains (combinations_of ds) c → length c ≡ length ds
as-long ds c m = zip-long (map values_of ds) c ((combined-exactly (map values_of ds) c).0 m) ∙ length-map ds values_of
