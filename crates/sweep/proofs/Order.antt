-- The order of a list of combinations. Where each of some lists rises, so does the list of their combinations: within a block the first number is one and
-- the rest rises, and from block to block the first number rises. Nothing comes before itself, so what rises holds nothing twice.
use Rattle.std.proofs.Common.{◌≡◌, ℕ, zero, suc, ◌<◌, Bool, true, false, List, [], ◌∷◌, ◌++◌, map, flat_map, length, get_or, All, AllPairs, Contains, ℤ, ◌<ℤ◌, Ok, refl, sym, subst, inl, inr, ⊎_elim, arith, ltb, ltb-true, ltb-false}
use Rattle.std.proofs.lemmas.Int.{ints}
use Rattle.std.proofs.lemmas.List.Elements.{Contains-get_or, Contains-append_cases, All-nil, All-cons}
use Rattle.sweep.specs.Meaning.{Before}
use Rattle.distribution.specs.declared.Distribution.{Distribution}
use Rattle.sweep.specs.Sweep.{values_of, combinations, combinations_of, first_verdict}
use Rattle.sweep.proofs.Members.{nothing-in, in-front, in-rest, map-out, flat_map-out, first-valid}
use Rattle.sweep.proofs.Values.{values-rise}

-- ---- each element and each later one

module _ {A : Type 0} (R : A → A → Type 0) where
  pairs-nil : AllPairs R []
  pairs-nil i j d h l = absurd (omega arith)

  pairs-cons : (x : A) (xs : List A) → ((y : A) → Contains xs y → R x y) → AllPairs R xs → AllPairs R (x ∷ xs)
  pairs-cons x xs p q i zero d h l = absurd (omega arith)
  pairs-cons x xs p q zero (suc j) d h l = p (get_or xs j d) (Contains-get_or xs j d (omega arith))
  pairs-cons x xs p q (suc i) (suc j) d h l = q i j d (omega arith) (omega arith)

  pairs-front : (x : A) (xs : List A) → AllPairs R (x ∷ xs) → (y : A) → Contains xs y → R x y
  pairs-front x xs p y m = subst (R x) m.2 (p 0 (suc m.0) y (omega arith) (omega (arith, m.1)))

  pairs-rest : (x : A) (xs : List A) → AllPairs R (x ∷ xs) → AllPairs R xs
  pairs-rest x xs p i j d h l = p (suc i) (suc j) d (omega arith) (omega arith)

  pairs-append : (xs ys : List A) → AllPairs R xs → AllPairs R ys → ((x y : A) → Contains xs x → Contains ys y → R x y) → AllPairs R (xs ++ ys)
  pairs-append [] ys p q h = q
  pairs-append (x ∷ xs) ys p q h =
      pairs-cons x (xs ++ ys) (λ y m. ⊎_elim (pairs-front x xs p y) (h x y (in-front x xs)) (Contains-append_cases xs ys y m))
      (pairs-append xs ys (pairs-rest x xs p) q (λ a b m n. h a b (in-rest x xs a m) n))

-- ---- combinations of any lists

block-rises : (v : ℤ) (cs : List (List ℤ)) → AllPairs Before cs → AllPairs Before (map (λ c. v ∷ c) cs)
unfolding Before
block-rises v [] p = pairs-nil Before
block-rises v (c ∷ cs) p =
    pairs-cons Before (v ∷ c) (map (λ c. v ∷ c) cs)
    (λ y m. let q = map-out (λ c. v ∷ c) cs y m in subst (Before (v ∷ c)) (sym q.2) (inr (refl, pairs-front Before c cs p q.0 q.1)))
    (block-rises v cs (pairs-rest Before c cs p))

blocks-rise : (cs : List (List ℤ)) (vs : List ℤ) → AllPairs Before cs → AllPairs ◌<ℤ◌ vs → AllPairs Before (flat_map (λ v. map (λ c. v ∷ c) cs) vs)
unfolding Before
blocks-rise cs [] p q = pairs-nil Before
blocks-rise cs (v ∷ vs) p q =
    pairs-append Before (map (λ c. v ∷ c) cs) (flat_map (λ v. map (λ c. v ∷ c) cs) vs) (block-rises v cs p) (blocks-rise cs vs p (pairs-rest ◌<ℤ◌ v vs q))
    (λ x y m n.
    let a = map-out (λ c. v ∷ c) cs x m in
    let b = flat_map-out (λ v. map (λ c. v ∷ c) cs) vs y n in
    let e = map-out (λ c. b.0 ∷ c) cs y b.2 in
    rw (a.2, e.2) (inl (pairs-front ◌<ℤ◌ v vs q b.0 b.1)))

combinations-rise : (vss : List (List ℤ)) → All (AllPairs ◌<ℤ◌) vss → AllPairs Before (combinations vss)
unfolding combinations
combinations-rise [] p = pairs-cons Before [] [] (λ y m. absurd (nothing-in y m)) (pairs-nil Before)
combinations-rise (vs ∷ vss) p = blocks-rise (combinations vss) vs (combinations-rise vss (λ k d l. p (suc k) d (omega arith))) (p 0 vs (omega arith))

-- ---- each once

pub before-irreflexive : (c : List ℤ) → Before c c → ⊥
unfolding Before
before-irreflexive [] b = b
before-irreflexive (v ∷ c) (inl l) = absurd (omega (arith, ints))
before-irreflexive (v ∷ c) (inr p) = before-irreflexive c p.1

-- two places of a list that rises and that hold the same combination are the same place
place-once : (cs : List (List ℤ)) → AllPairs Before cs → (i j : ℕ) → i < length cs → j < length cs → get_or cs i [] ≡ get_or cs j [] → i ≡ j
place-once cs p i j k l e = go (ltb i j) refl (ltb j i) refl
  where
    go : (a : Bool) → ltb i j ≡ a → (b : Bool) → ltb j i ≡ b → i ≡ j
    go true f b g = absurd (before-irreflexive (get_or cs j []) (subst (λ (c : List ℤ). Before c (get_or cs j [])) e (p i j [] (ltb-true i j f) l)))
    go false f true g = absurd (before-irreflexive (get_or cs i []) (subst (λ (c : List ℤ). Before c (get_or cs i [])) (sym e) (p j i [] (ltb-true j i g) k)))
    go false f false g = omega (arith, ltb-false i j f, ltb-false j i g)

-- ---- the combinations of dimensions that 4 to 7 pass

all-rise : (ds : List Distribution) → first_verdict ds ≡ Ok tt → All (AllPairs ◌<ℤ◌) (map values_of ds)
all-rise [] e = All-nil (AllPairs ◌<ℤ◌)
all-rise (d ∷ ds) e = let q = first-valid d ds e in All-cons (AllPairs ◌<ℤ◌) (values_of d) (map values_of ds) (values-rise d q.0) (all-rise ds q.1)

-- "the last dimension changing fastest"
pub rises : (ds : List Distribution) → first_verdict ds ≡ Ok tt → AllPairs Before (combinations_of ds)
rises ds e = combinations-rise (map values_of ds) (all-rise ds e)

-- "each combination once"
pub once : (ds : List Distribution) → first_verdict ds ≡ Ok tt → (i j : ℕ) → i < length (combinations_of ds) → j < length (combinations_of ds)
    → get_or (combinations_of ds) i [] ≡ get_or (combinations_of ds) j [] → i ≡ j
once ds e = place-once (combinations_of ds) (rises ds e)
