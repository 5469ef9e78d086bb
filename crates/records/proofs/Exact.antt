-- "a record met twice": a chain that ends meets none twice, so it ends within as many records as the file has; and one that meets a record twice never ends.
use Rattle.std.specs.Prelude.{Option, Some, None, slice_get}
use Prim.Native.Nat.{ℕ, zero, suc, ◌≤◌, ◌<◌}
use native.Mathlib.Nat.{not-suc-le-zero, le_of_suc-le-suc}
use native.Mathlib.Omega.{arith}
use mathlib.Core.Bool.{Bool, true, false, cond}
use mathlib.Core.List.{List, [], ◌∷◌}
use mathlib.Core.Logic.{◌↔◌, ◌⊎◌, inl, inr}
use mathlib.Core.Path.{◌≡◌, refl, sym, ap, ◌∙◌, subst}
use borrow.Author.Tests.{lt-leb, leb-false, ne_eqb, eqb-true, eqb-false}
use lib.Dec.{leb, eqb}
use lib.ListN.{length, length-map}
use Rattle.records.specs.declared.Piece.{Piece}
use Rattle.records.specs.Chain.{next_at, piece_at, record_count, linked, chain_from, chain_of, walk, Walks, Follows, last, then, NoneTwice, records_at}

-- ---- different numbers below n are n at most

abbrev pub Below : ℕ → List ℕ → Type 0
Below n [] = Unit {0}
Below n (k ∷ ks) = (k < n) × Below n ks

abbrev pub Absent : ℕ → List ℕ → Type 0
Absent k [] = Unit {0}
Absent k (j ∷ ks) = (j ≡ k → ⊥) × Absent k ks

abbrev pub Distinct : List ℕ → Type 0
Distinct [] = Unit {0}
Distinct (k ∷ ks) = Absent k ks × Distinct ks

abbrev without : ℕ → List ℕ → List ℕ
without m [] = []
without m (k ∷ ks) = cond (eqb k m) ks (k ∷ without m ks)

without-length : (m : ℕ) (ks : List ℕ) → length ks ≤ suc (length (without m ks))
without-length m [] = omega arith
without-length m (k ∷ ks) = go (eqb k m) (without-length m ks)
  where
    go : (b : Bool) → length ks ≤ suc (length (without m ks)) → suc (length ks) ≤ suc (length (cond b ks (k ∷ without m ks)))
    go true h = omega arith
    go false h = omega arith

below-absent : (m : ℕ) (ks : List ℕ) → Absent m ks → Below (suc m) ks → Below m ks
below-absent m [] a b = tt
below-absent m (k ∷ ks) a b = let d = a.0 in let l = b.0 in (lower k d l, below-absent m ks a.1 b.1)
  where
    lower : (k : ℕ) → (k ≡ m → ⊥) → k < suc m → k < m
    lower k d l = omega arith

absent-without : (m k : ℕ) (ks : List ℕ) → Absent k ks → Absent k (without m ks)
absent-without m k [] a = tt
absent-without m k (j ∷ ks) a = go (eqb j m) (absent-without m k ks a.1)
  where
    go : (b : Bool) → Absent k (without m ks) → Absent k (cond b ks (j ∷ without m ks))
    go true h = a.1
    go false h = (a.0, h)

distinct_without : (m : ℕ) (ks : List ℕ) → Distinct ks → Distinct (without m ks)
distinct_without m [] d = tt
distinct_without m (k ∷ ks) d = go (eqb k m) (distinct_without m ks d.1)
  where
    go : (b : Bool) → Distinct (without m ks) → Distinct (cond b ks (k ∷ without m ks))
    go true h = d.1
    go false h = (absent-without m k ks d.0, h)

below-without : (m : ℕ) (ks : List ℕ) → Distinct ks → Below (suc m) ks → Below m (without m ks)
below-without m [] d b = tt
below-without m (k ∷ ks) d b = go (eqb k m) refl (below-without m ks d.1 b.1)
  where
    lower : (k ≡ m → ⊥) → k < suc m → k < m
    lower e l = omega arith

    go : (t : Bool) → eqb k m ≡ t → Below m (without m ks) → Below m (cond t ks (k ∷ without m ks))
    go true q h = below-absent m ks (subst (λ (j : ℕ). Absent j ks) (eqb-true k m q) d.0) b.1
    go false q h = (lower (eqb-false k m q) b.0, h)

pub few : (n : ℕ) (ks : List ℕ) → Distinct ks → Below n ks → length ks ≤ n
few zero [] d b = omega arith
few zero (k ∷ ks) d b = absurd (not-suc-le-zero b.0)
few (suc n) ks d b = let r = few n (without n ks) (distinct_without n ks d) (below-without n ks d b) in omega (arith, without-length n ks)

-- ---- a chain that ends

module _ (f : List ℕ) where
  -- the records at a list of indices
  -- there is one only
  same : (k : ℕ) (ks js : List ℕ) → Follows f k ks → Follows f k js → ks ≡ js
  same k _ _ (last h e) (last g d) = refl
  same k _ _ (last h e) (then g d r) = absurd (d e)
  same k _ _ (then h e r) (last g d) = absurd (e d)
  same k _ _ (then {ks = ks} h e r) (then {ks = js} g d s) = ap (λ (l : List ℕ). k ∷ l) (same (next_at f k) ks js r s)

  all-below : (k : ℕ) (ks : List ℕ) → Follows f k ks → Below (record_count f) ks
  all-below k _ (last h e) = (h, tt)
  all-below k _ (then {ks = ks} h e r) = (h, all-below (next_at f k) ks r)

  -- an index of it follows a chain of its own, which is no longer
  later : (k j : ℕ) (ks : List ℕ) → Follows f k ks → (Absent j ks → ⊥) → (js : List ℕ) × Follows f j js × (length js ≤ length ks)
  later k j _ (last h e) a = go (eqb k j) refl
    where
      go : (t : Bool) → eqb k j ≡ t → (js : List ℕ) × Follows f j js × (length js ≤ 1)
      go true q = (k ∷ [], subst (λ (i : ℕ). Follows f i (k ∷ [])) (eqb-true k j q) (last h e), omega arith)
      go false q = absurd (a (eqb-false k j q, tt))
  later k j _ (then {ks = ks} h e r) a = go (eqb k j) refl (λ b. later (next_at f k) j ks r b)
    where
      wider : (a b : ℕ) → a ≤ b → a ≤ suc b
      wider a b l = omega arith

      go : (t : Bool) → eqb k j ≡ t → ((Absent j ks → ⊥) → (js : List ℕ) × Follows f j js × (length js ≤ length ks)) → (js : List ℕ) × Follows f j js × (length js ≤ suc (length ks))
      go true q m = (k ∷ ks, subst (λ (i : ℕ). Follows f i (k ∷ ks)) (eqb-true k j q) (then h e r), omega arith)
      go false q m = let p = m (λ b. a (eqb-false k j q, b)) in (p.0, p.1, wider (length p.0) (length ks) p.2)

  absent? : (j : ℕ) (ks : List ℕ) → Absent j ks ⊎ (Absent j ks → ⊥)
  absent? j [] = inl tt
  absent? j (k ∷ ks) = go (eqb k j) refl (absent? j ks)
    where
      go : (t : Bool) → eqb k j ≡ t → Absent j ks ⊎ (Absent j ks → ⊥) → Absent j (k ∷ ks) ⊎ (Absent j (k ∷ ks) → ⊥)
      go true q o = inr (λ a. a.0 (eqb-true k j q))
      go false q (inl a) = inl (eqb-false k j q, a)
      go false q (inr a) = inr (λ b. a b.1)

  distinct : (k : ℕ) (ks : List ℕ) → Follows f k ks → Distinct ks
  distinct k _ (last h e) = (tt, tt)
  distinct k _ (then {ks = ks} h e r) = (go (absent? k ks), distinct (next_at f k) ks r)
    where
      go : Absent k ks ⊎ (Absent k ks → ⊥) → Absent k ks
      go (inl a) = a
      go (inr a) =
          let p = later (next_at f k) k ks r a in
          let q : length p.0 ≡ suc (length ks) = ap length (same k p.0 (k ∷ ks) p.1 (then h e r)) in
          absurd (omega (arith, p.2))

  -- a chain that ends has no more records than the file
  pub short : (k : ℕ) (ks : List ℕ) → Follows f k ks → length ks ≤ record_count f
  short k ks r = few (record_count f) ks (distinct k ks r) (all-below k ks r)

  -- ---- and is what the reader follows

  follow-chain : (fuel k : ℕ) (ks : List ℕ) → Follows f k ks → length ks ≤ fuel → chain_from f fuel k ≡ Some (records_at f ks)
  unfolding chain_from
  follow-chain zero k _ (last h e) l = absurd (not-suc-le-zero l)
  follow-chain (suc fuel) k _ (last h e) l = rw (lt-leb (record_count f) k h, e)
  follow-chain zero k _ (then h d g) l = absurd (not-suc-le-zero l)
  follow-chain (suc fuel) k _ (then {ks = ks} h d g) l =
      rw (lt-leb (record_count f) k h, ne_eqb (next_at f k) 0 d) (ap (linked (piece_at f k)) (follow-chain fuel (next_at f k) ks g (le_of_suc-le-suc l)))

  abbrev Chain : ℕ → List Piece → Type 0
  Chain k ps = (ks : List ℕ) × Follows f k ks × (ps ≡ records_at f ks)

  module _ (fuel k : ℕ) (ps : List Piece) (again : (qs : List Piece) → chain_from f fuel (next_at f k) ≡ Some qs → Chain (next_at f k) qs) where
    rest : (o : Option (List Piece)) → chain_from f fuel (next_at f k) ≡ o → k < record_count f → (next_at f k ≡ 0 → ⊥) → linked (piece_at f k) o ≡ Some ps → Chain k ps
    rest None q l d r = let z : ◌≡◌ {A = ℕ} 0 1 = cc in absurd (omega arith)
    rest (Some qs) q l d r =
        let c = again qs q in
        let s : ps ≡ piece_at f k ∷ qs = cc in
        (k ∷ c.0, then l d c.1, s ∙ ap (λ (t : List Piece). piece_at f k ∷ t) c.2)

    inner : (b : Bool) → eqb (next_at f k) 0 ≡ b → k < record_count f
        → cond b (Some (piece_at f k ∷ [])) (linked (piece_at f k) (chain_from f fuel (next_at f k))) ≡ Some ps → Chain k ps
    inner true q l r = let s : ps ≡ piece_at f k ∷ [] = cc in (k ∷ [], last l (eqb-true (next_at f k) 0 q), s)
    inner false q l r = rest (chain_from f fuel (next_at f k)) refl l (eqb-false (next_at f k) 0 q) r

    outer : (b : Bool) → leb (record_count f) k ≡ b
        → cond b None (cond (eqb (next_at f k) 0) (Some (piece_at f k ∷ [])) (linked (piece_at f k) (chain_from f fuel (next_at f k)))) ≡ Some ps → Chain k ps
    outer true q r = let z : ◌≡◌ {A = ℕ} 0 1 = cc in absurd (omega arith)
    outer false q r = inner (eqb (next_at f k) 0) refl (leb-false (record_count f) k q) r

  chain-follow : (fuel k : ℕ) (ps : List Piece) → chain_from f fuel k ≡ Some ps → Chain k ps
  unfolding chain_from
  chain-follow zero k ps e = let z : ◌≡◌ {A = ℕ} 0 1 = cc in absurd (omega arith)
  chain-follow (suc fuel) k ps e = outer fuel k ps (λ qs. chain-follow fuel (next_at f k) qs) (leb (record_count f) k) refl e

  -- THE CHAIN, in document 02's words: the reader has one exactly where the next indices from record 0 on stay in the file and come to a 0
  pub chain-exactly : (ps : List Piece) → (chain_of f ≡ Some ps) ↔ Chain 0 ps
  chain-exactly ps = (
    λ e. chain-follow (record_count f) 0 ps e,
    λ c. follow-chain (record_count f) 0 c.0 c.1 (short 0 c.0 c.1) ∙ ap Some (sym c.2),
  )

  -- and then no record is met twice
  missing : (ks : List ℕ) (j k : ℕ) → Absent k ks → slice_get ks j ≡ Some k → ⊥
  missing [] j k a q = let z : ◌≡◌ {A = ℕ} 0 1 = cc in omega arith
  missing (y ∷ ks) zero k a q = a.0 (let s : y ≡ k = cc in s)
  missing (y ∷ ks) (suc j) k a q = missing ks j k a.1 q

  differ : (ks : List ℕ) → Distinct ks → NoneTwice ks
  differ [] d i j k p q = let z : ◌≡◌ {A = ℕ} 0 1 = cc in absurd (omega arith)
  differ (x ∷ ks) d zero zero k p q = refl
  differ (x ∷ ks) d zero (suc j) k p q = absurd (missing ks j k (subst (λ (y : ℕ). Absent y ks) (let s : x ≡ k = cc in s) d.0) q)
  differ (x ∷ ks) d (suc i) zero k p q = absurd (missing ks i k (subst (λ (y : ℕ). Absent y ks) (let s : x ≡ k = cc in s) d.0) p)
  differ (x ∷ ks) d (suc i) (suc j) k p q = ap suc (differ ks d.1 i j k p q)

  pub none-twice : (k : ℕ) (ks : List ℕ) → Follows f k ks → NoneTwice ks
  none-twice k ks r = differ ks (distinct k ks r)

  -- a chain is a walk: what a second pass along it meets
  follows-walk : (k : ℕ) (ks : List ℕ) → Follows f k ks → Walks f (length ks) k × (records_at f ks ≡ walk f (length ks) k)
  unfolding Walks walk
  follows-walk k _ (last h e) = ((h, tt), refl)
  follows-walk k _ (then {ks = ks} h d r) = let w = follows-walk (next_at f k) ks r in ((h, w.0), ap (λ (t : List Piece). piece_at f k ∷ t) w.1)

  records-length : (ks : List ℕ) → length (records_at f ks) ≡ length ks
  records-length ks = length-map ks (piece_at f)

  pub chain-walk : (ps : List Piece) → chain_of f ≡ Some ps → Walks f (length ps) 0 × (ps ≡ walk f (length ps) 0)
  chain-walk ps e =
      let c = (chain-exactly ps).0 e in
      let w = follows-walk 0 c.0 c.1 in
      let l : length ps ≡ length c.0 = ap length c.2 ∙ records-length c.0 in
      (subst (λ (n : ℕ). Walks f n 0) (sym l) w.0, c.2 ∙ w.1 ∙ ap (λ (n : ℕ). walk f n 0) (sym l))
