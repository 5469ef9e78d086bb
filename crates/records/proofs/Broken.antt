-- THE CHAIN'S RULE: it is kept exactly where the file has the right length and its chain ends. A chain of as many steps as there are records meets one twice,
-- and which two is found (`two?`).
use Rattle.std.specs.Prelude.{Option, Some, None, slice_get}
use Prim.Native.Nat.{ℕ, zero, suc, ◌+◌, ◌/◌, ◌%◌, ◌≤◌, ◌<◌}
use native.Mathlib.Omega.{arith}
use native.Mathlib.Nat.{not-suc-le-zero}
use mathlib.Core.Path.{◌≡◌, refl, sym, ap, ◌∙◌, subst}
use mathlib.Core.Bool.{Bool, true, false, ◌||◌, cond, true≢false}
use mathlib.Core.List.{List, [], ◌∷◌}
use mathlib.Core.Logic.{◌↔◌, ◌⊎◌, inl, inr, ⊎_elim}
use borrow.Author.Tests.{eqb-true, eqb-false, leb-true, leb-false}
use lib.Dec.{eqb, leb}
use lib.ListN.{length}
use Rattle.rng_util.specs.Many.{listed}
use Rattle.records.specs.declared.Piece.{Piece}
use Rattle.records.specs.Chain.{next_at, piece_at, record_count, misfits, linked, chain_from, chain_of, Follows, last, then, Broken, Leads, empty, met, met-twice, past_end, uneven}
use Rattle.records.proofs.Exact.{Below, Absent, Distinct, few, chain-exactly, none-twice}
use Rattle.records.proofs.Lists.{listed-length}

-- ---- different numbers below c are c at most, and two equal ones are found

module _ (g : ℕ → ℕ) where
  seen : (v j : ℕ) → ((i : ℕ) × (i < j) × (g i ≡ v)) ⊎ ((i : ℕ) → i < j → g i ≡ v → ⊥)
  seen v zero = inr (λ i h e. not-suc-le-zero h)
  seen v (suc j) = go (eqb (g j) v) refl (seen v j)
    where
      last_one : (i : ℕ) → i < suc j → (i < j → ⊥) → i ≡ j
      last_one i h n = omega arith

      go : (b : Bool) → eqb (g j) v ≡ b → ((i : ℕ) × (i < j) × (g i ≡ v)) ⊎ ((i : ℕ) → i < j → g i ≡ v → ⊥) → ((i : ℕ) × (i < suc j) × (g i ≡ v)) ⊎ ((i : ℕ) → i < suc j → g i ≡ v → ⊥)
      go true q o = inl (j, omega arith, eqb-true (g j) v q)
      go false q (inl s) = inl (s.0, (let h = s.1 in omega arith), s.2)
      go false q (inr n) = inr (λ i h e. eqb-false (g j) v q (subst (λ (k : ℕ). g k ≡ v) (last_one i h (λ l. n i l e)) e))

  abbrev Two : ℕ → Type 0
  Two n = (i : ℕ) × (j : ℕ) × (i < j) × (j < n) × (g i ≡ g j)

  abbrev Differing : ℕ → Type 0
  Differing n = (i j : ℕ) → i < j → j < n → g i ≡ g j → ⊥

  two? : (n : ℕ) → Two n ⊎ Differing n
  two? zero = inr (λ i j h k e. not-suc-le-zero k)
  two? (suc n) = go (two? n) (seen (g n) n)
    where
      last_one : (j : ℕ) → j < suc n → (j < n → ⊥) → j ≡ n
      last_one j h n = omega arith

      go : Two n ⊎ Differing n → ((i : ℕ) × (i < n) × (g i ≡ g n)) ⊎ ((i : ℕ) → i < n → g i ≡ g n → ⊥) → Two (suc n) ⊎ Differing (suc n)
      go (inl t) o = inl (t.0, t.1, t.2, (let h = t.3 in omega arith), t.4)
      go (inr d) (inl s) = inl (s.0, n, s.1, omega arith, s.2)
      go (inr d) (inr m) = inr (λ i j h k e. let q = last_one j k (λ l. d i j h l e) in m i (subst (λ (x : ℕ). i < x) q h) (e ∙ ap g q))

  module _ (c : ℕ) where
    below-listed : (m a : ℕ) → ((i : ℕ) → i < a + m → g i < c) → Below c (listed g m a)
    unfolding listed
    below-listed zero a h = tt
    below-listed (suc m) a h = (h a (omega arith), below-listed m (a + 1) (λ i l. h i (omega arith)))

  absent-listed : (v m a : ℕ) → ((i : ℕ) → a ≤ i → i < a + m → g i ≡ v → ⊥) → Absent v (listed g m a)
  unfolding listed
  absent-listed v zero a h = tt
  absent-listed v (suc m) a h = (h a (omega arith) (omega arith), absent-listed v m (a + 1) (λ i k l. h i (omega arith) (omega arith)))

  distinct-listed : (m a : ℕ) → ((i j : ℕ) → i < j → j < a + m → g i ≡ g j → ⊥) → Distinct (listed g m a)
  unfolding listed
  distinct-listed zero a h = tt
  distinct-listed (suc m) a h =
      (absent-listed (g a) m (a + 1) (λ i k l e. h a i (omega arith) (omega arith) (sym e)), distinct-listed m (a + 1) (λ i j k l e. h i j k (omega arith) e))

  pigeon : (n c : ℕ) → Differing n → ((i : ℕ) → i < n → g i < c) → n ≤ c
  pigeon n c d h =
      let f = few c (listed g n 0) (distinct-listed n 0 (λ i j k l e. d i j k (omega arith) e)) (below-listed c n 0 (λ i l. h i (omega arith))) in
      omega (arith, f, listed-length g n 0)

-- ---- a chain that ends does not break the rule

module _ (f : List ℕ) where
  on_chain : (n a m : ℕ) (ks : List ℕ) → m ≡ a + n → Follows f (met f a) ks → Leads f m → (met f m < record_count f) × (slice_get ks n ≡ Some (met f m))
  unfolding met
  on_chain zero a m _ e (last h d) l = let q : a ≡ m = omega arith in (subst (λ (i : ℕ). met f i < record_count f) q h, ap (λ (i : ℕ). Some (met f i)) q)
  on_chain zero a m _ e (then h d r) l = let q : a ≡ m = omega arith in (subst (λ (i : ℕ). met f i < record_count f) q h, ap (λ (i : ℕ). Some (met f i)) q)
  on_chain (suc n) a m _ e (last h d) l = absurd ((l a (omega arith)).1 d)
  on_chain (suc n) a m _ e (then {ks = ks} h d r) l = on_chain n (suc a) m ks (omega arith) r l

  module _ (ks : List ℕ) (c : Follows f 0 ks) where
    stays : (n : ℕ) → Leads f n → (met f n < record_count f) × (slice_get ks n ≡ Some (met f n))
    unfolding met
    stays n l = on_chain n 0 n ks (omega arith) c l

    not-past : (n : ℕ) → Leads f n → record_count f ≤ met f n → ⊥
    not-past n l h = let k = (stays n l).0 in omega arith

    not-twice : (i j : ℕ) → i < j → Leads f j → met f i ≡ met f j → ⊥
    not-twice i j h l e =
        let a = (stays i (λ m k. l m (omega arith))).1 in
        let b = (stays j l).1 in
        let q : i ≡ j = none-twice f 0 ks c i j (met f i) a (b ∙ ap Some (sym e)) in
        omega arith

  -- ---- and one that does not end breaks it

  none-some : {A : Type 0} {a : A} → Some a ≡ None → ⊥
  none-some e = let z : ◌≡◌ {A = ℕ} 0 1 = cc in omega arith

  unlinked : (p : Piece) (o : Option (List Piece)) → linked p o ≡ None → o ≡ None
  unlinked p None e = refl
  unlinked p (Some ps) e = absurd (none-some e)

  module _ (first : 1 ≤ record_count f) where
    past : (n : ℕ) → Leads f n → record_count f ≤ met f n → Broken f
    unfolding met
    past zero l h = absurd (omega arith)
    past (suc n) l h = past_end n l h

    one_more : (n : ℕ) → Leads f n → met f n < record_count f → (next_at f (met f n) ≡ 0 → ⊥) → Leads f (suc n)
    one_more n l h d m k = go (eqb m n) refl
      where
        before : (m ≡ n → ⊥) → m < n
        before e = omega arith

        go : (b : Bool) → eqb m n ≡ b → (met f m < record_count f) × (next_at f (met f m) ≡ 0 → ⊥)
        go true q = let e : n ≡ m = sym (eqb-true m n q) in subst (λ (i : ℕ). (met f i < record_count f) × (next_at f (met f i) ≡ 0 → ⊥)) e (h, d)
        go false q = l m (before (eqb-false m n q))

    -- as many steps as there are records
    full : (n : ℕ) → n ≡ record_count f → Leads f n → met f n < record_count f → Broken f
    full n e l h = ⊎_elim
        (λ t. met-twice t.0 t.1 t.2 (λ m k. l m (let a = t.3 in omega arith)) t.4)
        (λ d. absurd (let b = pigeon (met f) (suc n) (record_count f) d (λ i k. inside i k (eqb i n) refl) in omega arith))
        (two? (met f) (suc n))
      where
        before : (i : ℕ) → i < suc n → (i ≡ n → ⊥) → i < n
        before i k d = omega arith

        inside : (i : ℕ) → i < suc n → (b : Bool) → eqb i n ≡ b → met f i < record_count f
        inside i k true q = subst (λ (j : ℕ). met f j < record_count f) (sym (eqb-true i n q)) h
        inside i k false q = (l i (before i k (eqb-false i n q))).0

    -- what is known of the rest of the chain
    abbrev Next : ℕ → ℕ → Type 0
    Next fuel n = met f n < record_count f → (next_at f (met f n) ≡ 0 → ⊥) → chain_from f fuel (next_at f (met f n)) ≡ None → Broken f

    unended : (fuel n : ℕ) → n + fuel ≡ record_count f → Leads f n → chain_from f fuel (met f n) ≡ None → Broken f
    unfolding chain_from met
    unended zero n e l c = go (leb (record_count f) (met f n)) refl
      where
        go : (b : Bool) → leb (record_count f) (met f n) ≡ b → Broken f
        go true q = past n l (leb-true (record_count f) (met f n) q)
        go false q = full n (omega arith) l (leb-false (record_count f) (met f n) q)
    unended (suc fuel) n e l c = outer (leb (record_count f) (met f n)) refl c (λ h d k. unended fuel (suc n) (omega arith) (one_more n l h d) k)
      where
        inner : (b : Bool) → eqb (next_at f (met f n)) 0 ≡ b → met f n < record_count f
            → cond b (Some (piece_at f (met f n) ∷ [])) (linked (piece_at f (met f n)) (chain_from f fuel (next_at f (met f n)))) ≡ None → Next fuel n → Broken f
        inner true q h c next = absurd (none-some c)
        inner false q h c next = next h (eqb-false (next_at f (met f n)) 0 q) (unlinked (piece_at f (met f n)) (chain_from f fuel (next_at f (met f n))) c)

        outer : (b : Bool) → leb (record_count f) (met f n) ≡ b
            → cond b None (cond (eqb (next_at f (met f n)) 0) (Some (piece_at f (met f n) ∷ [])) (linked (piece_at f (met f n)) (chain_from f fuel (next_at f (met f n))))) ≡ None → Next fuel n → Broken f
        outer true q c next = past n l (leb-true (record_count f) (met f n) q)
        outer false q c next = inner (eqb (next_at f (met f n)) 0) refl (leb-false (record_count f) (met f n) q) c next

  -- ---- a file's length

  misfits-broken : misfits f ≡ true → Broken f
  misfits-broken e = go (eqb (length f) 0) refl e
    where
      go : (b : Bool) → eqb (length f) 0 ≡ b → (b || leb 1 (length f % 32)) ≡ true → Broken f
      go true q d = empty (eqb-true (length f) 0 q)
      go false q d = let h = leb-true 1 (length f % 32) d in uneven (λ k. omega arith)

  fit_length : misfits f ≡ false → (length f ≡ 0 → ⊥) × (length f % 32 ≡ 0)
  fit_length e = go (eqb (length f) 0) refl e
    where
      go : (b : Bool) → eqb (length f) 0 ≡ b → (b || leb 1 (length f % 32)) ≡ false → (length f ≡ 0 → ⊥) × (length f % 32 ≡ 0)
      go true q d = absurd (true≢false d)
      go false q d = let h = leb-false 1 (length f % 32) d in (eqb-false (length f) 0 q, omega arith)

  some-record : misfits f ≡ false → 1 ≤ record_count f
  some-record e = let h = fit_length e in go h.0 h.1
    where
      go : (length f ≡ 0 → ⊥) → length f % 32 ≡ 0 → 1 ≤ length f / 32
      go a b = omega arith

  pub chain-unbroken : misfits f ≡ false → (ks : List ℕ) → Follows f 0 ks → Broken f → ⊥
  chain-unbroken e ks c (empty h) = (fit_length e).0 h
  chain-unbroken e ks c (uneven h) = h (fit_length e).1
  chain-unbroken e ks c (past_end n l h) = not-past ks c (suc n) l h
  chain-unbroken e ks c (met-twice i j h l d) = not-twice ks c i j h l d

  -- THE CHAIN'S RULE: it is kept exactly where the file has the right length and its chain ends
  pub kept-exactly : (Broken f → ⊥) ↔ ((misfits f ≡ false) × (ks : List ℕ) × Follows f 0 ks)
  unfolding met
  kept-exactly = (λ h. go h (misfits f) refl, λ k. chain-unbroken k.0 k.1 k.2)
    where
      inner : (Broken f → ⊥) → misfits f ≡ false → (o : Option (List Piece)) → chain_of f ≡ o → (ks : List ℕ) × Follows f 0 ks
      inner h e None q = absurd (h (unended (some-record e) (record_count f) 0 (omega arith) (λ m k. absurd (not-suc-le-zero k)) q))
      inner h e (Some ps) q = let c = (chain-exactly f ps).0 q in (c.0, c.1)

      go : (Broken f → ⊥) → (b : Bool) → misfits f ≡ b → (misfits f ≡ false) × (ks : List ℕ) × Follows f 0 ks
      go h true e = absurd (h (misfits-broken e))
      go h false e = let c = inner h e (chain_of f) refl in (e, c.0, c.1)

-- the rule is broken or kept
pub broken-or-not : (f : List ℕ) → Broken f ⊎ ((misfits f ≡ false) × (ks : List ℕ) × Follows f 0 ks)
unfolding met
broken-or-not f = go (misfits f) refl (chain_of f) refl
  where
    go : (b : Bool) → misfits f ≡ b → (o : Option (List Piece)) → chain_of f ≡ o → Broken f ⊎ ((misfits f ≡ false) × (ks : List ℕ) × Follows f 0 ks)
    go true e o q = inl (misfits-broken f e)
    go false e None q = inl (unended f (some-record f e) (record_count f) 0 (omega arith) (λ m k. absurd (not-suc-le-zero k)) q)
    go false e (Some ps) q = let c = (chain-exactly f ps).0 q in inr (e, c.0, c.1)
