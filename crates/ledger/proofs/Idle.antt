-- The idle count is the ledger's. Idea: each slot holds the least of what was counted for it, so the least of all slots is at most every counted result and is one of them; a closing
-- makes it smaller exactly where one of its results is below every result counted before.
use Rattle.std.specs.Prelude.{Some, slice_get}
use Rattle.ledger.specs.Words.{All, all}
use Rattle.ledger.specs.Kernel.{Parent, Kernel}
use Rattle.ledger.specs.State.{cap, values}
use Rattle.ledger.specs.Closing.{best_of, least_of, up, became_smaller, select}
use Rattle.ledger.specs.Ledger.{Generation, result_in}
use Rattle.ledger.specs.Idle.{results_in, lowers, idle_since, idle_on}
use Rattle.ledger.proofs.Tests.{or_l, or_r, both_ways, all_split, all_join}
use Rattle.ledger.proofs.Order.{lt→le, le_refl, le_trans, le_lt_trans, lt-le-trans, lt_irrefl, not-le→lt}
use Rattle.ledger.proofs.Lists.{none≢some, some_inj, T→true, true→T, at-below, at_mem, mem-at, some_at, get_d_at, all-at, mem_old, mem-later, mem-cases, length-map, map_at, at_map, all_nil}
use Rattle.ledger.proofs.Slots.{Selected, selected, best-first}
use mathlib.Core.Path.{◌≡◌, refl, sym, ap, subst, ◌∙◌}
use mathlib.Core.Logic.{◌⊎◌, inl, inr, ◌≢◌}
use mathlib.Core.Bool.{Bool, true, false, ◌||◌, cond}
use mathlib.Core.List.Memᴰ
use mathlib.Core.List.{List, [], ◌∷◌, ◌++◌, append-nil, append_assoc, reverse, reverse-cons, reverse-append, Memᴰ}
use Prim.Native.Nat.{ℕ, zero, suc, ◌≤◌, ◌<◌, min}
use native.Mathlib.Omega.{arith}
use lib.Dec.{T}
use lib.ListN.{length}
use lib.Ieee.{Float, nan, inf, le, lt}

-- ---- all that was counted

-- the latest generation's first, as `idle_since` has them
abbrev pub all_results : List Generation → List Float
all_results gs = results_in (reverse gs)

results-snoc : (gs : List Generation) (g : Generation) → results_in (gs ++ (g ∷ [])) ≡ results_in gs ++ g.results
unfolding results_in
results-snoc [] g = append-nil g.results
results-snoc (c ∷ gs) g = ap (λ (l : List Float). c.results ++ l) (results-snoc gs g) ∙ sym (append_assoc c.results (results_in gs) g.results)

-- of a generation and those after it
all_cons : (c : Generation) (gs : List Generation) → all_results (c ∷ gs) ≡ all_results gs ++ c.results
all_cons c gs = ap results_in (reverse-cons c gs) ∙ results-snoc (reverse gs) c

pub result-of : (gs : List Generation) (v : Float) → Memᴰ v (all_results gs) → (g : ℕ) × (i : ℕ) × (result_in gs g i ≡ Some v)
unfolding results_in
result-of [] v m = absurd (Memᴰ.not-nil m)
result-of (c ∷ gs) v m = go (mem-cases (all_results gs) c.results v (subst (Memᴰ v) (all_cons c gs) m)) (result-of gs v)
  where
    go : Memᴰ v (all_results gs) ⊎ Memᴰ v c.results → (Memᴰ v (all_results gs) → (g : ℕ) × (i : ℕ) × (result_in gs g i ≡ Some v)) → (g : ℕ) × (i : ℕ) × (result_in (c ∷ gs) g i ≡ Some v)
    go (inl h) ih = let r = ih h in (suc r.0, r.1, r.2)
    go (inr h) ih = let r = mem-at v c.results h in (zero, r.0, r.1)

pub result-among : (gs : List Generation) (g i : ℕ) (v : Float) → result_in gs g i ≡ Some v → Memᴰ v (all_results gs)
result-among [] g i v e = absurd (none≢some e)
result-among (c ∷ gs) zero i v e = subst (Memᴰ v) (sym (all_cons c gs)) (mem-later (all_results gs) c.results v (at_mem c.results i v e))
result-among (c ∷ gs) (suc g) i v e = subst (Memᴰ v) (sym (all_cons c gs)) (mem_old (all_results gs) c.results v (result-among gs g i v e))

-- ---- one more generation

-- a result of the row is below all before
pub lowered : (before rs : List Float) → T (lowers before rs) → (i : ℕ) × (r : Float) × (slice_get rs i ≡ Some r) × All (λ w. T (lt r w)) before
unfolding lowers
lowered before [] t = absurd t
lowered before (r ∷ rs) t = go (all (λ (w : Float). lt r w) before) refl t (lowered before rs)
  where
    go : (b : Bool) → all (λ (w : Float). lt r w) before ≡ b → T (b || lowers before rs) → (T (lowers before rs) → (i : ℕ) × (x : Float) × (slice_get rs i ≡ Some x) × All (λ w. T (lt x w)) before)
        → (i : ℕ) × (x : Float) × (slice_get (r ∷ rs) i ≡ Some x) × All (λ w. T (lt x w)) before
    go true e u ih = (zero, r, refl, all_split (λ (w : Float). lt r w) before (true→T _ e))
    go false e u ih = let h = ih u in (suc h.0, h.1, h.2, h.3)

pub lowers-by : (before rs : List Float) (i : ℕ) (r : Float) → slice_get rs i ≡ Some r → All (λ w. T (lt r w)) before → T (lowers before rs)
unfolding lowers
lowers-by before [] i r e h = absurd (none≢some e)
lowers-by before (x ∷ rs) zero r e h =
    or_l (all (λ (w : Float). lt x w) before) (lowers before rs) (all_join (λ (w : Float). lt x w) before (subst (λ (z : Float). All (λ w. T (lt z w)) before) (sym (some_inj e)) h))
lowers-by before (x ∷ rs) (suc i) r e h = or_r (all (λ (w : Float). lt x w) before) (lowers before rs) (lowers-by before rs i r e h)

pub idle-snoc : (gs : List Generation) (g : Generation) → idle_on (gs ++ (g ∷ [])) ≡ cond (lowers (all_results gs) g.results) 0 (suc (idle_on gs))
unfolding idle_since
idle-snoc gs g = ap idle_since (reverse-append gs (g ∷ []))

-- ---- the least of all slots

module _ (K : Kernel) where
  open K use {Candidate}

  good-values : (ps : List (Parent Candidate)) → All (λ p. p.value ≢ nan) ps → (i : ℕ) (v : Float) → slice_get (values K ps) i ≡ Some v → v ≢ nan
  good-values ps g i v e =
      let t = at_map (λ (p : Parent Candidate). p.value) ps i v e in
      subst (λ (z : Float). z ≢ nan) t.2 (all-at (λ p. p.value ≢ nan) ps g i t.0 t.1)

  -- it is a slot's value, and at most each of them
  record Least (ps : List (Parent Candidate)) : Type 0 where
    place : ℕ
    slot : Parent Candidate
    here : slice_get ps place ≡ Some slot
    is : slot.value ≡ least_of (values K ps)
    least : (i : ℕ) (p : Parent Candidate) → slice_get ps i ≡ Some p → T (le (least_of (values K ps)) p.value)

  least-slot : (ps : List (Parent Candidate)) → 1 ≤ length ps → All (λ p. p.value ≢ nan) ps → Least ps
  least-slot ps h g =
      let b = best-first (values K ps) (omega (arith, length-map (λ (p : Parent Candidate). p.value) ps)) (good-values ps g) in
      let e : least_of (values K ps) ≡ b.value = get_d_at (values K ps) (best_of (values K ps)) b.value (inf false) b.here in
      let t = at_map (λ (p : Parent Candidate). p.value) ps (best_of (values K ps)) b.value b.here in
      record {
        place = best_of (values K ps);
        slot = t.0;
        here = t.1;
        is = t.2 ∙ sym e;
        least = λ i p x. subst (λ (z : Float). T (le z p.value)) (sym e) (b.least i p.value (map_at (λ (q : Parent Candidate). q.value) ps i p x));
      }

  -- ---- a later closing

  module _ (ps : List (Parent Candidate)) (cs : List Candidate) (row : List Float) (gs : List Generation)
      (many : 1 ≤ length ps) (each : length (select K ps cs row) ≡ length ps) (rows : length row ≡ length ps)
      (olds : All (λ p. p.value ≢ nan) ps) (news : All (λ p. p.value ≢ nan) (select K ps cs row)) (good : All (λ v. v ≢ nan) row)
      (counted : (i : ℕ) (p : Parent Candidate) → slice_get ps i ≡ Some p → (g : ℕ) × (result_in gs g i ≡ Some p.value))
      (at_least_lem : (i : ℕ) (p : Parent Candidate) → slice_get ps i ≡ Some p → (g : ℕ) (v : Float) → result_in gs g i ≡ Some v → T (le p.value v))
      (inside : (g i : ℕ) (v : Float) → result_in gs g i ≡ Some v → i < length ps) where
    abbrev before : Float
    before = least_of (values K ps)

    abbrev after : Float
    after = least_of (values K (select K ps cs row))

    old : Least ps
    old = least-slot ps many olds

    new : Least (select K ps cs row)
    new = least-slot (select K ps cs row) (omega (arith, each)) news

    -- the least before is at most every counted result
    under : (w : Float) → Memᴰ w (all_results gs) → T (le before w)
    under w m =
        let r = result-of gs w m in
        let p = some_at ps r.1 (inside r.0 r.1 w r.2) in
        le_trans before p.0.value w (old.least r.1 p.0 p.1) (at_least_lem r.1 p.0 p.1 r.0 w r.2)

    smaller-lowers : T (lt after before) → T (lowers (all_results gs) row)
    smaller-lowers h = let t = selected K ps cs row new.place new.slot new.here in go t t.which
      where
        go : (t : Selected K ps cs row new.place new.slot) → ((le t.new.value t.old.value ≡ true) × (new.slot ≡ t.new)) ⊎ ((le t.new.value t.old.value ≡ false) × (new.slot ≡ t.old))
            → T (lowers (all_results gs) row)
        go t (inl x) =
            let e : t.new.value ≡ after = ap (λ (p : Parent Candidate). p.value) (sym x.1) ∙ new.is in
            lowers-by (all_results gs) row new.place after (t.value_at ∙ ap Some e) (λ w m. lt-le-trans after before w h (under w m))
        go t (inr x) =
            let e : t.old.value ≡ after = ap (λ (p : Parent Candidate). p.value) (sym x.1) ∙ new.is in
            let b : T (le before after) = subst (λ (z : Float). T (le before z)) e (old.least new.place t.old t.old_at) in
            absurd (lt_irrefl before (le_lt_trans before after before b h))

    lowers-smaller : T (lowers (all_results gs) row) → T (lt after before)
    lowers-smaller h =
        let l = lowered (all_results gs) row h in
        let c = counted old.place old.slot old.here in
        let below : T (lt l.1 before) = subst (λ (z : Float). T (lt l.1 z)) old.is (l.3 old.slot.value (result-among gs c.0 old.place old.slot.value c.1)) in
        let p = some_at (select K ps cs row) l.0 (omega (arith, each, rows, at-below row l.0 l.1 l.2)) in
        let t = selected K ps cs row l.0 p.0 p.1 in
        le_lt_trans after l.1 before (le_trans after p.0.value l.1 (new.least l.0 p.0 p.1) (at-most l.0 l.1 l.2 p.0 t t.which)) below
      where
        at-most : (i : ℕ) (r : Float) → slice_get row i ≡ Some r → (p : Parent Candidate) (t : Selected K ps cs row i p)
            → ((le t.new.value t.old.value ≡ true) × (p ≡ t.new)) ⊎ ((le t.new.value t.old.value ≡ false) × (p ≡ t.old)) → T (le p.value r)
        at-most i r e p t (inl x) =
            let is : p.value ≡ r = ap (λ (q : Parent Candidate). q.value) x.1 ∙ some_inj (sym t.value_at ∙ e) in
            subst (λ (z : Float). T (le p.value z)) is (le_refl p.value (subst (λ (z : Float). z ≢ nan) (sym is) (all-at (λ v. v ≢ nan) row good i r e)))
        at-most i r e p t (inr x) =
            let is : t.new.value ≡ r = some_inj (sym t.value_at ∙ e) in
            let g = all-at (λ q. q.value ≢ nan) ps olds i t.old t.old_at in
            let b = lt→le t.old.value t.new.value (not-le→lt t.new.value t.old.value (all-at (λ v. v ≢ nan) row good i t.new.value t.value_at) g x.0) in
            subst (λ (q : Parent Candidate). T (le q.value r)) (sym x.1) (subst (λ (z : Float). T (le t.old.value z)) is b)

    pub smaller-is : became_smaller (values K ps) (values K (select K ps cs row)) ≡ lowers (all_results gs) row
    smaller-is = both_ways (lt after before) (lowers (all_results gs) row) smaller-lowers lowers-smaller

-- ---- the counter

counts : (b : Bool) (n k : ℕ) → n ≡ min k cap → cond b 0 (up n) ≡ min (cond b 0 (suc k)) cap
counts true n k e = omega arith
counts false n k e = omega (arith, e)

-- the first closing
pub idle-first : (gs : List Generation) (g : Generation) → length gs ≡ 0 → 1 ≤ length g.results → idle_on (gs ++ (g ∷ [])) ≡ 0
unfolding results_in
idle-first gs g z h = idle-snoc gs g ∙ ap (λ (b : Bool). cond b 0 (suc (idle_on gs))) (T→true (lowers (all_results gs) g.results) (lowers-by (all_results gs) g.results 0 r.0 r.1 (none gs z r.0)))
  where
    r : (v : Float) × (slice_get g.results 0 ≡ Some v)
    r = some_at g.results 0 h

    none : (cs : List Generation) → length cs ≡ 0 → (v : Float) → All (λ w. T (lt v w)) (all_results cs)
    none [] e v = all_nil (λ w. T (lt v w))
    none (c ∷ cs) e v = absurd (omega (arith, e))

-- a later one, by whether it made the least of all slots smaller
pub idle-later : (gs : List Generation) (g : Generation) (n : ℕ) (b : Bool) → n ≡ min (idle_on gs) cap → b ≡ lowers (all_results gs) g.results → cond b 0 (up n) ≡ min (idle_on (gs ++ (g ∷ []))) cap
idle-later gs g n b e h = counts b n (idle_on gs) e ∙ ap (λ (k : ℕ). min k cap) (ap (λ (t : Bool). cond t 0 (suc (idle_on gs))) h ∙ sym (idle-snoc gs g))
