-- "The reader follows the chain wherever its records stand": the order of records on the chain does not matter to the tables, where no two are of one kind and position.
use Prim.Native.Nat.{ℕ, zero, suc, ◌+◌, ◌*◌, ◌≤◌, ◌<◌}
use native.Mathlib.Omega.{arith}
use mathlib.Core.Bool.{Bool, true, false, ◌&&◌, cond}
use mathlib.Core.List.Memᴰ
use mathlib.Core.List.{List, [], ◌∷◌, ◌++◌, Memᴰ, Permᴰ}
use mathlib.Core.Logic.{⊎_elim}
use mathlib.Core.Path.{◌≡◌, refl, sym, ap, ◌∙◌, subst}
use borrow.Author.Tests.{eqb-true}
use lib.Dec.{ltb, eqb}
use lib.ListN.{length, set}
use lib.Seq.{set_comm}
use Rattle.ledger.specs.Words.{All}
use Rattle.records.specs.declared.Piece.{Piece}
use Rattle.records.specs.Tables.{laid_at, lay, laid_on, section, pieces_from, records_for}
use Rattle.records.specs.declared.Table.{Table}

-- two records that are not of one kind and position
abbrev pub Apart : Piece → Piece → Type 0
Apart p q = p.kind ≡ q.kind → p.position ≡ q.position → ⊥

apart-sym : (p q : Piece) → Apart p q → Apart q p
apart-sym p q a e d = a (sym e) (sym d)

-- no two of a list are
abbrev pub Keyed : List Piece → Type 0
Keyed [] = Unit {0}
Keyed (p ∷ ps) = All (Apart p) ps × Keyed ps

-- ---- two stores at different places

-- three words and one
one-past : (l : List ℕ) (n j : ℕ) (a b c w : ℕ) → (n ≡ j → ⊥) → (n + 1 ≡ j → ⊥) → (n + 2 ≡ j → ⊥)
    → set (set (set (set l n a) (n + 1) b) (n + 2) c) j w ≡ set (set (set (set l j w) n a) (n + 1) b) (n + 2) c
one-past l n j a b c w d0 d1 d2 =
    set_comm (set (set l n a) (n + 1) b) (n + 2) j c w d2
    ∙ ap (λ (t : List ℕ). set t (n + 2) c) (set_comm (set l n a) (n + 1) j b w d1)
    ∙ ap (λ (t : List ℕ). set (set t (n + 1) b) (n + 2) c) (set_comm l n j a w d0)

three-past : (l : List ℕ) (p q : ℕ) (a b c x y z : ℕ) → (p ≡ q → ⊥)
    → set (set (set (set (set (set l (3 * p) a) (3 * p + 1) b) (3 * p + 2) c) (3 * q) x) (3 * q + 1) y) (3 * q + 2) z
    ≡ set (set (set (set (set (set l (3 * q) x) (3 * q + 1) y) (3 * q + 2) z) (3 * p) a) (3 * p + 1) b) (3 * p + 2) c
three-past l p q a b c x y z d =
    ap (λ (t : List ℕ). set (set t (3 * q + 1) y) (3 * q + 2) z) (one-past l (3 * p) (3 * q) a b c x (λ e. d (omega arith)) (λ e. d (omega arith)) (λ e. d (omega arith)))
    ∙ ap (λ (t : List ℕ). set t (3 * q + 2) z) (one-past (set l (3 * q) x) (3 * p) (3 * q + 1) a b c y (λ e. d (omega arith)) (λ e. d (omega arith)) (λ e. d (omega arith)))
    ∙ one-past (set (set l (3 * q) x) (3 * q + 1) y) (3 * p) (3 * q + 2) a b c z (λ e. d (omega arith)) (λ e. d (omega arith)) (λ e. d (omega arith))

put-comm : (t : Table) (p q : Piece) → (p.position ≡ q.position → ⊥) → laid_at (laid_at t p) q ≡ laid_at (laid_at t q) p
put-comm t p q d =
    λ i. record {
      words = three-past t.words p.position q.position p.first p.second p.third q.first q.second q.third d i;
      filled = set_comm t.filled p.position q.position true true d i;
    }

lay-comm : (kind : ℕ) (t : Table) (p q : Piece) → Apart p q → lay kind (lay kind t p) q ≡ lay kind (lay kind t q) p
lay-comm kind t p q a = go (eqb p.kind kind) refl (eqb q.kind kind) refl (ltb p.position 1200) (ltb q.position 1200)
  where
    go : (x : Bool) → eqb p.kind kind ≡ x → (y : Bool) → eqb q.kind kind ≡ y → (u v : Bool)
        → cond (y && v) (laid_at (cond (x && u) (laid_at t p) t) q) (cond (x && u) (laid_at t p) t) ≡ cond (x && u) (laid_at (cond (y && v) (laid_at t q) t) p) (cond (y && v) (laid_at t q) t)
    go true e true d true true = put-comm t p q (a (eqb-true p.kind kind e ∙ sym (eqb-true q.kind kind d)))
    go true e true d true false = refl
    go true e true d false true = refl
    go true e true d false false = refl
    go true e false d true v = refl
    go true e false d false v = refl
    go false e true d u true = refl
    go false e true d u false = refl
    go false e false d u v = refl

-- ---- rearranged

pub all-rearranged : (P : Piece → Type 0) {ps qs : List Piece} → Permᴰ ps qs → All P qs → All P ps
all-rearranged P Permᴰ.nil h a m = h a m
all-rearranged P (Permᴰ.cons e r) h a (Memᴰ.head q) = h a (Memᴰ.head (q ∙ e))
all-rearranged P (Permᴰ.cons e r) h a (Memᴰ.tail m) = all-rearranged P r (λ b k. h b (Memᴰ.tail k)) a m
all-rearranged P (Permᴰ.swap e d) h a (Memᴰ.head q) = h a (Memᴰ.tail (Memᴰ.head (q ∙ e)))
all-rearranged P (Permᴰ.swap e d) h a (Memᴰ.tail (Memᴰ.head q)) = h a (Memᴰ.head (q ∙ d))
all-rearranged P (Permᴰ.swap e d) h a (Memᴰ.tail (Memᴰ.tail m)) = h a (Memᴰ.tail (Memᴰ.tail m))
all-rearranged P (Permᴰ.trans r t) h a m = all-rearranged P r (all-rearranged P t h) a m

swapped-first : (p q : Piece) (ps : List Piece) → Keyed (q ∷ p ∷ ps) → (a : Piece) → Memᴰ a (q ∷ ps) → Apart p a
swapped-first p q ps k a (Memᴰ.head e) = subst (Apart p) (sym e) (apart-sym q p (k.0 p (Memᴰ.head refl)))
swapped-first p q ps k a (Memᴰ.tail m) = k.1.0 a m

swapped : (p q : Piece) (ps : List Piece) → Keyed (q ∷ p ∷ ps) → Keyed (p ∷ q ∷ ps)
swapped p q ps k = (swapped-first p q ps k, (λ a m. k.0 a (Memᴰ.tail m), k.1.1))

pub keyed-rearranged : {ps qs : List Piece} → Permᴰ ps qs → Keyed qs → Keyed ps
keyed-rearranged Permᴰ.nil k = k
keyed-rearranged (Permᴰ.cons {a = a} {l₂ = qs} e r) k = (all-rearranged (Apart a) r (subst (λ (x : Piece). All (Apart x) qs) (sym e) k.0), keyed-rearranged r k.1)
keyed-rearranged (Permᴰ.swap {a} {b} {a'} {b'} {l = ps} e d) k = swapped a b ps (subst (λ (x : Piece). Keyed (b ∷ x ∷ ps)) (sym e) (subst (λ (x : Piece). Keyed (x ∷ b' ∷ ps)) (sym d) k))
keyed-rearranged (Permᴰ.trans r t) k = keyed-rearranged r (keyed-rearranged t k)

pub same_length : {ps qs : List Piece} → Permᴰ ps qs → length ps ≡ length qs
same_length Permᴰ.nil = refl
same_length (Permᴰ.cons e r) = ap suc (same_length r)
same_length (Permᴰ.swap e d) = refl
same_length (Permᴰ.trans r t) = same_length r ∙ same_length t

pub same-table : (kind : ℕ) (t : Table) {ps qs : List Piece} → Permᴰ ps qs → Keyed qs → laid_on kind t ps ≡ laid_on kind t qs
unfolding laid_on
same-table kind t Permᴰ.nil k = refl
same-table kind t (Permᴰ.cons {b = b} {l₁ = ps} e r) k = ap (λ (x : Piece). laid_on kind (lay kind t x) ps) e ∙ same-table kind (lay kind t b) r k.1
same-table kind t (Permᴰ.swap {a} {b} {a'} {b'} {l = ps} e d) k =
    (λ i. laid_on kind (lay kind (lay kind t (e i)) (d i)) ps) ∙ ap (λ (u : Table). laid_on kind u ps) (sym (lay-comm kind t a' b' (k.0 b' (Memᴰ.head refl))))
same-table kind t (Permᴰ.trans r s) k = same-table kind t r (keyed-rearranged s k) ∙ same-table kind t s k

-- ---- a state's records

pub later : (kind : ℕ) (ws : List ℕ) (m k : ℕ) (p : Piece) → Memᴰ p (pieces_from kind ws m k) → (p.kind ≡ kind) × (k ≤ p.position)
unfolding pieces_from
later kind ws zero k p m = absurd (Memᴰ.not-nil m)
later kind ws (suc n) k p (Memᴰ.head e) = (ap (λ (q : Piece). q.kind) e, subst (λ (j : ℕ). k ≤ j) (sym (ap (λ (q : Piece). q.position) e)) (omega arith))
later kind ws (suc n) k p (Memᴰ.tail m) = let r = later kind ws n (k + 1) p m in (r.0, omega (arith, r.1))

pub section-keyed : (kind : ℕ) (ws : List ℕ) (m k : ℕ) → Keyed (pieces_from kind ws m k)
unfolding pieces_from
section-keyed kind ws zero k = tt
section-keyed kind ws (suc m) k = (λ a n e d. above a n d, section-keyed kind ws m (k + 1))
  where
    above : (a : Piece) → Memᴰ a (pieces_from kind ws m (k + 1)) → k ≡ a.position → ⊥
    above a n d = omega (arith, (later kind ws m (k + 1) a n).1)

-- kinds below n, then records of kind n
abbrev pub Under : ℕ → List Piece → Type 0
Under n ps = All (λ (p : Piece). p.kind < n) ps

pub keyed-append : (ps qs : List Piece) → Keyed ps → Keyed qs → ((p q : Piece) → Memᴰ p ps → Memᴰ q qs → Apart p q) → Keyed (ps ++ qs)
keyed-append [] qs k l a = l
keyed-append (p ∷ ps) qs k l a =
    (λ b m. ⊎_elim (k.0 b) (λ n. a p b (Memᴰ.head refl) n) (Memᴰ.append_cases ps m), keyed-append ps qs k.1 l (λ x y m n. a x y (Memᴰ.tail m) n))

pub under-append : (n kind : ℕ) (ps : List Piece) (ws : List ℕ) → kind ≡ n → Under n ps → Under (suc n) (ps ++ section kind ws)
under-append n kind ps ws q h a m =
    ⊎_elim (λ k. lower (h a k)) (λ k. own (later kind ws (records_for (length ws)) 0 a k).0) (Memᴰ.append_cases ps m)
  where
    lower : a.kind < n → a.kind < suc n
    lower l = omega arith

    own : a.kind ≡ kind → a.kind < suc n
    own e = omega arith

pub next-keyed : (n kind : ℕ) (ps : List Piece) (ws : List ℕ) → kind ≡ n → Under n ps → Keyed ps → Keyed (ps ++ section kind ws)
next-keyed n kind ps ws q h k =
    keyed-append ps (section kind ws) k (section-keyed kind ws (records_for (length ws)) 0) (λ x y m l e d. clash (h x m) (later kind ws (records_for (length ws)) 0 y l).0 e)
  where
    clash : {a b : ℕ} → a < n → b ≡ kind → a ≡ b → ⊥
    clash l e d = omega arith
