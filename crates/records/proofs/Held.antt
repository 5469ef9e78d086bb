-- What a kind's table says of the records that were laid in it: each filled position has its record on the chain. So a chain whose tables are a section's has all of the section's records.
use Prim.Native.Nat.{ℕ, zero, suc, ◌+◌, ◌*◌, ◌-◌, ◌≤◌, ◌<◌}
use native.Mathlib.Omega.{arith}
use mathlib.Core.Path.{◌≡◌, refl, sym, ap, ◌∙◌}
use mathlib.Core.Bool.{Bool, true, false, ◌&&◌, cond, true≢false}
use mathlib.Core.List.Memᴰ
use mathlib.Core.List.{List, [], ◌∷◌, Memᴰ}
use mathlib.Core.Logic.{◌⊎◌, inl, inr, ⊎_elim}
use borrow.Author.Tests.{eqb-true, eqb-false}
use lib.Dec.{ltb, eqb}
use lib.ListN.{length, get_or, set, replicate, length-append, length-replicate, length-set, get_or-replicate, get_or-append}
use lib.Seq.{get_or-set_same, get_or-set_other}
use Rattle.rng_util.specs.Many.{pad_to}
use Rattle.ledger.specs.Words.{All}
use Rattle.std.proofs.lemmas.Bool.{and_parts}
use Rattle.records.specs.declared.Piece.{Piece}
use Rattle.records.specs.Tables.{records_for, piece_of, pieces_from, section, no_records, laid_at, lay, laid_on, table_of, same_words, same_flags, holds}
use Rattle.records.specs.declared.Table.{Table}
use Rattle.records.proofs.Tabled.{get_or-pad}

-- ---- three words stored side by side

abbrev three : List ℕ → ℕ → ℕ → ℕ → ℕ → List ℕ
three l n a b c = set (set (set l n a) (n + 1) b) (n + 2) c

three-other : (l : List ℕ) (n j a b c : ℕ) → (j ≡ n → ⊥) → (j ≡ n + 1 → ⊥) → (j ≡ n + 2 → ⊥) → get_or (three l n a b c) j 0 ≡ get_or l j 0
three-other l n j a b c x y z =
    get_or-set_other (set (set l n a) (n + 1) b) (n + 2) j c 0 z ∙ get_or-set_other (set l n a) (n + 1) j b 0 y ∙ get_or-set_other l n j a 0 x

three-length : (l : List ℕ) (n a b c : ℕ) → length (three l n a b c) ≡ length l
three-length l n a b c = length-set (set (set l n a) (n + 1) b) (n + 2) c ∙ length-set (set l n a) (n + 1) b ∙ length-set l n a

module _ (l : List ℕ) (n a b c : ℕ) (h : n + 2 < length l) where
  three-first : get_or (three l n a b c) n 0 ≡ a
  three-first =
      get_or-set_other (set (set l n a) (n + 1) b) (n + 2) n c 0 (λ e. omega arith) ∙ get_or-set_other (set l n a) (n + 1) n b 0 (λ e. omega arith) ∙ get_or-set_same l n a 0 (omega arith)

  three-second : get_or (three l n a b c) (n + 1) 0 ≡ b
  three-second =
      get_or-set_other (set (set l n a) (n + 1) b) (n + 2) (n + 1) c 0 (λ e. omega arith) ∙ get_or-set_same (set l n a) (n + 1) b 0 (omega (arith, length-set l n a))

  three_third : get_or (three l n a b c) (n + 2) 0 ≡ c
  three_third = get_or-set_same (set (set l n a) (n + 1) b) (n + 2) c 0 (omega (arith, length-set (set l n a) (n + 1) b, length-set l n a))

-- ---- a table

pub record Lengths (t : Table) : Type 0 where
  pub words : length t.words ≡ 3600
  pub filled : length t.filled ≡ 1200

put_whole : (t : Table) (p : Piece) → Lengths t → Lengths (laid_at t p)
put_whole t p z =
    record {
      words = three-length t.words (3 * p.position) p.first p.second p.third ∙ z.words;
      filled = length-set t.filled p.position true ∙ z.filled;
    }

lay-whole : (kind : ℕ) (t : Table) (p : Piece) → Lengths t → Lengths (lay kind t p)
lay-whole kind t p z = go (eqb p.kind kind && ltb p.position 1200)
  where
    go : (b : Bool) → Lengths (cond b (laid_at t p) t)
    go true = put_whole t p z
    go false = z

laid-whole : (kind : ℕ) (t : Table) (ps : List Piece) → Lengths t → Lengths (laid_on kind t ps)
unfolding laid_on
laid-whole kind t [] z = z
laid-whole kind t (p ∷ ps) z = laid-whole kind (lay kind t p) ps (lay-whole kind t p z)

none-whole : Lengths no_records
unfolding no_records
none-whole = record { words = length-replicate {A = ℕ} 3600 0; filled = length-replicate 1200 false }

pub table-whole : (kind : ℕ) (rs : List Piece) → Lengths (table_of kind rs)
table-whole kind rs = laid-whole kind no_records rs none-whole

-- ---- what stands at a position comes from a record, or was there before

module _ (kind k : ℕ) (small : k < 1200) where
  abbrev there : Table → Piece
  there t = piece_of kind t.words k

  put-there : (t : Table) (p : Piece) → Lengths t → p.kind ≡ kind → p.position ≡ k → there (laid_at t p) ≡ p
  put-there t p z e d =
      let h : 3 * p.position + 2 < length t.words = omega (arith, z.words, d) in
      let w : ℕ → ℕ = λ j. get_or (laid_at t p).words j 0 in
      λ i. record {
        kind = sym e i;
        position = sym d i;
        first = (ap (λ (n : ℕ). w (3 * n)) (sym d) ∙ three-first t.words (3 * p.position) p.first p.second p.third h) i;
        second = (ap (λ (n : ℕ). w (3 * n + 1)) (sym d) ∙ three-second t.words (3 * p.position) p.first p.second p.third h) i;
        third = (ap (λ (n : ℕ). w (3 * n + 2)) (sym d) ∙ three_third t.words (3 * p.position) p.first p.second p.third h) i;
      }

  abbrev Kept : Table → Table → Type 0
  Kept u t = (there u ≡ there t) × (get_or u.filled k false ≡ get_or t.filled k false)

  put-elsewhere : (t : Table) (p : Piece) → (p.position ≡ k → ⊥) → Kept (laid_at t p) t
  put-elsewhere t p d =
      let o : (j : ℕ) → (j ≡ 3 * p.position → ⊥) → (j ≡ 3 * p.position + 1 → ⊥) → (j ≡ 3 * p.position + 2 → ⊥) → get_or (laid_at t p).words j 0 ≡ get_or t.words j 0
      = λ j. three-other t.words (3 * p.position) j p.first p.second p.third in (
        λ i. record {
          kind = kind;
          position = k;
          first = o (3 * k) (λ e. d (omega arith)) (λ e. d (omega arith)) (λ e. d (omega arith)) i;
          second = o (3 * k + 1) (λ e. d (omega arith)) (λ e. d (omega arith)) (λ e. d (omega arith)) i;
          third = o (3 * k + 2) (λ e. d (omega arith)) (λ e. d (omega arith)) (λ e. d (omega arith)) i;
        },
        get_or-set_other t.filled p.position k true false (λ e. d (sym e)),
      )

  one-laid : (t : Table) (p : Piece) → Lengths t → (there (lay kind t p) ≡ p) ⊎ Kept (lay kind t p) t
  one-laid t p z = go (eqb p.kind kind) refl (ltb p.position 1200) (eqb p.position k) refl
    where
      go : (x : Bool) → eqb p.kind kind ≡ x → (y : Bool) (w : Bool) → eqb p.position k ≡ w
          → (there (cond (x && y) (laid_at t p) t) ≡ p) ⊎ Kept (cond (x && y) (laid_at t p) t) t
      go true e true true q = inl (put-there t p z (eqb-true p.kind kind e) (eqb-true p.position k q))
      go true e true false q = inr (put-elsewhere t p (eqb-false p.position k q))
      go true e false w q = inr (refl, refl)
      go false e y w q = inr (refl, refl)

  found : (t : Table) (ps : List Piece) → Lengths t → Memᴰ (there (laid_on kind t ps)) ps ⊎ Kept (laid_on kind t ps) t
  unfolding laid_on
  found t [] z = inr (refl, refl)
  found t (p ∷ ps) z = go (one-laid t p z) (found (lay kind t p) ps (lay-whole kind t p z))
    where
      u : Table
      u = laid_on kind (lay kind t p) ps

      go : (there (lay kind t p) ≡ p) ⊎ Kept (lay kind t p) t → Memᴰ (there u) ps ⊎ Kept u (lay kind t p) → Memᴰ (there u) (p ∷ ps) ⊎ Kept u t
      go o (inl m) = inl (Memᴰ.tail m)
      go (inl e) (inr r) = inl (Memᴰ.head (r.0 ∙ e))
      go (inr s) (inr r) = inr (r.0 ∙ s.0, r.1 ∙ s.1)

  none-there : get_or no_records.filled k false ≡ false
  unfolding no_records
  none-there = get_or-replicate 1200 k false false small

  -- a filled position's record is on the chain
  pub filled_in : (rs : List Piece) → get_or (table_of kind rs).filled k false ≡ true → Memᴰ (there (table_of kind rs)) rs
  filled_in rs f = ⊎_elim (λ m. m) (λ r. absurd (true≢false (sym f ∙ r.1 ∙ none-there))) (found no_records rs none-whole)

-- ---- a table that holds a section

same-is : (vs ws : List ℕ) → same_words vs ws ≡ true → vs ≡ ws
unfolding same_words
same-is [] [] e = refl
same-is [] (w ∷ ws) e = absurd (true≢false (sym e))
same-is (v ∷ vs) [] e = absurd (true≢false (sym e))
same-is (v ∷ vs) (w ∷ ws) e = let r = and_parts (eqb v w) (same_words vs ws) e in λ i. eqb-true v w r.0 i ∷ same-is vs ws r.1 i

flags-are : (vs ws : List Bool) → same_flags vs ws ≡ true → vs ≡ ws
unfolding same_flags
flags-are [] [] e = refl
flags-are [] (w ∷ ws) e = absurd (true≢false (sym e))
flags-are (v ∷ vs) [] e = absurd (true≢false (sym e))
flags-are (true ∷ vs) (true ∷ ws) e = ap (λ (l : List Bool). true ∷ l) (flags-are vs ws e)
flags-are (true ∷ vs) (false ∷ ws) e = absurd (true≢false (sym e))
flags-are (false ∷ vs) (true ∷ ws) e = absurd (true≢false (sym e))
flags-are (false ∷ vs) (false ∷ ws) e = ap (λ (l : List Bool). false ∷ l) (flags-are vs ws e)

module _ (kind : ℕ) (ws : List ℕ) (rs : List Piece) (e : holds (table_of kind rs) ws ≡ true) where
  abbrev n : ℕ
  n = records_for (length ws)

  pub held-words : (table_of kind rs).words ≡ pad_to 3600 0 ws
  unfolding holds
  held-words = same-is (table_of kind rs).words (pad_to 3600 0 ws) (and_parts (same_words (table_of kind rs).words (pad_to 3600 0 ws)) _ e).0

  pub held-flags : (table_of kind rs).filled ≡ pad_to 1200 false (replicate n true)
  unfolding holds
  held-flags = flags-are (table_of kind rs).filled (pad_to 1200 false (replicate n true)) (and_parts (same_words (table_of kind rs).words (pad_to 3600 0 ws)) _ e).1

  -- the section fits its table
  pub held-few : length ws ≤ 3600
  held-few = omega (arith, (table-whole kind rs).words, ap length held-words, length-append ws (replicate (3600 - length ws) 0))

  word-is : (j : ℕ) → get_or ws j 0 ≡ get_or (table_of kind rs).words j 0
  word-is j = sym (ap (λ (l : List ℕ). get_or l j 0) held-words ∙ get_or-pad ws (3600 - length ws) j)

  -- each record of the section is on the chain
  pub held_in : (k : ℕ) → k < n → Memᴰ (piece_of kind ws k) rs
  held_in k h =
      let s : k < 1200 = omega (arith, held-few) in
      let f : get_or (table_of kind rs).filled k false ≡ true
      = ap (λ (l : List Bool). get_or l k false) held-flags ∙ get_or-append (replicate n true) _ false k (omega (arith, length-replicate n true)) ∙ get_or-replicate n k true false h in
      Memᴰ.cast (λ i. record { kind = kind; position = k; first = word-is (3 * k) i; second = word-is (3 * k + 1) i; third = word-is (3 * k + 2) i }) (filled_in kind k s rs f)

  from_in : (m k : ℕ) → k + m ≤ n → All (λ (p : Piece). Memᴰ p rs) (pieces_from kind ws m k)
  unfolding pieces_from
  from_in zero k h a m = absurd (Memᴰ.not-nil m)
  from_in (suc m) k h a (Memᴰ.head q) = Memᴰ.cast q (held_in k (omega arith))
  from_in (suc m) k h a (Memᴰ.tail t) = from_in m (k + 1) (omega arith) a t

  pub section-in : All (λ (p : Piece). Memᴰ p rs) (section kind ws)
  section-in = from_in n 0 (omega arith)
