-- The records of kinds 1 to n by the words of each: no two of one kind and position, their tables, and the law on which the reader stands (`agrees-exactly`):
-- its test holds exactly where the records on the chain are these, each once, in some order.
use Rattle.std.specs.Prelude.{Some, slice_get}
use Prim.Native.Nat.{ℕ, zero, suc, ◌+◌, ◌≤◌, ◌<◌, ◌^◌}
use native.Mathlib.Omega.{arith}
use mathlib.Core.Path.{◌≡◌, refl, sym, ap, ◌∙◌, subst}
use mathlib.Core.Bool.{Bool, true, false}
use mathlib.Core.List.Memᴰ
use mathlib.Core.List.{List, [], ◌∷◌, ◌++◌, Memᴰ, Permᴰ}
use mathlib.Core.Logic.{◌↔◌}
use borrow.Author.Tests.{eqb-true, eqb-false, eq-eqb, ne_eqb}
use lib.Dec.{eqb}
use lib.ListN.{length}
use Rattle.ledger.specs.Words.{All}
use Rattle.std.proofs.lemmas.Bool.{and_parts}
use Rattle.state.proofs.Flags.{and-true}
use Rattle.records.specs.declared.Piece.{Piece}
use Rattle.records.specs.Tables.{records_for, piece_of, pieces_from, section, laid_on, table_of, holds, agrees, no_records, sections_to, hold_to}
use Rattle.records.specs.declared.Table.{Table}
use Rattle.records.proofs.Orders.{Keyed, Under, next-keyed, same_length, same-table, under-append}
use Rattle.records.proofs.Lists.{both}
use Rattle.records.proofs.Tabled.{full_table, holds-own, laid-append, own-section, pass}
use Rattle.records.proofs.Held.{section-in}
use Rattle.records.proofs.Permuted.{perm-of}
use Rattle.records.proofs.Written.{Fit}
use Rattle.records.proofs.Fits.{Small, pieces-fit}
use Rattle.records.proofs.Exact.{few}

-- ---- one kind

from-mem : (kind : ℕ) (ws : List ℕ) (m k j : ℕ) → k ≤ j → j < k + m → Memᴰ (piece_of kind ws j) (pieces_from kind ws m k)
unfolding pieces_from
from-mem kind ws zero k j a b = absurd (omega arith)
from-mem kind ws (suc m) k j a b = go (eqb k j) refl (from-mem kind ws m (k + 1) j)
  where
    above : (k ≡ j → ⊥) → k + 1 ≤ j
    above d = omega arith

    go : (t : Bool) → eqb k j ≡ t → (k + 1 ≤ j → j < k + 1 + m → Memᴰ (piece_of kind ws j) (pieces_from kind ws m (k + 1))) → Memᴰ (piece_of kind ws j) (piece_of kind ws k ∷ pieces_from kind ws m (k + 1))
    go true q again = Memᴰ.head (ap (piece_of kind ws) (sym (eqb-true k j q)))
    go false q again = Memᴰ.tail (again (above (eqb-false k j q)) (omega arith))

pub section-mem : (kind : ℕ) (ws : List ℕ) (j : ℕ) → j < records_for (length ws) → Memᴰ (piece_of kind ws j) (section kind ws)
section-mem kind ws j h = from-mem kind ws (records_for (length ws)) 0 j (omega arith) (omega arith)

module _ (P : Piece → Type 0) (kind : ℕ) (ws : List ℕ) where
  each_from : (n m k : ℕ) → k + m ≡ n → ((j : ℕ) → j < n → P (piece_of kind ws j)) → All P (pieces_from kind ws m k)
  unfolding pieces_from
  each_from n zero k e h a t = absurd (Memᴰ.not-nil t)
  each_from n (suc m) k e h a (Memᴰ.head q) = subst P (sym q) (h k (omega arith))
  each_from n (suc m) k e h a (Memᴰ.tail t) = each_from n m (k + 1) (omega arith) h a t

  pub each-section : ((j : ℕ) → j < records_for (length ws) → P (piece_of kind ws j)) → All P (section kind ws)
  each-section h = each_from (records_for (length ws)) (records_for (length ws)) 0 (omega arith) h

-- ---- the kinds 1 to n

module _ (words : ℕ → List ℕ) where
  pub under_next : (n : ℕ) → Under (suc n) (sections_to n words)
  unfolding sections_to
  under_next zero a m = absurd (Memᴰ.not-nil m)
  under_next (suc n) a m = under-append (suc n) (suc n) (sections_to n words) (words (suc n)) refl (under_next n) a m

  pub sections-keyed : (n : ℕ) → Keyed (sections_to n words)
  unfolding sections_to
  sections-keyed zero = tt
  sections-keyed (suc n) = next-keyed (suc n) (suc n) (sections_to n words) (words (suc n)) refl (under_next n) (sections-keyed n)

  -- a kind's section is among them
  pub section-within : (n kind : ℕ) → 1 ≤ kind → kind ≤ n → (p : Piece) → Memᴰ p (section kind (words kind)) → Memᴰ p (sections_to n words)
  unfolding sections_to
  section-within zero kind h l p m = absurd (omega arith)
  section-within (suc n) kind h l p m = go (eqb kind (suc n)) refl (section-within n kind h)
    where
      below : (kind ≡ suc n → ⊥) → kind ≤ n
      below d = omega arith

      go : (b : Bool) → eqb kind (suc n) ≡ b → (kind ≤ n → (p : Piece) → Memᴰ p (section kind (words kind)) → Memᴰ p (sections_to n words)) → Memᴰ p (sections_to n words ++ section (suc n) (words (suc n)))
      go true q again = Memᴰ.append_right (sections_to n words) (subst (λ (k : ℕ). Memᴰ p (section k (words k))) (eqb-true kind (suc n) q) m)
      go false q again = Memᴰ.append_left (section (suc n) (words (suc n))) (again (below (eqb-false kind (suc n) q)) p m)

  -- what holds of each record of each section holds of all
  pub each-kind : (P : Piece → Type 0) (n : ℕ) → ((kind : ℕ) → 1 ≤ kind → kind ≤ n → All P (section kind (words kind))) → All P (sections_to n words)
  unfolding sections_to
  each-kind P zero h a m = absurd (Memᴰ.not-nil m)
  each-kind P (suc n) h a m = both (sections_to n words) (section (suc n) (words (suc n))) (each-kind P n (λ k x y. h k x (omega arith))) (h (suc n) (omega arith) (omega arith)) a m

  -- ---- their tables

  passed_over : (n kind : ℕ) (t : Table) → n < kind → laid_on kind t (sections_to n words) ≡ t
  unfolding sections_to laid_on
  passed_over zero kind t h = refl
  passed_over (suc n) kind t h =
      laid-append kind t (sections_to n words) (section (suc n) (words (suc n)))
      ∙ ap (λ (u : Table). laid_on kind u (section (suc n) (words (suc n)))) (passed_over n kind t (omega arith))
      ∙ pass kind (suc n) t (words (suc n)) (records_for (length (words (suc n)))) 0 (ne_eqb (suc n) kind (λ e. omega arith))

  pub table-of : (n kind : ℕ) → 1 ≤ kind → kind ≤ n → (few : length (words kind) ≤ 3600) → table_of kind (sections_to n words) ≡ full_table kind (words kind) few
  unfolding sections_to
  table-of zero kind h l few = absurd (omega arith)
  table-of (suc n) kind h l few = laid-append kind no_records (sections_to n words) (section (suc n) (words (suc n))) ∙ go (eqb kind (suc n)) refl (table-of n kind h)
    where
      below : (kind ≡ suc n → ⊥) → kind ≤ n
      below d = omega arith

      go : (b : Bool) → eqb kind (suc n) ≡ b → (kind ≤ n → (few : length (words kind) ≤ 3600) → table_of kind (sections_to n words) ≡ full_table kind (words kind) few)
          → laid_on kind (table_of kind (sections_to n words)) (section (suc n) (words (suc n))) ≡ full_table kind (words kind) few
      go true q again =
          let e = eqb-true kind (suc n) q in
          ap (λ (u : Table). laid_on kind u (section (suc n) (words (suc n)))) (passed_over n kind no_records (omega arith))
          ∙ ap (λ (k : ℕ). laid_on kind no_records (section k (words k))) (sym e)
          ∙ own-section kind (words kind) few
      go false q again =
          ap (λ (u : Table). laid_on kind u (section (suc n) (words (suc n)))) (again (below (eqb-false kind (suc n) q)) few)
          ∙ pass kind (suc n) (full_table kind (words kind) few) (words (suc n)) (records_for (length (words (suc n)))) 0 (ne_eqb (suc n) kind (λ e. eqb-false kind (suc n) q (sym e)))

  -- of records that are these, in any order
  pub tables-of : (n : ℕ) (rs : List Piece) → Permᴰ rs (sections_to n words) → (kind : ℕ) → 1 ≤ kind → kind ≤ n → (few : length (words kind) ≤ 3600) → table_of kind rs ≡ full_table kind (words kind) few
  tables-of n rs r kind h l few = same-table kind no_records r (sections-keyed n) ∙ table-of n kind h l few

  -- ---- THE TEST: `agrees` says that the records are those of these words, each once, in some order

  each_holds : (n : ℕ) (rs : List Piece) → hold_to n rs words ≡ true → (kind : ℕ) → 1 ≤ kind → kind ≤ n → holds (table_of kind rs) (words kind) ≡ true
  unfolding hold_to
  each_holds zero rs e kind h l = absurd (omega arith)
  each_holds (suc n) rs e kind h l = go (eqb kind (suc n)) refl (each_holds n rs r.0 kind h)
    where
      r : (hold_to n rs words ≡ true) × (holds (table_of (suc n) rs) (words (suc n)) ≡ true)
      r = and_parts (hold_to n rs words) (holds (table_of (suc n) rs) (words (suc n))) e

      below : (kind ≡ suc n → ⊥) → kind ≤ n
      below d = omega arith

      go : (b : Bool) → eqb kind (suc n) ≡ b → (kind ≤ n → holds (table_of kind rs) (words kind) ≡ true) → holds (table_of kind rs) (words kind) ≡ true
      go true q again = subst (λ (k : ℕ). holds (table_of k rs) (words k) ≡ true) (sym (eqb-true kind (suc n) q)) r.1
      go false q again = again (below (eqb-false kind (suc n) q))

  all_hold : (n : ℕ) (rs : List Piece) → ((kind : ℕ) → 1 ≤ kind → kind ≤ n → holds (table_of kind rs) (words kind) ≡ true) → hold_to n rs words ≡ true
  unfolding hold_to
  all_hold zero rs h = refl
  all_hold (suc n) rs h = and-true (all_hold n rs (λ k a b. h k a (omega arith))) (h (suc n) (omega arith) (omega arith))

  module _ (n : ℕ) (rs : List Piece) where
    pub agrees-perm : agrees n rs words ≡ true → Permᴰ rs (sections_to n words)
    unfolding agrees
    agrees-perm e =
        let r = and_parts (hold_to n rs words) (eqb (length rs) (length (sections_to n words))) e in
        perm-of (sections_to n words) rs (sections-keyed n) (each-kind (λ (p : Piece). Memᴰ p rs) n (λ k a b. section-in k (words k) rs (each_holds n rs r.0 k a b)))
        (eqb-true (length rs) (length (sections_to n words)) r.1)

    pub agrees-exactly : ((kind : ℕ) → length (words kind) ≤ 3600) → (agrees n rs words ≡ true) ↔ Permᴰ rs (sections_to n words)
    unfolding agrees
    agrees-exactly few = (
      agrees-perm,
      λ r. and-true
          (all_hold n rs (λ k a b. ap (λ (t : Table). holds t (words k)) (tables-of n rs r k a b (few k)) ∙ holds-own k (words k) (few k)))
          (eq-eqb (length rs) (length (sections_to n words)) (same_length r)),
    )

  -- ---- where a record stands among them

  -- its kind is one of these, its position one of its section's, its words are those of its place, and the section's other records are there too
  pub record Stands (n : ℕ) (p : Piece) : Type 0 where
    pub known : (1 ≤ p.kind) × (p.kind ≤ n)
    pub within : p.position < records_for (length (words p.kind))
    pub is : p ≡ piece_of p.kind (words p.kind) p.position
    pub others : (k : ℕ) → k < records_for (length (words p.kind)) → Memᴰ (piece_of p.kind (words p.kind) k) (sections_to n words)

  pub stands : (n : ℕ) → All (Stands n) (sections_to n words)
  stands n =
      each-kind (Stands n) n (λ kind a b. each-section (Stands n) kind (words kind)
      (λ j h. record { known = (a, b); within = h; is = refl; others = λ k l. section-within n kind a b _ (section-mem kind (words kind) k l) }))

  -- ---- numbers that fit their bytes

  pub sections-fit : (n : ℕ) → n < 256 ^ 2 → ((kind : ℕ) → length (words kind) ≤ 3600) → ((kind : ℕ) → 1 ≤ kind → kind ≤ n → Small (words kind)) → All Fit (sections_to n words)
  sections-fit n l few small =
      each-kind Fit n (λ kind a b. pieces-fit kind (words kind) (records_for (length (words kind))) 0 (omega arith) (let f = few kind in omega arith) (small kind a b))

-- ---- no position twice

pub once : (rs : List Piece) → Keyed rs → (i j : ℕ) (p q : Piece) → slice_get rs i ≡ Some p → slice_get rs j ≡ Some q → p.kind ≡ q.kind → p.position ≡ q.position → i ≡ j
once [] k i j p q a b e d = let z : ◌≡◌ {A = ℕ} 0 1 = cc in absurd (omega arith)
once (r ∷ rs) k zero zero p q a b e d = refl
once (r ∷ rs) k zero (suc j) p q a b e d = absurd (clash (let x : r ≡ p = cc in x) (at_mem rs j q b))
  where
    at_mem : (rs : List Piece) (j : ℕ) (q : Piece) → slice_get rs j ≡ Some q → Memᴰ q rs
    at_mem [] j q b = let z : ◌≡◌ {A = ℕ} 0 1 = cc in absurd (omega arith)
    at_mem (r ∷ rs) zero q b = Memᴰ.head (let x : q ≡ r = cc in x)
    at_mem (r ∷ rs) (suc j) q b = Memᴰ.tail (at_mem rs j q b)

    clash : r ≡ p → Memᴰ q rs → ⊥
    clash x m = k.0 q m (ap (λ (y : Piece). y.kind) x ∙ e) (ap (λ (y : Piece). y.position) x ∙ d)
once (r ∷ rs) k (suc i) zero p q a b e d = absurd (clash (let x : r ≡ q = cc in x) (at_mem rs i p a))
  where
    at_mem : (rs : List Piece) (j : ℕ) (q : Piece) → slice_get rs j ≡ Some q → Memᴰ q rs
    at_mem [] j q b = let z : ◌≡◌ {A = ℕ} 0 1 = cc in absurd (omega arith)
    at_mem (r ∷ rs) zero q b = Memᴰ.head (let x : q ≡ r = cc in x)
    at_mem (r ∷ rs) (suc j) q b = Memᴰ.tail (at_mem rs j q b)

    clash : r ≡ q → Memᴰ p rs → ⊥
    clash x m = k.0 p m (ap (λ (y : Piece). y.kind) x ∙ sym e) (ap (λ (y : Piece). y.position) x ∙ sym d)
once (r ∷ rs) k (suc i) (suc j) p q a b e d = ap suc (once rs k.1 i j p q a b e d)
