-- What `save` and `restore` do, case by case.
use Rattle.std.specs.Prelude.{Option, Some, None, Result, Ok, Err}
use Prim.Native.Nat.{ℕ, zero, suc, ◌*◌, ◌%◌, ◌≤◌, ◌<◌}
use native.Mathlib.Omega.{arith}
use mathlib.Core.Path.{◌≡◌, refl, sym, ap, ◌∙◌, subst}
use mathlib.Core.Bool.{true, cond, Bool, false, ◌&&◌, ◌||◌}
use mathlib.Core.List.{List, ◌++◌, map}
use borrow.Author.Tests.{eq-eqb, ne_eqb, le-leb, lt-leb, lt-ltb, le-ltb}
use Rattle.std.proofs.Math.Bool.{and-false}
use Rattle.std.specs.List.{list_all, zip}
use lib.Dec.{eqb, leb, ltb}
use lib.ListN.{length, drop}
use Rattle.state.specs.Sound.{sound_state}
use Rattle.state.specs.declared.State.{State}
use Rattle.records.specs.Tables.{hold_to, agrees, table_of, holds}
use Rattle.records.specs.declared.Piece.{Piece}
use Rattle.records.specs.Chain.{misfits, next_at, chain_of, chain_length, walk, Walks}
use Rattle.records.specs.declared.Table.{Table}
use Rattle.records.proofs.Written.{records-length}
use Rattle.records.proofs.Exact.{chain-walk}
use Rattle.kinds.specs.Kinds.{has_place, kind_number, kind_words}
use Rattle.kinds.specs.Opened.{state_of}
use Rattle.kinds.specs.declared.kind.Kind.{Kind}
use Rattle.saved.specs.File.{pieces_of, file_of}
use Rattle.saved.specs.Restore.{state_on, content_of, chained, state_read}
use Rattle.saved.specs.Save.{is_savable, save_of, saved_in}
use Rattle.saved.specs.declared.FileRefusal.TheVariants.{BadFile, BadContent}
use Rattle.saved.specs.declared.FileRefusal.{FileRefusal}
use Rattle.saved.proofs.Wrote.{all_kinds}

-- ---- the writer

module _ (s : State) (f : List ℕ) where
  abbrev Saved : Result ℕ FileRefusal → List ℕ → Type 0
  Saved r g = (r ≡ save_of s (length f)) × (g ≡ saved_in s f)

  -- neither a state that is not sound nor one with no place is written
  pub unsound : sound_state s ≡ false → is_savable s ≡ false
  unsound e = ap (λ (b : Bool). b && has_place s) e

  pub no-place : has_place s ≡ false → is_savable s ≡ false
  no-place e = ap (λ (b : Bool). sound_state s && b) e ∙ and-false (sound_state s)

  pub not-savable : is_savable s ≡ false → Saved (Err BadContent) f
  unfolding save_of saved_in
  not-savable e = (
    sym (ap (λ (b : Bool). cond b (cond (ltb (length f) (length (file_of s))) (Err BadFile) (Ok (length (file_of s)))) (Err BadContent)) e),
    sym (ap (λ (b : Bool). cond (b && leb (length (file_of s)) (length f)) (file_of s ++ drop (length (file_of s)) f) f) e),
  )

  module _ (e : is_savable s ≡ true) (count : ℕ) (c : count ≡ length (pieces_of s)) where
    file-length : 32 * count ≡ length (file_of s)
    unfolding file_of
    file-length = ap (λ (n : ℕ). 32 * n) c ∙ sym (records-length (length (pieces_of s)) 0 (pieces_of s))

    pub too_short : length f < 32 * count → Saved (Err BadFile) f
    unfolding save_of saved_in
    too_short h =
        let l : length f < length (file_of s) = subst (λ (n : ℕ). length f < n) file-length h in (
          sym ((λ i. cond (e i) (cond (lt-ltb (length f) (length (file_of s)) l i) (Err BadFile) (Ok (length (file_of s)))) (Err BadContent))),
          sym ((λ i. cond (e i && lt-leb (length (file_of s)) (length f) l i) (file_of s ++ drop (length (file_of s)) f) f)),
        )

    pub all-written : 32 * count ≤ length f → (g : List ℕ) → g ≡ file_of s ++ drop (length (file_of s)) f → Saved (Ok (32 * count)) g
    unfolding save_of saved_in
    all-written h g q =
        let l : length (file_of s) ≤ length f = subst (λ (n : ℕ). n ≤ length f) file-length h in (
          ap Ok file-length ∙ sym ((λ i. cond (e i) (cond (le-ltb (length f) (length (file_of s)) l i) (Err BadFile) (Ok (length (file_of s)))) (Err BadContent))),
          q ∙ sym ((λ i. cond (e i && le-leb (length (file_of s)) (length f) l i) (file_of s ++ drop (length (file_of s)) f) f)),
        )

-- ---- the reader: what the chain holds

pub walk-length : (f : List ℕ) (n k : ℕ) → length (walk f n k) ≡ n
unfolding walk
walk-length f zero k = refl
walk-length f (suc n) k = ap suc (walk-length f n (next_at f k))

-- the tables, in the order of their kinds, and whether each holds a state's words of its kind
abbrev pub tables : List Piece → List Table
tables rs = map (λ (kind : Kind). table_of (kind_number kind) rs) all_kinds

abbrev pub all_hold : List Table → State → Bool
all_hold ts s = list_all (λ (p : Kind × Table). holds p.1 (kind_words s (kind_number p.0))) (zip all_kinds ts)

hold-all : (rs : List Piece) (s : State) → all_hold (tables rs) s ≡ hold_to 6 rs (kind_words s)
unfolding hold_to
hold-all rs s = go (at 1) (at 2) (at 3) (at 4) (at 5) (at 6)
  where
    at : ℕ → Bool
    at kind = holds (table_of kind rs) (kind_words s kind)

    go : (a b c d e f : Bool) → (a && (b && (c && (d && (e && (f && true)))))) ≡ (a && b && c && d && e && f)
    go false b c d e f = refl
    go true false c d e f = refl
    go true true false d e f = refl
    go true true true false e f = refl
    go true true true true false f = refl
    go true true true true true false = refl
    go true true true true true true = refl

module _ (rs : List Piece) (ts : List Table) (t : ts ≡ tables rs) (s : State) (e : s ≡ state_of ts) where
  state-is : s ≡ state_on rs
  state-is = e ∙ ap state_of t

  pub content_is : (sound agree : Bool) → sound_state s ≡ sound → agrees 6 rs (kind_words s) ≡ agree → cond (sound && agree) (Ok s) (Err BadContent) ≡ content_of rs
  unfolding content_of
  content_is x y p q =
      sym ((λ i. cond (sound_state (sym state-is i) && agrees 6 rs (kind_words (sym state-is i))) (Ok (sym state-is i)) (Err BadContent))
      ∙ (λ i. cond (p i && q i) (Ok s) (Err BadContent)))

  -- so many records, and what the tables hold
  pub judged : (count total : ℕ) → count ≡ length rs → total ≡ length (pieces_of s) → (x y : Bool) → all_hold ts s ≡ x → eqb count total ≡ y → sound_state s ≡ true
      → cond (x && y) (Ok s) (Err BadContent) ≡ content_of rs
  unfolding agrees pieces_of
  judged count total q r x y h k p =
      content_is true (x && y) p (sym (λ i. (ap (λ (u : List Table). all_hold u s) t ∙ hold-all rs s) i && eqb (q i) (r i)) ∙ (λ i. h i && k i))

  -- too many or too few, whatever the tables hold
  pub other-count : (count total : ℕ) → count ≡ length rs → total ≡ length (pieces_of s) → (count ≡ total → ⊥) → sound_state s ≡ true → Err BadContent ≡ content_of rs
  other-count count total q r d p = go (all_hold ts s) refl
    where
      go : (x : Bool) → all_hold ts s ≡ x → Err BadContent ≡ content_of rs
      go true h = judged count total q r true false h (ne_eqb count total d) p
      go false h = judged count total q r false false h (ne_eqb count total d) p

-- ---- the reader: the file

module _ (f : List ℕ) where
  by_length : (x : Bool) → misfits f ≡ x → cond x (Err BadFile) (chained (chain_of f)) ≡ state_read f
  unfolding state_read
  by_length x e = sym (ap (λ (b : Bool). cond b (Err BadFile) (chained (chain_of f))) e)

  pub is-empty : length f ≡ 0 → Err BadFile ≡ state_read f
  is-empty e = by_length true (ap (λ (b : Bool). b || leb 1 (length f % 32)) (eq-eqb (length f) 0 e))

  pub is_odd : (length f ≡ 0 → ⊥) → (length f % 32 ≡ 0 → ⊥) → Err BadFile ≡ state_read f
  is_odd z e = by_length true (λ i. ne_eqb (length f) 0 z i || le-leb 1 (length f % 32) (more (length f % 32) e) i)
    where
      more : (n : ℕ) → (n ≡ 0 → ⊥) → 1 ≤ n
      more n h = omega arith

  module _ (z : length f ≡ 0 → ⊥) (e : length f % 32 ≡ 0) where
    fits : chained (chain_of f) ≡ state_read f
    fits = by_length false (λ i. ne_eqb (length f) 0 z i || lt-leb 1 (length f % 32) (less (length f % 32) e) i)
      where
        less : (n : ℕ) → n ≡ 0 → n < 1
        less n h = omega arith

    pub no-chain : None ≡ chain_length (chain_of f) → Err BadFile ≡ state_read f
    no-chain h = go (chain_of f) h fits
      where
        go : (o : Option (List Piece)) → None ≡ chain_length o → chained o ≡ state_read f → Err BadFile ≡ state_read f
        go None l q = q
        go (Some ps) l q = let z : ◌≡◌ {A = ℕ} 0 1 = cc in absurd (omega arith)

    some_chain : (count : ℕ) (o : Option (List Piece)) → chain_of f ≡ o → Some count ≡ chain_length o → Walks f count 0 × (content_of (walk f count 0) ≡ chained o)
    some_chain count None q l = let z : ◌≡◌ {A = ℕ} 0 1 = cc in absurd (omega arith)
    some_chain count (Some ps) q l =
        let w = chain-walk f ps q in
        let n : count ≡ length ps = cc in
        (subst (λ (m : ℕ). Walks f m 0) (sym n) w.0, ap (λ (m : ℕ). content_of (walk f m 0)) n ∙ ap content_of (sym w.1))

    pub walks : (count : ℕ) → Some count ≡ chain_length (chain_of f) → Walks f count 0
    walks count h = (some_chain count (chain_of f) refl h).0

    pub chain-read : (count : ℕ) → Some count ≡ chain_length (chain_of f) → (r : Result State FileRefusal) → r ≡ content_of (walk f count 0) → r ≡ state_read f
    chain-read count h r q = q ∙ (some_chain count (chain_of f) refl h).1 ∙ fits

pub ruleset reads = (is-empty, is_odd, no-chain, walks, chain-read)
