-- The tables of a section's own records: its words, with zeros after them, and as many positions filled as it has records.
use Prim.Native.Nat.{ℕ, zero, suc, ◌+◌, ◌*◌, ◌-◌, ◌≤◌, ◌<◌}
use native.Mathlib.Numerals.{add-one}
use native.Mathlib.Omega.{arith}
use mathlib.Core.Bool.{Bool, true, false, ◌&&◌, cond}
use mathlib.Core.List.{List, [], ◌∷◌, ◌++◌}
use mathlib.Core.Path.{◌≡◌, refl, sym, ap, ◌∙◌}
use borrow.Author.Tests.{lt-ltb, eq-eqb}
use lib.Dec.{ltb, eqb}
use lib.ListN.{length, take, drop, get_or, set, replicate, length-replicate}
use lib.Seq.{take-suc, length-take-le}
use Rattle.rng_util.specs.Many.{pad_to}
use Rattle.rng_util.proofs.Parts.{pad-put, pad-length}
use Rattle.state.proofs.Flags.{and-true}
use Rattle.state.proofs.Tidy.{padded}
use Rattle.records.specs.declared.Piece.{Piece}
use Rattle.records.specs.Tables.{no_records, laid_at, lay, laid_on, same_words, same_flags, holds, records_for, piece_of, pieces_from, section}
use Rattle.records.specs.declared.Table.{Table}

get_or-zeros : (m i : ℕ) → ◌≡◌ {A = ℕ} (get_or (replicate m 0) i 0) 0
get_or-zeros zero i = refl
get_or-zeros (suc m) zero = refl
get_or-zeros (suc m) (suc i) = get_or-zeros m i

pub get_or-pad : (ws : List ℕ) (m i : ℕ) → get_or (ws ++ replicate m 0) i 0 ≡ get_or ws i 0
get_or-pad [] m i = get_or-zeros m i
get_or-pad (w ∷ ws) m zero = refl
get_or-pad (w ∷ ws) m (suc i) = get_or-pad ws m i

drop-same : {A : Type 0} (b : A) (m n : ℕ) → drop n (replicate m b) ≡ replicate (length (drop n (replicate m b))) b
drop-same b zero zero = refl
drop-same b zero (suc n) = refl
drop-same b (suc m) zero = λ i. b ∷ drop-same b m zero i
drop-same b (suc m) (suc n) = drop-same b m n

drop-pad : {A : Type 0} (b : A) (xs : List A) (m n : ℕ) → length xs ≤ n → drop n (xs ++ replicate m b) ≡ replicate (length (drop n (xs ++ replicate m b))) b
drop-pad b [] m n h = drop-same b m n
drop-pad b (x ∷ xs) m zero h = absurd (omega arith)
drop-pad b (x ∷ xs) m (suc n) h = drop-pad b xs m n (omega arith)

same_more : (k : ℕ) → replicate k true ++ (true ∷ []) ≡ replicate (suc k) true
same_more zero = refl
same_more (suc k) = λ i. true ∷ same_more k i

-- ---- one kind

module _ (kind : ℕ) (ws : List ℕ) (few : length ws ≤ 3600) where
  abbrev full : List ℕ
  full = pad_to 3600 0 ws

  -- the first k records are laid
  abbrev sofar : ℕ → Table
  sofar k = record { words = pad_to 3600 0 (take (3 * k) full); filled = pad_to 1200 false (replicate k true) }

  full-length : length full ≡ 3600
  full-length = pad-length 3600 0 ws few

  one_word : (n m : ℕ) → n < 3600 → m ≡ n + 1 → set (pad_to 3600 0 (take n full)) n (get_or ws n 0) ≡ pad_to 3600 0 (take m full)
  one_word n m h e =
      let l : length (take n full) ≡ n = length-take-le n full (omega (arith, full-length)) in
      ap (λ (j : ℕ). set (pad_to 3600 0 (take n full)) j (get_or ws n 0)) (sym l)
      ∙ pad-put 3600 0 (get_or ws n 0) (take n full) (omega (arith, l))
      ∙ ap (λ (x : ℕ). pad_to 3600 0 (take n full ++ (x ∷ []))) (sym (get_or-pad ws (3600 - length ws) n))
      ∙ ap (pad_to 3600 0) (sym (take-suc full n 0 (omega (arith, full-length))))
      ∙ ap (λ (j : ℕ). pad_to 3600 0 (take j full)) (sym (e ∙ add-one n))

  one-flag : (k : ℕ) → k < 1200 → set (pad_to 1200 false (replicate k true)) k true ≡ pad_to 1200 false (replicate (k + 1) true)
  one-flag k h =
      ap (λ (j : ℕ). set (pad_to 1200 false (replicate k true)) j true) (sym (length-replicate k true))
      ∙ pad-put 1200 false true (replicate k true) (omega (arith, length-replicate k true))
      ∙ ap (pad_to 1200 false) (same_more k ∙ ap (λ (j : ℕ). replicate j true) (sym (add-one k)))

  one-record : (k : ℕ) → k < 1200 → laid_at (sofar k) (piece_of kind ws k) ≡ sofar (k + 1)
  one-record k h =
      let a = one_word (3 * k) (3 * k + 1) (omega arith) refl in
      let b = one_word (3 * k + 1) (3 * k + 2) (omega arith) (omega arith) in
      let c = one_word (3 * k + 2) (3 * (k + 1)) (omega arith) (omega arith) in
      λ i. record {
        words = (ap (λ (l : List ℕ). set (set l (3 * k + 1) (get_or ws (3 * k + 1) 0)) (3 * k + 2) (get_or ws (3 * k + 2) 0)) a ∙ ap (λ (l : List ℕ). set l (3 * k + 2) (get_or ws (3 * k + 2) 0)) b ∙ c) i;
        filled = one-flag k h i;
      }

  one-lay : (k : ℕ) → k < 1200 → lay kind (sofar k) (piece_of kind ws k) ≡ sofar (k + 1)
  one-lay k h =
      ap (λ (b : Bool). cond (b && ltb k 1200) (laid_at (sofar k) (piece_of kind ws k)) (sofar k)) (eq-eqb kind kind refl)
      ∙ ap (λ (b : Bool). cond b (laid_at (sofar k) (piece_of kind ws k)) (sofar k)) (lt-ltb k 1200 h)
      ∙ one-record k h

  own : (m k n : ℕ) → n ≡ k + m → n ≤ 1200 → laid_on kind (sofar k) (pieces_from kind ws m k) ≡ sofar n
  unfolding laid_on pieces_from
  own zero k n e h = let q : k ≡ n = omega arith in ap sofar q
  own (suc m) k n e h =
      ap (λ (t : Table). laid_on kind t (pieces_from kind ws m (k + 1))) (one-lay k (omega arith)) ∙ own m (k + 1) n (omega arith) h

  -- the whole section
  abbrev pub full_table : Table
  full_table = record { words = pad_to 3600 0 ws; filled = pad_to 1200 false (replicate (records_for (length ws)) true) }

  pub own-section : laid_on kind no_records (section kind ws) ≡ full_table
  unfolding no_records
  own-section =
      own (records_for (length ws)) 0 (records_for (length ws)) (omega arith) (omega arith)
      ∙ (λ i. record {
        words = padded 0 (3 * records_for (length ws)) 3600 full full-length (omega arith) (drop-pad 0 ws (3600 - length ws) (3 * records_for (length ws)) (omega arith)) i;
        filled = pad_to 1200 false (replicate (records_for (length ws)) true);
      })

-- ---- another kind's records

pub pass : (kind other : ℕ) (t : Table) (ws : List ℕ) (m k : ℕ) → eqb other kind ≡ false → laid_on kind t (pieces_from other ws m k) ≡ t
unfolding laid_on pieces_from
pass kind other t ws zero k e = refl
pass kind other t ws (suc m) k e =
    ap (λ (b : Bool). laid_on kind (cond (b && ltb k 1200) (laid_at t (piece_of other ws k)) t) (pieces_from other ws m (k + 1))) e ∙ pass kind other t ws m (k + 1) e

pub laid-append : (kind : ℕ) (t : Table) (ps qs : List Piece) → laid_on kind t (ps ++ qs) ≡ laid_on kind (laid_on kind t ps) qs
unfolding laid_on
laid-append kind t [] qs = refl
laid-append kind t (p ∷ ps) qs = laid-append kind (lay kind t p) ps qs

-- ---- it holds its own words

same-words : (ws : List ℕ) → same_words ws ws ≡ true
unfolding same_words
same-words [] = refl
same-words (w ∷ ws) = and-true (eq-eqb w w refl) (same-words ws)

same-flags : (ws : List Bool) → same_flags ws ws ≡ true
unfolding same_flags
same-flags [] = refl
same-flags (true ∷ ws) = same-flags ws
same-flags (false ∷ ws) = same-flags ws

pub holds-own : (kind : ℕ) (ws : List ℕ) (few : length ws ≤ 3600) → holds (full_table kind ws few) ws ≡ true
unfolding holds
holds-own kind ws few = and-true (same-words (pad_to 3600 0 ws)) (same-flags (pad_to 1200 false (replicate (records_for (length ws)) true)))
