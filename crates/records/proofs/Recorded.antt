-- The writer's loops: a record's bytes, and the records of a kind.
use Prim.Native.Nat.{ℕ, zero, suc, ◌+◌, ◌*◌, ◌-◌, ◌≤◌, ◌<◌}
use native.Mathlib.Numerals.{add-one}
use native.Mathlib.Omega.{arith}
use mathlib.Core.Bool.{cond}
use mathlib.Core.List.{List, [], ◌∷◌, ◌++◌, append_assoc, append-nil}
use mathlib.Core.Path.{◌≡◌, refl, sym, ap, ◌∙◌}
use lib.Dec.{eqb}
use lib.ListN.{length, length-append}
use lib.Seq.{paste}
use Rattle.rng_util.specs.Many.{pad_to}
use Rattle.records.specs.Bytes.{bytes_of}
use Rattle.records.specs.declared.Piece.{Piece}
use Rattle.records.specs.Chain.{record_bytes, records_from}
use Rattle.records.specs.Tables.{piece_of, pieces_from}
use Rattle.records.proofs.Pasted.{paste_more}
use Rattle.records.proofs.Reading.{bytes-length}
use Rattle.records.proofs.Tabled.{get_or-pad}
use Rattle.records.proofs.Written.{record-length, records-length}

-- ---- a record: six numbers, one after another

module _ (f : List ℕ) (at next : ℕ) (p : Piece) (h : at + 32 ≤ length f) where
  abbrev whole : List ℕ
  whole = record_bytes next p

  pub six : (f1 f2 f3 f4 f5 f6 : List ℕ)
      → f1 ≡ paste f at (bytes_of 2 next) 2
      → f2 ≡ paste f1 (at + 2) (bytes_of 2 p.kind) 2
      → f3 ≡ paste f2 (at + 4) (bytes_of 4 p.position) 4
      → f4 ≡ paste f3 (at + 8) (bytes_of 8 p.first) 8
      → f5 ≡ paste f4 (at + 16) (bytes_of 8 p.second) 8
      → f6 ≡ paste f5 (at + 24) (bytes_of 8 p.third) 8
      → f6 ≡ paste f at whole 32
  six f1 f2 f3 f4 f5 f6 e1 e2 e3 e4 e5 e6 =
      let s1 = bytes_of 2 next in
      let s2 = s1 ++ bytes_of 2 p.kind in
      let s3 = s2 ++ bytes_of 4 p.position in
      let s4 = s3 ++ bytes_of 8 p.first in
      let s5 = s4 ++ bytes_of 8 p.second in
      let l : at ≤ length f = omega arith in
      let l1 : length s1 ≡ 2 = bytes-length 2 next in
      let l2 : length s2 ≡ 4 = length-append s1 (bytes_of 2 p.kind) ∙ (λ i. l1 i + bytes-length 2 p.kind i) in
      let l3 : length s3 ≡ 8 = length-append s2 (bytes_of 4 p.position) ∙ (λ i. l2 i + bytes-length 4 p.position i) in
      let l4 : length s4 ≡ 16 = length-append s3 (bytes_of 8 p.first) ∙ (λ i. l3 i + bytes-length 8 p.first i) in
      let l5 : length s5 ≡ 24 = length-append s4 (bytes_of 8 p.second) ∙ (λ i. l4 i + bytes-length 8 p.second i) in
      let p2 : f2 ≡ paste f at s2 4 = paste_more f f1 f2 s1 (bytes_of 2 p.kind) at (at + 2) 2 2 4 l l1 (bytes-length 2 p.kind) refl refl e1 e2 in
      let p3 : f3 ≡ paste f at s3 8 = paste_more f f2 f3 s2 (bytes_of 4 p.position) at (at + 4) 4 4 8 l l2 (bytes-length 4 p.position) refl refl p2 e3 in
      let p4 : f4 ≡ paste f at s4 16 = paste_more f f3 f4 s3 (bytes_of 8 p.first) at (at + 8) 8 8 16 l l3 (bytes-length 8 p.first) refl refl p3 e4 in
      let p5 : f5 ≡ paste f at s5 24 = paste_more f f4 f5 s4 (bytes_of 8 p.second) at (at + 16) 16 8 24 l l4 (bytes-length 8 p.second) refl refl p4 e5 in
      paste_more f f5 f6 s5 (bytes_of 8 p.third) at (at + 24) 24 8 32 l l5 (bytes-length 8 p.third) refl refl p5 e6

-- ---- the records of a kind

pieces_more : (kind : ℕ) (ws : List ℕ) (m k : ℕ) → pieces_from kind ws (suc m) k ≡ pieces_from kind ws m k ++ (piece_of kind ws (k + m) ∷ [])
unfolding pieces_from
pieces_more kind ws zero k = let e : k ≡ k + 0 = omega arith in ap (λ (j : ℕ). piece_of kind ws j ∷ []) e
pieces_more kind ws (suc m) k =
    let e : k + 1 + m ≡ k + suc m = omega arith in
    λ i. piece_of kind ws k ∷ (pieces_more kind ws m (k + 1) ∙ ap (λ (j : ℕ). pieces_from kind ws m (k + 1) ++ (piece_of kind ws j ∷ [])) e) i

pub records-append : (count k : ℕ) (ps qs : List Piece) → records_from count k (ps ++ qs) ≡ records_from count k ps ++ records_from count (k + length ps) qs
unfolding records_from
records-append count k [] qs = let e : k ≡ k + 0 = omega arith in ap (λ (j : ℕ). records_from count j qs) e
records-append count k (p ∷ ps) qs =
    let r = record_bytes (cond (eqb (k + 1) count) 0 (k + 1)) p in
    let e : k + 1 + length ps ≡ k + suc (length ps) = omega arith in
    ap (λ (l : List ℕ). r ++ l) (records-append count (k + 1) ps qs ∙ ap (λ (j : ℕ). records_from count (k + 1) ps ++ records_from count j qs) e)
    ∙ sym (append_assoc r (records_from count (k + 1) ps) (records_from count (k + suc (length ps)) qs))

pub pieces-length : (kind : ℕ) (ws : List ℕ) (m k : ℕ) → length (pieces_from kind ws m k) ≡ m
unfolding pieces_from
pieces-length kind ws zero k = refl
pieces-length kind ws (suc m) k = ap suc (pieces-length kind ws m (k + 1))

abbrev pub next_of : ℕ → ℕ → ℕ
next_of count after = cond (eqb after count) 0 after

-- the bytes of a kind's first j records, the first one with index k
abbrev pub bytes_to : ℕ → ℕ → ℕ → List ℕ → ℕ → List ℕ
bytes_to count k kind ws j = records_from count k (pieces_from kind ws j 0)

pub bytes-to-length : (count k kind : ℕ) (ws : List ℕ) (j : ℕ) → length (bytes_to count k kind ws j) ≡ 32 * j
bytes-to-length count k kind ws j = records-length count k (pieces_from kind ws j 0) ∙ ap (λ (n : ℕ). 32 * n) (pieces-length kind ws j 0)

bytes-more : (count k kind : ℕ) (ws : List ℕ) (j : ℕ) → bytes_to count k kind ws (j + 1) ≡ bytes_to count k kind ws j ++ record_bytes (next_of count (k + j + 1)) (piece_of kind ws j)
unfolding records_from
bytes-more count k kind ws j =
    let e : 0 + j ≡ j = omega arith in
    ap (λ (n : ℕ). bytes_to count k kind ws n) (add-one j)
    ∙ ap (records_from count k) (pieces_more kind ws j 0 ∙ ap (λ (n : ℕ). pieces_from kind ws j 0 ++ (piece_of kind ws n ∷ [])) e)
    ∙ records-append count k (pieces_from kind ws j 0) (piece_of kind ws j ∷ [])
    ∙ ap (λ (n : ℕ). bytes_to count k kind ws j ++ (record_bytes (next_of count (k + n + 1)) (piece_of kind ws j) ++ [])) (pieces-length kind ws j 0)
    ∙ ap (λ (l : List ℕ). bytes_to count k kind ws j ++ l) (append-nil (record_bytes (next_of count (k + j + 1)) (piece_of kind ws j)))

module _ (f : List ℕ) (count k kind : ℕ) (ws : List ℕ) where
  pub put-more : (g g' : List ℕ) (j m next : ℕ) → j < m → 32 * (k + m) ≤ length f → g ≡ paste f (32 * k) (bytes_to count k kind ws j) (32 * j) → next ≡ next_of count (k + j + 1)
      → g' ≡ paste g (32 * (k + j)) (record_bytes next (piece_of kind ws j)) 32 → g' ≡ paste f (32 * k) (bytes_to count k kind ws (j + 1)) (32 * (j + 1))
  put-more g g' j m next l h e q p =
      let r = record_bytes (next_of count (k + j + 1)) (piece_of kind ws j) in
      paste_more f g g' (bytes_to count k kind ws j) r (32 * k) (32 * (k + j)) (32 * j) 32 (32 * (j + 1)) (omega arith) (bytes-to-length count k kind ws j)
      (record-length (next_of count (k + j + 1)) (piece_of kind ws j)) (omega arith) (omega arith) e (p ∙ ap (λ (n : ℕ). paste g (32 * (k + j)) (record_bytes n (piece_of kind ws j)) 32) q)
      ∙ ap (λ (l : List ℕ). paste f (32 * k) l (32 * (j + 1))) (sym (bytes-more count k kind ws j))

-- zeros after a section's words make no difference
pub pieces-padded : (kind N : ℕ) (ws : List ℕ) (m k : ℕ) → pieces_from kind (pad_to N 0 ws) m k ≡ pieces_from kind ws m k
unfolding pieces_from
pieces-padded kind N ws zero k = refl
pieces-padded kind N ws (suc m) k =
    let z = N - length ws in
    λ i. record { kind = kind; position = k; first = get_or-pad ws z (3 * k) i; second = get_or-pad ws z (3 * k + 1) i; third = get_or-pad ws z (3 * k + 2) i } ∷ pieces-padded kind N ws m (k + 1) i
