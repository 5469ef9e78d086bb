-- What the writer writes is read back: the numbers, the records, the chain.
use Rattle.std.specs.Prelude.{Some}
use Prim.Native.Nat.{ℕ, zero, suc, ◌+◌, ◌*◌, ◌/◌, ◌^◌, ◌≤◌, ◌<◌}
use native.Mathlib.Nat.{not-suc-le-zero, le_of_suc-le-suc, le_refl}
use native.Mathlib.Numerals.{unary_clauses}
use native.Mathlib.Omega.{arith}
use mathlib.Core.Bool.{Bool, cond}
use mathlib.Core.List.Memᴰ
use mathlib.Core.List.{List, [], ◌∷◌, ◌++◌, append_assoc}
use mathlib.Core.Path.{◌≡◌, refl, sym, ap, ◌∙◌, subst}
use borrow.Author.Tests.{lt-leb, ne_eqb, eq-eqb}
use lib.Dec.{eqb}
use lib.ListN.{length, take, drop, length-append}
use lib.Seq.{take_at, drop_at}
use Rattle.ledger.specs.Words.{All}
use Rattle.records.specs.Bytes.{bytes_of, number, field}
use Rattle.records.proofs.Reading.{bytes-length}
use Rattle.records.specs.declared.Piece.{Piece}
use Rattle.records.specs.Chain.{record_bytes, records_from, next_at, piece_at, record_count, linked, chain_from, chain_of, file_of_pieces}

-- ---- numbers

pub bytes_back : (w v : ℕ) → v < 256 ^ w → number (bytes_of w v) ≡ v
unfolding bytes_of number
bytes_back zero v h = omega arith
bytes_back (suc w) v h =
    let l : v < 256 ^ w * 256 = subst (λ (n : ℕ). v < n) (pow-suc w) h in
    let q : v / 256 < 256 ^ w = omega (arith, l) in
    omega (arith, bytes_back w (v / 256) q)
  where
    pow-suc : (w : ℕ) → 256 ^ suc w ≡ 256 ^ w * 256
    pow-suc w = simp unary_clauses (omega arith)

-- a number of w bytes that stands after `before`
pub field_at : (before after : List ℕ) (at w v : ℕ) → length before ≡ at → v < 256 ^ w → field (before ++ (bytes_of w v ++ after)) at w ≡ v
field_at before after at w v e h =
    ap (λ (l : List ℕ). number (take w l)) (drop_at before (bytes_of w v ++ after) at e)
    ∙ ap number (take_at (bytes_of w v) after w (bytes-length w v))
    ∙ bytes_back w v h

-- ---- a record

pub record Fit (p : Piece) : Type 0 where
  pub kind : p.kind < 256 ^ 2
  pub position : p.position < 256 ^ 4
  pub first : p.first < 256 ^ 8
  pub second : p.second < 256 ^ 8
  pub third : p.third < 256 ^ 8

-- the record at index k of a file, whose bytes stand after `before`
module _ (before after : List ℕ) (k next : ℕ) (p : Piece) (e : length before ≡ 32 * k) (n : next < 256 ^ 2) (v : Fit p) where
  abbrev whole : List ℕ
  whole = before ++ (record_bytes next p ++ after)

  -- from field i on: what stands before it and after it
  cut : (i w x : ℕ) (a b : List ℕ) → record_bytes next p ≡ a ++ (bytes_of w x ++ b) → length a ≡ i → x < 256 ^ w → field whole (32 * k + i) w ≡ x
  cut i w x a b q l h =
      ap (λ (r : List ℕ). field (before ++ (r ++ after)) (32 * k + i) w) q
      ∙ ap (λ (r : List ℕ). field (before ++ r) (32 * k + i) w) (append_assoc a (bytes_of w x ++ b) after ∙ ap (λ (r : List ℕ). a ++ r) (append_assoc (bytes_of w x) b after))
      ∙ ap (λ (r : List ℕ). field r (32 * k + i) w) (sym (append_assoc before a (bytes_of w x ++ (b ++ after))))
      ∙ field_at (before ++ a) (b ++ after) (32 * k + i) w x (length-append before a ∙ (λ j. e j + l j)) h

  next-back : next_at whole k ≡ next
  unfolding bytes_of
  next-back = let z : 32 * k + 0 ≡ 32 * k = omega arith in ap (λ (m : ℕ). field whole m 2) (sym z) ∙ cut 0 2 next [] (drop 2 (record_bytes next p)) refl refl n

  kind-back : field whole (32 * k + 2) 2 ≡ p.kind
  unfolding bytes_of
  kind-back = cut 2 2 p.kind (take 2 (record_bytes next p)) (drop 4 (record_bytes next p)) refl refl v.kind

  position-back : field whole (32 * k + 4) 4 ≡ p.position
  unfolding bytes_of
  position-back = cut 4 4 p.position (take 4 (record_bytes next p)) (drop 8 (record_bytes next p)) refl refl v.position

  first_back : field whole (32 * k + 8) 8 ≡ p.first
  unfolding bytes_of
  first_back = cut 8 8 p.first (take 8 (record_bytes next p)) (drop 16 (record_bytes next p)) refl refl v.first

  second_back : field whole (32 * k + 16) 8 ≡ p.second
  unfolding bytes_of
  second_back = cut 16 8 p.second (take 16 (record_bytes next p)) (drop 24 (record_bytes next p)) refl refl v.second

  third_back : field whole (32 * k + 24) 8 ≡ p.third
  unfolding bytes_of
  third_back = cut 24 8 p.third (take 24 (record_bytes next p)) (drop 32 (record_bytes next p)) refl refl v.third

  pub record-next : next_at whole k ≡ next
  record-next = next-back

  pub record-piece : piece_at whole k ≡ p
  record-piece = λ i. record { kind = kind-back i; position = position-back i; first = first_back i; second = second_back i; third = third_back i }

pub record-length : (next : ℕ) (p : Piece) → length (record_bytes next p) ≡ 32
unfolding bytes_of
record-length next p = refl

pub records-length : (count k : ℕ) (ps : List Piece) → length (records_from count k ps) ≡ 32 * length ps
unfolding records_from
records-length count k [] = refl
records-length count k (p ∷ ps) =
    length-append (record_bytes (cond (eqb (k + 1) count) 0 (k + 1)) p) (records_from count (k + 1) ps)
    ∙ (let e = records-length count (k + 1) ps in let d = record-length (cond (eqb (k + 1) count) 0 (k + 1)) p in omega arith)

-- ---- the chain of a written file

module _ (F : List ℕ) (count : ℕ) (c : record_count F ≡ count) (small : count < 256 ^ 2) where
  last_one : (fuel k : ℕ) (p : Piece) → k < count → next_at F k ≡ 0 → piece_at F k ≡ p → chain_from F (suc fuel) k ≡ Some (p ∷ [])
  unfolding chain_from
  last_one fuel k p l e q = rw (lt-leb (record_count F) k (subst (λ (n : ℕ). k < n) (sym c) l), e) (ap (λ (x : Piece). Some (x ∷ [])) q)

  not_last : (fuel k next : ℕ) (p : Piece) (ps : List Piece) → k < count → next_at F k ≡ next → (next ≡ 0 → ⊥) → piece_at F k ≡ p → chain_from F fuel next ≡ Some ps
      → chain_from F (suc fuel) k ≡ Some (p ∷ ps)
  unfolding chain_from
  not_last fuel k next p ps l e d q r =
      rw (lt-leb (record_count F) k (subst (λ (n : ℕ). k < n) (sym c) l), ne_eqb (next_at F k) 0 (λ z. d (sym e ∙ z)))
      (λ i. linked (q i) ((ap (chain_from F fuel) e ∙ r) i))

  module _ (k next : ℕ) (p : Piece) (before rest : List ℕ) (q : F ≡ before ++ (record_bytes next p ++ rest)) (e : length before ≡ 32 * k) (n : next < 256 ^ 2) (v : Fit p) where
    next-is : next_at F k ≡ next
    next-is = ap (λ (f : List ℕ). next_at f k) q ∙ record-next before rest k next p e n v

    piece_is : piece_at F k ≡ p
    piece_is = ap (λ (f : List ℕ). piece_at f k) q ∙ record-piece before rest k next p e n v

  from : (ps : List Piece) (p : Piece) (fuel k : ℕ) (before : List ℕ) → F ≡ before ++ records_from count k (p ∷ ps) → length before ≡ 32 * k → count ≡ k + length (p ∷ ps)
      → length (p ∷ ps) ≤ fuel → Fit p → All Fit ps → chain_from F fuel k ≡ Some (p ∷ ps)
  unfolding records_from
  from ps p zero k before q e s l v vs = absurd (not-suc-le-zero l)
  from [] p (suc fuel) k before q e s l v vs =
      let z : cond (eqb (k + 1) count) 0 (k + 1) ≡ 0 = ap (λ (b : Bool). cond b 0 (k + 1)) (eq-eqb (k + 1) count (omega arith)) in
      let q' : F ≡ before ++ (record_bytes 0 p ++ []) = q ∙ ap (λ (n : ℕ). before ++ (record_bytes n p ++ [])) z in
      last_one fuel k p (omega arith) (next-is k 0 p before [] q' e (omega arith) v) (piece_is k 0 p before [] q' e (omega arith) v)
  from (p' ∷ ps) p (suc fuel) k before q e s l v vs =
      let z : cond (eqb (k + 1) count) 0 (k + 1) ≡ k + 1 = ap (λ (b : Bool). cond b 0 (k + 1)) (ne_eqb (k + 1) count (λ t. omega arith)) in
      let rest = records_from count (k + 1) (p' ∷ ps) in
      let q' : F ≡ before ++ (record_bytes (k + 1) p ++ rest) = q ∙ ap (λ (n : ℕ). before ++ (record_bytes n p ++ rest)) z in
      not_last fuel k (k + 1) p (p' ∷ ps) (omega arith) (next-is k (k + 1) p before rest q' e (omega arith) v) (λ t. omega arith) (piece_is k (k + 1) p before rest q' e (omega arith) v)
      (from ps p' fuel (k + 1) (before ++ record_bytes (k + 1) p) (q' ∙ sym (append_assoc before (record_bytes (k + 1) p) rest))
      (length-append before (record_bytes (k + 1) p) ∙ (let d = record-length (k + 1) p in omega arith)) (omega arith) (le_of_suc-le-suc l)
      (vs p' (Memᴰ.head refl)) (λ a m. vs a (Memᴰ.tail m)))

-- WHAT IS WRITTEN IS READ: the chain of a file of 1 to 65,535 records
pub chain_back : (p : Piece) (ps : List Piece) → length (p ∷ ps) < 256 ^ 2 → Fit p → All Fit ps → chain_of (file_of_pieces (p ∷ ps)) ≡ Some (p ∷ ps)
chain_back p ps h v vs =
    let n = length (p ∷ ps) in
    let F = file_of_pieces (p ∷ ps) in
    let c : record_count F ≡ n = ap (λ (m : ℕ). m / 32) (records-length n 0 (p ∷ ps)) ∙ whole n in
    from F n c h ps p (record_count F) 0 [] refl refl (plus n) (subst (λ (m : ℕ). n ≤ m) (sym c) (le_refl n)) v vs
  where
    plus : (n : ℕ) → n ≡ 0 + n
    plus n = omega arith

    whole : (n : ℕ) → 32 * n / 32 ≡ n
    whole n = omega arith
