-- A saved file: "a run of 32-byte records numbered from 0, each with a 2-byte next index, a 2-byte kind, a 4-byte position and three 8-byte words".
use Rattle.std.specs.Prelude.{◌≤◌, ℕ, zero, suc, ◌+◌, ◌*◌, ◌/◌, ◌%◌, ◌<◌, map, List, [], ◌∷◌, ◌++◌, ◌≡◌, Bool, ◌||◌, cond, leb, eqb, length, Option, Some, None, slice_get}
use Rattle.records.specs.Bytes.{bytes_of, field}
use Rattle.records.specs.declared.Piece.{Piece}

-- ---- written

-- "a 2-byte next index, a 2-byte kind, a 4-byte position and three 8-byte words"
abbrev pub record_bytes : ℕ → Piece → List ℕ
record_bytes next p = bytes_of 2 next ++ bytes_of 2 p.kind ++ bytes_of 4 p.position ++ bytes_of 8 p.first ++ bytes_of 8 p.second ++ bytes_of 8 p.third

-- "The writer always lays record k's successor at k + 1", and "zero as next index ends" the chain: of count records, those from k on
unfoldable pub records_from : ℕ → ℕ → List Piece → List ℕ
records_from count k [] = []
records_from count k (p ∷ ps) = record_bytes (cond (eqb (k + 1) count) 0 (k + 1)) p ++ records_from count (k + 1) ps

abbrev pub file_of_pieces : List Piece → List ℕ
file_of_pieces ps = records_from (length ps) 0 ps

-- ---- read

-- record k's next index, and what else it holds
abbrev pub next_at : List ℕ → ℕ → ℕ
next_at f k = field f (32 * k) 2

abbrev pub piece_at : List ℕ → ℕ → Piece
piece_at f k =
    record {
      kind = field f (32 * k + 2) 2;
      position = field f (32 * k + 4) 4;
      first = field f (32 * k + 8) 8;
      second = field f (32 * k + 16) 8;
      third = field f (32 * k + 24) 8;
    }

-- 12: "a file that is empty or no multiple of 32 bytes"
abbrev pub misfits : List ℕ → Bool
misfits f = eqb (length f) 0 || leb 1 (length f % 32)

-- how many records a file has
abbrev pub record_count : List ℕ → ℕ
record_count f = length f / 32

-- a record, and the rest of its chain if there is one
abbrev pub linked : Piece → Option (List Piece) → Option (List Piece)
linked p None = None
linked p (Some ps) = Some (p ∷ ps)

-- What the chain holds from index k on, in its order, if it ends within so many records: `none` where "a next index [is] past its end", or it does not end.
unfoldable pub chain_from : List ℕ → ℕ → ℕ → Option (List Piece)
chain_from f zero k = None
chain_from f (suc fuel) k =
    cond (leb (record_count f) k) None
    (cond (eqb (next_at f k) 0) (Some (piece_at f k ∷ []))
    (linked (piece_at f k) (chain_from f fuel (next_at f k))))

-- "Record 0 starts the chain and zero as next index ends it." A chain of more records than the file has meets one twice, and so never ends (`chain-exactly`).
abbrev pub chain_of : List ℕ → Option (List Piece)
chain_of f = chain_from f (record_count f) 0

-- how many records it has, where there is one
abbrev pub chain_length : Option (List Piece) → Option ℕ
chain_length None = None
chain_length (Some ps) = Some (length ps)

-- n steps along the next indices from k on, whether they are a chain or not: the records met, and that each is in the file
unfoldable pub walk : List ℕ → ℕ → ℕ → List Piece
walk f zero k = []
walk f (suc n) k = piece_at f k ∷ walk f n (next_at f k)

unfoldable pub Walks : List ℕ → ℕ → ℕ → Type 0
Walks f zero k = Unit {0}
Walks f (suc n) k = (k < record_count f) × Walks f n (next_at f k)

-- ---- document 02's words

-- the indices of a chain from k on: each below the count, each but the last followed by its next index, the last one's being 0
pub data Follows (f : List ℕ) : ℕ → List ℕ → Type 0 where
  last : {k : ℕ} → k < record_count f → next_at f k ≡ 0 → Follows f k (k ∷ [])
  then : {k : ℕ} {ks : List ℕ} → k < record_count f → (next_at f k ≡ 0 → ⊥) → Follows f (next_at f k) ks → Follows f k (k ∷ ks)

-- "a record met twice" is not: no index stands at two places
abbrev pub NoneTwice : List ℕ → Type 0
NoneTwice ks = (i j k : ℕ) → slice_get ks i ≡ Some k → slice_get ks j ≡ Some k → i ≡ j

-- the records at these indices
abbrev pub records_at : List ℕ → List ℕ → List Piece
records_at f ks = map (piece_at f) ks

-- the index that n steps along the next indices lead to: "Record 0 starts the chain"
unfoldable pub met : List ℕ → ℕ → ℕ
met f zero = 0
met f (suc n) = next_at f (met f n)

-- the chain has n steps: the records before the n-th are in the file, and none of them has "zero as next index", which would end it
abbrev pub Leads : List ℕ → ℕ → Type 0
Leads f n = (m : ℕ) → m < n → (met f m < record_count f) × (next_at f (met f m) ≡ 0 → ⊥)

-- 12: "a file that is empty or no multiple of 32 bytes, a next index past its end, a record met twice"
pub data Broken (f : List ℕ) : Type 0 where
  empty : length f ≡ 0 → Broken f
  uneven : (length f % 32 ≡ 0 → ⊥) → Broken f
  past_end : (n : ℕ) → Leads f (suc n) → record_count f ≤ met f (suc n) → Broken f
  met-twice : (i j : ℕ) → i < j → Leads f j → met f i ≡ met f j → Broken f
