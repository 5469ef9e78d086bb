-- The records of a kind: "a kind with its position". A kind's words are a list; position k holds words 3k, 3k + 1 and 3k + 2 of it, and 0 past its end.
use Rattle.std.specs.Prelude.{ℕ, zero, suc, ◌+◌, ◌*◌, ◌/◌, List, [], ◌∷◌, ◌++◌, Bool, true, false, cond, ◌&&◌, eqb, ltb, length, get_or, set, replicate}
use Rattle.std.specs.Bool.{beq}
use Rattle.rng_util.specs.Many.{pad_to}
use Rattle.records.specs.declared.Piece.{Piece}
use Rattle.records.specs.declared.Table.{Table}

-- ---- from words to records

-- how many records hold so many words
abbrev pub records_for : ℕ → ℕ
records_for n = (n + 2) / 3

-- the record of a kind at position k
abbrev pub piece_of : ℕ → List ℕ → ℕ → Piece
piece_of kind ws k = record { kind = kind; position = k; first = get_or ws (3 * k) 0; second = get_or ws (3 * k + 1) 0; third = get_or ws (3 * k + 2) 0 }

-- m records of a kind, from position k on
unfoldable pub pieces_from : ℕ → List ℕ → ℕ → ℕ → List Piece
pieces_from kind ws zero k = []
pieces_from kind ws (suc m) k = piece_of kind ws k ∷ pieces_from kind ws m (k + 1)

-- all of a kind
abbrev pub section : ℕ → List ℕ → List Piece
section kind ws = pieces_from kind ws (records_for (length ws)) 0

-- the records of kinds 1 to n, in the writer's order, by the words of each kind
unfoldable pub sections_to : ℕ → (ℕ → List ℕ) → List Piece
sections_to zero words = []
sections_to (suc n) words = sections_to n words ++ section (suc n) (words (suc n))

-- ---- a kind's records on the chain, each at its position: 1,195 at most in a sound state (3,584 words), and there is room for 1,200

unfoldable pub no_records : Table
no_records = record { words = replicate 3600 0; filled = replicate 1200 false }

-- a record laid at its position
abbrev pub laid_at : Table → Piece → Table
laid_at t p =
    record {
      words = set (set (set t.words (3 * p.position) p.first) (3 * p.position + 1) p.second) (3 * p.position + 2) p.third;
      filled = set t.filled p.position true;
    }

-- a record of the kind is laid in its table
abbrev pub lay : ℕ → Table → Piece → Table
lay kind t p = cond (eqb p.kind kind && ltb p.position 1200) (laid_at t p) t

unfoldable pub laid_on : ℕ → Table → List Piece → Table
laid_on kind t [] = t
laid_on kind t (p ∷ ps) = laid_on kind (lay kind t p) ps

abbrev pub table_of : ℕ → List Piece → Table
table_of kind ps = laid_on kind no_records ps

-- ---- whether records are those of these words

unfoldable pub same_words : List ℕ → List ℕ → Bool
same_words [] [] = true
same_words [] (w ∷ ws) = false
same_words (v ∷ vs) [] = false
same_words (v ∷ vs) (w ∷ ws) = eqb v w && same_words vs ws

unfoldable pub same_flags : List Bool → List Bool → Bool
same_flags [] [] = true
same_flags [] (w ∷ ws) = false
same_flags (v ∷ vs) [] = false
same_flags (v ∷ vs) (w ∷ ws) = beq v w && same_flags vs ws

-- a kind's records: its words are the section's, and its positions 0 and up, none missing and none more
unfoldable pub holds : Table → List ℕ → Bool
holds t ws = same_words t.words (pad_to 3600 0 ws) && same_flags t.filled (pad_to 1200 false (replicate (records_for (length ws)) true))

-- of each of the kinds 1 to n
unfoldable pub hold_to : ℕ → List Piece → (ℕ → List ℕ) → Bool
hold_to zero rs words = true
hold_to (suc n) rs words = hold_to n rs words && holds (table_of (suc n) rs) (words (suc n))

-- and as many records in all, so that no position is repeated and no kind unknown: each record of these words once, and no other (`agrees-exactly`)
unfoldable pub agrees : ℕ → List Piece → (ℕ → List ℕ) → Bool
agrees n rs words = hold_to n rs words && eqb (length rs) (length (sections_to n words))
