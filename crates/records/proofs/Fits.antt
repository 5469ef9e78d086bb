-- Records whose numbers fit their bytes, and the file of them.
use Rattle.std.specs.Prelude.{Some}
use Prim.Native.Nat.{ℕ, zero, suc, ◌+◌, ◌*◌, ◌%◌, ◌^◌, ◌≤◌, ◌<◌}
use native.Mathlib.Omega.{arith}
use mathlib.Core.Bool.{false, ◌||◌}
use mathlib.Core.List.Memᴰ
use mathlib.Core.List.{List, [], ◌∷◌}
use mathlib.Core.Path.{◌≡◌, refl, sym, ap, ◌∙◌, subst}
use borrow.Author.Tests.{ne_eqb, lt-leb}
use lib.Dec.{eqb, leb}
use lib.ListN.{length, get_or}
use Rattle.ledger.specs.Words.{All}
use Rattle.records.specs.declared.Piece.{Piece}
use Rattle.records.specs.Chain.{misfits, chain_of, file_of_pieces}
use Rattle.records.specs.Tables.{pieces_from}
use Rattle.records.proofs.Written.{Fit, chain_back, records-length}

-- ---- words of 64 bits

abbrev pub Small : List ℕ → Type 0
Small ws = All (λ (w : ℕ). w < 256 ^ 8) ws

pub at_small : (ws : List ℕ) (i : ℕ) → Small ws → get_or ws i 0 < 256 ^ 8
at_small [] i h = omega arith
at_small (w ∷ ws) zero h = h w (Memᴰ.head refl)
at_small (w ∷ ws) (suc i) h = at_small ws i (λ a m. h a (Memᴰ.tail m))

pub pieces-fit : (kind : ℕ) (ws : List ℕ) (m k : ℕ) → kind < 256 ^ 2 → k + m ≤ 1200 → Small ws → All Fit (pieces_from kind ws m k)
unfolding pieces_from
pieces-fit kind ws zero k h l v a t = absurd (Memᴰ.not-nil t)
pieces-fit kind ws (suc m) k h l v a (Memᴰ.head q) =
    subst Fit (sym q) (record { kind = h; position = omega arith; first = at_small ws (3 * k) v; second = at_small ws (3 * k + 1) v; third = at_small ws (3 * k + 2) v })
pieces-fit kind ws (suc m) k h l v a (Memᴰ.tail t) = pieces-fit kind ws m (k + 1) h (omega arith) v a t

-- ---- a file of records

pub chain-all : (ps : List Piece) → 1 ≤ length ps → length ps < 256 ^ 2 → All Fit ps → chain_of (file_of_pieces ps) ≡ Some ps
chain-all [] h l v = absurd (omega arith)
chain-all (p ∷ ps) h l v = chain_back p ps l (v p (Memᴰ.head refl)) (λ a m. v a (Memᴰ.tail m))

pub file-fits : (ps : List Piece) → 1 ≤ length ps → misfits (file_of_pieces ps) ≡ false
file-fits ps h =
    ap (λ (n : ℕ). eqb n 0 || leb 1 (n % 32)) (records-length (length ps) 0 ps)
    ∙ (λ i. ne_eqb (32 * length ps) 0 (more (length ps) h) i || lt-leb 1 (32 * length ps % 32) (even (length ps)) i)
  where
    more : (n : ℕ) → 1 ≤ n → 32 * n ≡ 0 → ⊥
    more n h e = omega arith

    even : (n : ℕ) → 32 * n % 32 < 1
    even n = omega arith
