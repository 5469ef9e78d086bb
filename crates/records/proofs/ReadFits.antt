-- What is read of a file of bytes fits its bytes.
use Prim.Native.Nat.{ℕ, zero, suc, ◌+◌, ◌*◌, ◌%◌, ◌^◌, ◌<◌, ◌/◌}
use native.Mathlib.Omega.{arith}
use native.Mathlib.Nat.{pow-suc}
use mathlib.Core.List.Memᴰ
use mathlib.Core.List.{List, [], ◌∷◌, Memᴰ}
use mathlib.Core.Path.{◌≡◌, refl, sym, subst}
use lib.ListN.{length, drop, get_or, take}
use Rattle.ledger.specs.Words.{All}
use Rattle.records.specs.Chain.{records_at, piece_at}
use Rattle.records.specs.Tables.{records_for, piece_of, section}
use Rattle.records.specs.Bytes.{number, field, Bytes}
use Rattle.records.proofs.Fits.{Small}
use Rattle.records.proofs.Sections.{section-mem}
use Rattle.records.proofs.Written.{Fit}

known-drop : {A : Type 0} (P : A → Type 0) (n : ℕ) (xs : List A) → All P xs → All P (drop n xs)
known-drop P zero xs k = k
known-drop P (suc n) [] k = k
known-drop P (suc n) (x ∷ xs) k = known-drop P n xs (λ a m. k a (Memᴰ.tail m))

number_small : (w : ℕ) (bs : List ℕ) → Bytes bs → number (take w bs) < 256 ^ w
unfolding number
number_small zero bs h = omega arith
number_small (suc w) [] h = let p = number_small w [] h in omega (arith, pow-suc 256 w)
number_small (suc w) (b ∷ bs) h = let p = number_small w bs (λ a m. h a (Memᴰ.tail m)) in let q = h b (Memᴰ.head refl) in omega (arith, pow-suc 256 w)

module _ (f : List ℕ) (h : Bytes f) where
  field-small : (at w : ℕ) → field f at w < 256 ^ w
  field-small at w = number_small w (drop at f) (known-drop (λ (b : ℕ). b < 256) at f h)

  piece-fit : (k : ℕ) → Fit (piece_at f k)
  piece-fit k =
      record {
        kind = field-small (32 * k + 2) 2;
        position = field-small (32 * k + 4) 4;
        first = field-small (32 * k + 8) 8;
        second = field-small (32 * k + 16) 8;
        third = field-small (32 * k + 24) 8;
      }

  pub records-fit : (ks : List ℕ) → All Fit (records_at f ks)
  records-fit [] a m = absurd (Memᴰ.not-nil m)
  records-fit (k ∷ ks) a (Memᴰ.head e) = subst Fit (sym e) (piece-fit k)
  records-fit (k ∷ ks) a (Memᴰ.tail m) = records-fit ks a m

-- ---- the words of records

index_of : (ws : List ℕ) (a : ℕ) → Memᴰ a ws → (i : ℕ) × (i < length ws) × (a ≡ get_or ws i 0)
index_of [] a x' = elim x' [ ]
index_of (w ∷ ws) a (Memᴰ.head e) = (0, omega arith, e)
index_of (w ∷ ws) a (Memᴰ.tail m) = let r = index_of ws a m in (suc r.0, (let h = r.1 in omega arith), r.2)

pub section-small : (kind : ℕ) (ws : List ℕ) → All Fit (section kind ws) → Small ws
section-small kind ws h a m =
    let r = index_of ws a m in
    subst (λ (w : ℕ). w < 256 ^ 8) (sym r.2) (at r.0 (r.0 / 3) (r.0 % 3) (parts r.0) (last r.0) (h (piece_of kind ws (r.0 / 3)) (section-mem kind ws (r.0 / 3) (let l = r.1 in within r.0 (length ws) l))))
  where
    parts : (i : ℕ) → i ≡ 3 * (i / 3) + i % 3
    parts i = omega arith

    last : (i : ℕ) → i % 3 < 3
    last i = omega arith

    within : (i n : ℕ) → i < n → i / 3 < records_for n
    within i n l = omega arith

    at : (i k r : ℕ) → i ≡ 3 * k + r → r < 3 → Fit (piece_of kind ws k) → get_or ws i 0 < 256 ^ 8
    at i k zero e l p = let q : 3 * k ≡ i = omega arith in subst (λ (j : ℕ). get_or ws j 0 < 256 ^ 8) q p.first
    at i k (suc zero) e l p = let q : 3 * k + 1 ≡ i = omega arith in subst (λ (j : ℕ). get_or ws j 0 < 256 ^ 8) q p.second
    at i k (suc (suc zero)) e l p = let q : 3 * k + 2 ≡ i = omega arith in subst (λ (j : ℕ). get_or ws j 0 < 256 ^ 8) q p.third
    at i k (suc (suc (suc r))) e l p = absurd (omega arith)
