-- The words of several parts, a row each: the row at a place is that of one of the parts.
use Prim.Native.Nat.{ℕ, zero, suc, ◌+◌, ◌*◌, ◌<◌}
use native.Mathlib.Omega.{arith}
use mathlib.Core.List.{List, Memᴰ, [], ◌∷◌, ◌++◌, append_assoc}
use mathlib.Core.Path.{◌≡◌, refl, sym, ap, ◌∙◌, subst}
use lib.ListN.{length, take, length-append}
use lib.Seq.{take_at, drop_at}
use Rattle.std.specs.List.{flat_map}
use Rattle.ledger.specs.Words.{All}
use Rattle.kinds.specs.Opened.{row}

module _ {A : Type 0} (f : A → List ℕ) (w : ℕ) where
  -- a row that is the words of one of the parts
  pub record RowOf (xs : List A) (r : List ℕ) : Type 0 where
    pub part : A
    pub of : Memᴰ part xs
    pub words : r ≡ f part

  from : (xs : List A) (before pad : List ℕ) (i j : ℕ) → length before ≡ i * w → All (λ x. length (f x) ≡ w) xs → j < length xs → RowOf xs (row (before ++ (flat_map f xs ++ pad)) w (i + j))
  from [] before pad i j e h l = absurd (omega arith)
  from (x ∷ xs) before pad i zero e h l =
      let at : i + 0 ≡ i = omega arith in
      record {
        part = x;
        of = Memᴰ.head refl;
        words = ap (row (before ++ (f x ++ flat_map f xs ++ pad)) w) at
            ∙ ap (take w) (drop_at before (f x ++ flat_map f xs ++ pad) (i * w) e)
            ∙ ap (take w) (append_assoc (f x) (flat_map f xs) pad) ∙ take_at (f x) (flat_map f xs ++ pad) w (h x (Memᴰ.head refl));
      }
  from (x ∷ xs) before pad i (suc j) e h l =
      let r = from xs (before ++ f x) pad (i + 1) j (length-append before (f x) ∙ (λ k. e k + h x (Memᴰ.head refl) k) ∙ next i) (λ a m. h a (Memᴰ.tail m)) (omega arith) in
      let s : before ++ (f x ++ flat_map f xs ++ pad) ≡ (before ++ f x) ++ (flat_map f xs ++ pad) =
      ap (λ (t : List ℕ). before ++ t) (append_assoc (f x) (flat_map f xs) pad) ∙ sym (append_assoc before (f x) (flat_map f xs ++ pad)) in
      let at : i + suc j ≡ i + 1 + j = omega arith in
      record { part = r.part; of = Memᴰ.tail r.of; words = (λ k. row (s k) w (at k)) ∙ r.words }
    where
      next : (i : ℕ) → i * w + w ≡ (i + 1) * w
      next i = omega arith

  pub row-at : (xs : List A) (pad : List ℕ) (i : ℕ) → All (λ x. length (f x) ≡ w) xs → i < length xs → RowOf xs (row (flat_map f xs ++ pad) w i)
  row-at xs pad i h l =
      let z : 0 ≡ 0 * w = omega arith in
      let at : 0 + i ≡ i = omega arith in
      subst (λ (k : ℕ). RowOf xs (row (flat_map f xs ++ pad) w k)) at (from xs [] pad 0 i z h l)
