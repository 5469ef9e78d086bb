-- Different records that are all in a list of as many are that list, in some order.
use Prim.Native.Nat.{suc}
use native.Mathlib.Omega.{arith}
use mathlib.Core.Path.{◌≡◌, refl, sym, ap, ◌∙◌}
use mathlib.Core.List.Permᴰ
use mathlib.Core.List.{List, [], ◌∷◌, Memᴰ, Permᴰ}
use lib.ListN.{length}
use Rattle.ledger.specs.Words.{All}
use Rattle.records.specs.declared.Piece.{Piece}
use Rattle.records.proofs.Orders.{Keyed}

-- ---- a list without one of its elements

module _ {A : Type 0} where
  without : {a : A} {l : List A} → Memᴰ a l → List A
  without (Memᴰ.head {xs = xs} e) = xs
  without (Memᴰ.tail {x = x} m) = x ∷ without m

  without-perm : {a : A} {l : List A} (m : Memᴰ a l) → Permᴰ l (a ∷ without m)
  unfolding without
  without-perm (Memᴰ.head {xs = xs} e) = Permᴰ.cons (sym e) (Permᴰ.refl xs)
  without-perm (Memᴰ.tail {x = x} m) = Permᴰ.trans (Permᴰ.cons refl (without-perm m)) (Permᴰ.swap refl refl)

  without-length : {a : A} {l : List A} (m : Memᴰ a l) → length l ≡ suc (length (without m))
  unfolding without
  without-length (Memᴰ.head e) = refl
  without-length (Memᴰ.tail m) = ap suc (without-length m)

  still-in : {a b : A} {l : List A} (m : Memᴰ a l) → Memᴰ b l → (b ≡ a → ⊥) → Memᴰ b (without m)
  unfolding without
  still-in (Memᴰ.head e) (Memᴰ.head d) n = absurd (n (d ∙ sym e))
  still-in (Memᴰ.head e) (Memᴰ.tail k) n = k
  still-in (Memᴰ.tail m) (Memᴰ.head d) n = Memᴰ.head d
  still-in (Memᴰ.tail m) (Memᴰ.tail k) n = Memᴰ.tail (still-in m k n)

-- ---- different records that are all in a list of as many

pub perm-of : (qs rs : List Piece) → Keyed qs → All (λ (q : Piece). Memᴰ q rs) qs → length rs ≡ length qs → Permᴰ rs qs
perm-of [] [] k h e = Permᴰ.nil
perm-of [] (r ∷ rs) k h e = absurd (omega arith)
perm-of (q ∷ qs) rs k h e =
    let m = h q (Memᴰ.head refl) in
    let apart : (a : Piece) → Memᴰ a qs → a ≡ q → ⊥ = λ a n d. k.0 a n (ap (λ (p : Piece). p.kind) (sym d)) (ap (λ (p : Piece). p.position) (sym d)) in
    let l : length (without m) ≡ length qs = omega (arith, without-length m) in
    Permᴰ.trans (without-perm m) (Permᴰ.cons refl (perm-of qs (without m) k.1 (λ a n. still-in m (h a (Memᴰ.tail n)) (apart a n)) l))
