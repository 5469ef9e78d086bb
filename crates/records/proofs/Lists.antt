-- Laws of lists that the crates of saved files share.
use Prim.Native.Nat.{ℕ, suc, zero, ◌+◌, ◌-◌}
use mathlib.Core.Path.{◌≡◌, refl, sym, ap, subst}
use mathlib.Core.Bool.{Bool, true}
use mathlib.Core.List.Memᴰ
use mathlib.Core.List.{List, [], ◌∷◌, ◌++◌}
use mathlib.Core.Logic.{⊎_elim}
use lib.ListN.{length, take, drop, replicate, take-append-drop}
use Rattle.rng_util.specs.Many.{pad_to, listed}
use Rattle.ledger.specs.Words.{All, all}
use Rattle.std.proofs.lemmas.Bool.{and_parts}

pub both : {A : Type 0} {P : A → Type 0} (xs ys : List A) → All P xs → All P ys → All P (xs ++ ys)
both xs ys h k a m = ⊎_elim (h a) (k a) (Memᴰ.append_cases xs m)

pub listed-length : {A : Type 0} (f : ℕ → A) (k i : ℕ) → length (listed f k i) ≡ k
unfolding listed
listed-length f zero i = refl
listed-length f (suc k) i = ap suc (listed-length f k (i + 1))

pub all_listed : {A : Type 0} (P : A → Type 0) (f : ℕ → A) (k i : ℕ) → ((j : ℕ) → P (f j)) → All P (listed f k i)
unfolding listed
all_listed P f zero i h a m = absurd (Memᴰ.not-nil m)
all_listed P f (suc k) i h a (Memᴰ.head e) = subst P (sym e) (h i)
all_listed P f (suc k) i h a (Memᴰ.tail m) = all_listed P f k (i + 1) h a m

pub all_same : {A : Type 0} (P : A → Type 0) (n : ℕ) (b : A) → P b → All P (replicate n b)
all_same P zero b h a m = absurd (Memᴰ.not-nil m)
all_same P (suc n) b h a (Memᴰ.head e) = subst P (sym e) h
all_same P (suc n) b h a (Memᴰ.tail m) = all_same P n b h a m

pub all-padded : {A : Type 0} (P : A → Type 0) (n : ℕ) (b : A) (xs : List A) → All P xs → P b → All P (pad_to n b xs)
all-padded P n b xs h k = both xs (replicate (n - length xs) b) h (all_same P (n - length xs) b k)

pub all_of : {A : Type 0} (q : A → Bool) (xs : List A) → all q xs ≡ true → All (λ x. q x ≡ true) xs
unfolding all
all_of q [] e a m = absurd (Memᴰ.not-nil m)
all_of q (x ∷ xs) e a (Memᴰ.head r) = subst (λ y. q y ≡ true) (sym r) (and_parts (q x) (all q xs) e).0
all_of q (x ∷ xs) e a (Memᴰ.tail m) = all_of q xs (and_parts (q x) (all q xs) e).1 a m

pub all_take : {A : Type 0} (P : A → Type 0) (n : ℕ) (xs : List A) → All P xs → All P (take n xs)
all_take P zero xs h a m = absurd (Memᴰ.not-nil m)
all_take P (suc n) [] h a m = absurd (Memᴰ.not-nil m)
all_take P (suc n) (x ∷ xs) h a (Memᴰ.head r) = h a (Memᴰ.head r)
all_take P (suc n) (x ∷ xs) h a (Memᴰ.tail m) = all_take P n xs (λ b k. h b (Memᴰ.tail k)) a m

pub all-with : {A : Type 0} (P : A → Type 0) (n : ℕ) (xs : List A) → All P (take n xs) → All P (drop n xs) → All P xs
all-with P n xs h k = subst (All P) (take-append-drop n xs) (both (take n xs) (drop n xs) h k)
