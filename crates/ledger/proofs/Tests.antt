-- What a test says as a fact, and back: of two tests, of equal numbers, of each element of a list. Each by cases or plain recursion; assumes nothing.
use Rattle.ledger.specs.Words.{All, all}
use mathlib.Core.Path.{◌≡◌, refl, sym, subst}
use mathlib.Core.Logic.{◌⊎◌, inl, inr}
use mathlib.Core.Bool.{Bool, true, false, ◌&&◌, ◌||◌}
use mathlib.Core.List.Memᴰ
use mathlib.Core.List.{List, [], ◌∷◌}
use Prim.Native.Nat.{ℕ}
use lib.Dec.{T, eqb, eqb_refl}

pub or_l : (a b : Bool) → T a → T (a || b)
or_l true b t = tt
or_l false b t = elim t [ ]

pub or_r : (a b : Bool) → T b → T (a || b)
or_r true b t = tt
or_r false b t = t

pub or_cases : (a b : Bool) → T (a || b) → T a ⊎ T b
or_cases true b t = inl tt
or_cases false b t = inr t

pub and_split : (a b : Bool) → T (a && b) → T a × T b
and_split true b t = (tt, t)
and_split false b t = elim t [ ]

pub and-join : (a b : Bool) → T a → T b → T (a && b)
and-join true b s t = t
and-join false b s t = elim s [ ]

-- two tests that pass together are one
pub both_ways : (a b : Bool) → (T a → T b) → (T b → T a) → a ≡ b
both_ways true true f g = refl
both_ways true false f g = absurd (f tt)
both_ways false true f g = absurd (g tt)
both_ways false false f g = refl

pub eqb_of : (a b : ℕ) → a ≡ b → T (eqb a b)
eqb_of a b e = subst (λ (x : ℕ). T (eqb a x)) e (eqb_refl a)

pub all_split : {A : Type 0} (p : A → Bool) (xs : List A) → T (all p xs) → All (λ a. T (p a)) xs
unfolding all
all_split p (x ∷ xs) t a (Memᴰ.head e) = subst (λ y. T (p y)) (sym e) (and_split (p x) (all p xs) t).0
all_split p (x ∷ xs) t a (Memᴰ.tail m) = all_split p xs (and_split (p x) (all p xs) t).1 a m
all_split {A = A} p [] t a x'' = elim x'' [ ]

pub all_join : {A : Type 0} (p : A → Bool) (xs : List A) → All (λ a. T (p a)) xs → T (all p xs)
unfolding all
all_join p [] h = tt
all_join p (x ∷ xs) h = and-join (p x) (all p xs) (h x (Memᴰ.head refl)) (all_join p xs (λ a m. h a (Memᴰ.tail m)))
