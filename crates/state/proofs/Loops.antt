-- Sweeps that test lists place by place: f says whether all passed places pass.
use Prim.Native.Nat.{ℕ, zero, suc, ◌+◌, ◌<◌}
use native.Mathlib.Numerals.{add-one}
use native.Mathlib.Nat.{not-suc-le-zero, le_of_suc-le-suc}
use mathlib.Core.Path.{◌≡◌, sym, ap, ap₂, ◌∙◌}
use mathlib.Core.Bool.{Bool, ◌&&◌, and_assoc, and-true}
use mathlib.Core.List.{List, [], ◌∷◌}
use lib.Dec.{ltb}
use lib.ListN.{length, get_or, take}
use Rattle.ledger.specs.Words.{all}
use Rattle.state.specs.Places.{choices_below}

-- a choice and its limit more
pub below-next : (cs ls cs_left ls_left : List ℕ) (c l : ℕ) (f : Bool) → (cs ≡ c ∷ cs_left) × (ls ≡ l ∷ ls_left) → (f && choices_below cs ls) ≡ ((f && ltb c l) && choices_below cs_left ls_left)
unfolding choices_below
below-next cs ls cs_left ls_left c l f (e, h) = rw (e, h) (sym (and_assoc f (ltb c l) (choices_below cs_left ls_left)))

-- no choice is left
pub below-end : (cs ls : List ℕ) (f : Bool) → cs ≡ [] → (f && choices_below cs ls) ≡ f
unfolding choices_below
below-end cs ls f e = rw e (and-true f)

-- one item more
all-next : {A : Type 0} (p : A → Bool) (xs : List A) (i : ℕ) (z : A) → i < length xs → (all p (take i xs) && p (get_or xs i z)) ≡ all p (take (suc i) xs)
unfolding all
all-next p [] i z h = absurd (not-suc-le-zero h)
all-next p (y ∷ xs) zero z h = sym (and-true (p y))
all-next p (y ∷ xs) (suc i) z h = and_assoc (p y) _ _ ∙ ap (λ (b : Bool). p y && b) (all-next p xs i z (le_of_suc-le-suc h))

pub all-more : {A : Type 0} (p : A → Bool) (xs : List A) (i : ℕ) (x : A) {f t : Bool} → i < length xs → x ≡ get_or xs i x → f ≡ all p (take i xs) → t ≡ p x → (f && t) ≡ all p (take (i + 1) xs)
all-more p xs i x h e q r = rw add-one (ap₂ (λ (a b : Bool). a && b) q (r ∙ ap p e) ∙ all-next p xs i x h)
