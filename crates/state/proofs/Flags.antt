-- Truth values: tests that all pass, and two tests that pass together.
use Rattle.std.specs.Prelude.{Some, slice_get}
use Prim.Native.Nat.{ℕ, zero, suc}
use mathlib.Core.Path.{◌≡◌, refl, sym, ◌∙◌}
use mathlib.Core.Bool.{Bool, true, false, ◌&&◌, true≢false}
use mathlib.Core.List.{List, [], ◌∷◌}
use Rattle.std.proofs.lemmas.Bool.{and_parts}
use Rattle.ledger.specs.Words.{every}
use Rattle.ledger.proofs.Lists.{none≢some, some_inj}

pub and-true : {a b : Bool} → a ≡ true → b ≡ true → (a && b) ≡ true
and-true p q = rw (p, q)

pub bool-ext : (a b : Bool) → (a ≡ true → b ≡ true) → (b ≡ true → a ≡ true) → a ≡ b
bool-ext true true f g = refl
bool-ext false false f g = refl
bool-ext true false f g = absurd (true≢false (sym (f refl)))
bool-ext false true f g = absurd (true≢false (sym (g refl)))

-- the test at place i of those that all pass
pub every-at : (bs : List Bool) → every bs ≡ true → (i : ℕ) (b : Bool) → slice_get bs i ≡ Some b → b ≡ true
every-at [] t i b e = absurd (none≢some e)
every-at (a ∷ bs) t zero b e = sym (some_inj e) ∙ (and_parts a (every bs) t).0
every-at (a ∷ bs) t (suc i) b e = every-at bs (and_parts a (every bs) t).1 i b e

-- five tests, as the code joins them
pub five : (a b c d e : Bool) → (a && b && c && d && e) ≡ true → (a ≡ true) × (b ≡ true) × (c ≡ true) × (d ≡ true) × (e ≡ true)
five true true true true true h = (refl, refl, refl, refl, refl)
five true true true true false h = absurd (true≢false (sym h))
five true true true false e h = absurd (true≢false (sym h))
five true true false d e h = absurd (true≢false (sym h))
five true false c d e h = absurd (true≢false (sym h))
five false b c d e h = absurd (true≢false (sym h))

pub all-five : {a b c d e : Bool} → a ≡ true → b ≡ true → c ≡ true → d ≡ true → e ≡ true → (a && b && c && d && e) ≡ true
all-five p q r s t = rw (p, q, r, s, t)
