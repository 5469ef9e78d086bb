-- Candidates past the last result don't count: extras never compete. By recursion on the results.
use mathlib.Core.Path.{◌≡◌, refl, sym, ap, ◌∙◌}
use mathlib.Core.List.{List, [], ◌∷◌}
use Prim.Native.Nat.{ℕ, zero, suc, ◌≤◌}
use native.Mathlib.Nat.{not-suc-le-zero, le_of_suc-le-suc}
use lib.Ieee.{Float}
use lib.ListN.{length, take}
use Rattle.candidates.specs.declared.Candidate.{Candidate}
use Rattle.evolution.specs.declared.Member.{Member}
use Rattle.selection.specs.Select.{survivor_of, selected, stored}

stored-none : (cs : List Candidate) → stored cs [] ≡ []
unfolding stored
stored-none [] = refl
stored-none (c ∷ cs) = refl

pub stored-take : (n : ℕ) (cs : List Candidate) (rs : List Float) → length rs ≤ n → stored (take n cs) rs ≡ stored cs rs
unfolding stored
stored-take n cs [] h = stored-none (take n cs) ∙ sym (stored-none cs)
stored-take zero cs (r ∷ rs) h = absurd (not-suc-le-zero h)
stored-take (suc n) [] (r ∷ rs) h = refl
stored-take (suc n) (c ∷ cs) (r ∷ rs) h = ap (λ (l : List Member). record { candidate = c; value = r } ∷ l) (stored-take n cs rs (le_of_suc-le-suc h))

selected-none : (ps : List Member) (cs : List Candidate) → selected ps cs [] ≡ []
unfolding selected
selected-none [] cs = refl
selected-none (p ∷ ps) [] = refl
selected-none (p ∷ ps) (c ∷ cs) = refl

pub selected-take : (n : ℕ) (ps : List Member) (cs : List Candidate) (rs : List Float) → length rs ≤ n → selected ps (take n cs) rs ≡ selected ps cs rs
unfolding selected
selected-take n ps cs [] h = selected-none ps (take n cs) ∙ sym (selected-none ps cs)
selected-take zero ps cs (r ∷ rs) h = absurd (not-suc-le-zero h)
selected-take (suc n) [] cs (r ∷ rs) h = refl
selected-take (suc n) (p ∷ ps) [] (r ∷ rs) h = refl
selected-take (suc n) (p ∷ ps) (c ∷ cs) (r ∷ rs) h = ap (λ (l : List Member). survivor_of p c r ∷ l) (selected-take n ps cs rs (le_of_suc-le-suc h))
