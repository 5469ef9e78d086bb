-- What the code's selection does at a closing is what the ledger's definition says: slot by slot, the two records of a parent side by side. Idea: plain recursion; the two ways to find the
-- best slot are one by selection's `best-is`.
use mathlib.Core.Path.{◌≡◌, refl, ap, ap₂, ◌∙◌}
use mathlib.Core.Logic.{◌≢◌}
use mathlib.Core.Bool.{Bool, true, false, cond}
use mathlib.Core.List.Memᴰ
use mathlib.Core.List.{List, [], ◌∷◌, map}
use Prim.Native.Nat.{ℕ}
use lib.Ieee.{Float, nan, inf, le}
use lib.ListN.{get_or}
use Rattle.candidates.specs.declared.Candidate.{Candidate}
use Rattle.evolution.specs.declared.Member.{Member}
use Rattle.selection.specs.Select.{survivor_of, selected, stored}
use Rattle.selection.specs.Best.{values, best_slot, least_value}
use Rattle.selection.proofs.Best.{Numbers, best-is}
use Rattle.ledger.specs.Words.{All}
use Rattle.ledger.specs.Kernel.{Parent}
use Rattle.ledger.specs.State as State
use Rattle.ledger.specs.Closing as Closing
use Rattle.ledger.proofs.Lists.{all_nil}
use Rattle.kernel.specs.De.{member_of, de}
use Rattle.kernel.proofs.Fit.{all_cons}

-- "The first closing stores candidates and values"
pub link-store : (cs : List Candidate) (rs : List Float) → map member_of (Closing.store de cs rs) ≡ stored cs rs
unfolding Closing.store stored
link-store [] rs = refl
link-store (c ∷ cs) [] = refl
link-store (c ∷ cs) (r ∷ rs) = ap (λ (l : List Member). record { candidate = c; value = r } ∷ l) (link-store cs rs)

-- "a later one replaces the parent when the result is at most the parent's"
pub link-select : (ps : List (Parent Candidate)) (cs : List Candidate) (rs : List Float) → map member_of (Closing.select de ps cs rs) ≡ selected (map member_of ps) cs rs
unfolding Closing.select selected survivor_of
link-select [] cs rs = refl
link-select (p ∷ ps) [] rs = refl
link-select (p ∷ ps) (c ∷ cs) [] = refl
link-select (p ∷ ps) (c ∷ cs) (r ∷ rs) = go (le r p.value) (link-select ps cs rs)
  where
    go : (t : Bool) → map member_of (Closing.select de ps cs rs) ≡ selected (map member_of ps) cs rs
        → member_of (cond t (record { candidate = c; value = r }) p) ∷ map member_of (Closing.select de ps cs rs) ≡ cond t (record { candidate = c; value = r }) (member_of p) ∷ selected (map member_of ps) cs rs
    go true e = ap (λ (l : List Member). record { candidate = c; value = r } ∷ l) e
    go false e = ap (λ (l : List Member). member_of p ∷ l) e

pub link-values : (ps : List (Parent Candidate)) → values (map member_of ps) ≡ State.values de ps
link-values [] = refl
link-values (p ∷ ps) = ap (λ (l : List Float). p.value ∷ l) (link-values ps)

-- "Best slot: first least": sound values are not NaN
pub link-best : (ps : List (Parent Candidate)) → All (λ p. p.value ≢ nan) ps → best_slot (values (map member_of ps)) ≡ Closing.best_of (State.values de ps)
link-best ps h = best-is (values (map member_of ps)) (numbers ps h) ∙ ap Closing.best_of (link-values ps)
  where
    numbers : (qs : List (Parent Candidate)) → All (λ p. p.value ≢ nan) qs → Numbers (values (map member_of qs))
    numbers [] k = all_nil (λ v. v ≢ nan)
    numbers (q ∷ qs) k = all_cons (λ v. v ≢ nan) q.value (values (map member_of qs)) (k q (Memᴰ.head refl)) (numbers qs (λ a t. k a (Memᴰ.tail t)))

-- the least of all slots
pub link-least : (ps : List (Parent Candidate)) → All (λ p. p.value ≢ nan) ps → least_value (values (map member_of ps)) ≡ Closing.least_of (State.values de ps)
link-least ps h = ap₂ (λ (vs : List Float) (b : ℕ). get_or vs b (inf false)) (link-values ps) (link-best ps h)
