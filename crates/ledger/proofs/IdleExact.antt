-- What `idle_on` counts: the closed generations since one last lowered the least, and there is one such number only. Idea: one generation more either lowers the least, and the count starts
-- again, or does not, and the one that did before is still the last; the results before it are the ledger's, whichever way the generations are listed.
use Rattle.std.specs.Prelude.{Some, slice_get}
use Rattle.ledger.specs.Words.{All}
use Rattle.ledger.specs.Ledger.{Generation, result_in}
use Rattle.ledger.specs.Idle.{results_in, lowers, idle_since, idle_on, Lowered, IdleFor}
use Rattle.ledger.proofs.Lists.{none≢some, true→T, snoc-length, result-below, Earlier, result-cases, result-old, result-new}
use Rattle.ledger.proofs.Idle.{all_results, result-of, result-among, lowered, lowers-by}
use mathlib.Core.Path.{◌≡◌, refl, sym, subst}
use mathlib.Core.Logic.{inl, inr}
use mathlib.Core.Bool.{Bool, true, false, cond}
use mathlib.Core.List.{List, [], ◌∷◌, ◌++◌, reverse, reverse-cons, reverse-reverse}
use Prim.Native.Nat.{ℕ, suc, ◌+◌, ◌-◌, ◌≤◌, ◌<◌}
use native.Mathlib.Decide.{dec_le}
use native.Mathlib.Omega.{arith}
use lib.Dec.{T}
use lib.ListN.{length}
use lib.Ieee.{Float, lt}

restrict : (gs : List Generation) (new : Generation) (g : ℕ) → g < length gs → Lowered (gs ++ (new ∷ [])) g → Lowered gs g
restrict gs new g l a = record { slot = a.slot; value = a.value; counted = old (result-cases gs new g a.slot a.value a.counted); smaller = λ h i w b e. a.smaller h i w b (result-old gs new h i w e) }
  where
    old : Earlier gs new g a.slot a.value → result_in gs g a.slot ≡ Some a.value
    old (inl x) = x
    old (inr x) = absurd (omega (arith, x.0))

-- where one generation more has closed
module _ (gs : List Generation) (new : Generation) where
  extend : (g : ℕ) → g < length gs → Lowered gs g → Lowered (gs ++ (new ∷ [])) g
  extend g l a = record { slot = a.slot; value = a.value; counted = result-old gs new g a.slot a.value a.counted; smaller = λ h i w b e. older h i w b (result-cases gs new h i w e) }
    where
      older : (h i : ℕ) (w : Float) → h < g → Earlier gs new h i w → T (lt a.value w)
      older h i w b (inl x) = a.smaller h i w b x
      older h i w b (inr x) = absurd (omega (arith, x.0))

  now-lowers : T (lowers (all_results gs) new.results) → Lowered (gs ++ (new ∷ [])) (length gs)
  now-lowers t =
      let r = lowered (all_results gs) new.results t in
      record { slot = r.0; value = r.1; counted = result-new gs new r.0 r.1 r.2; smaller = λ h i w b e. under r.1 r.3 h i w b (result-cases gs new h i w e) }
    where
      under : (v : Float) → All (λ w. T (lt v w)) (all_results gs) → (h i : ℕ) (w : Float) → h < length gs → Earlier gs new h i w → T (lt v w)
      under v a h i w b (inl x) = a w (result-among gs h i w x)
      under v a h i w b (inr x) = absurd (omega (arith, x.0))

  lowers-now : (v : Float) (i : ℕ) → slice_get new.results i ≡ Some v → ((h j : ℕ) (w : Float) → h < length gs → result_in (gs ++ (new ∷ [])) h j ≡ Some w → T (lt v w)) → T (lowers (all_results gs) new.results)
  lowers-now v i e below =
      lowers-by (all_results gs) new.results i v e
      (λ w m. let r = result-of gs w m in below r.0 r.1 w (result-below gs r.0 r.1 w r.2) (result-old gs new r.0 r.1 w r.2))

  one_more : (n : ℕ) → IdleFor gs n → IdleFor (gs ++ (new ∷ [])) (cond (lowers (all_results gs) new.results) 0 (suc n))
  one_more n f = go (lowers (all_results gs) new.results) refl
    where
      many : length (gs ++ (new ∷ [])) ≡ suc (length gs)
      many = snoc-length gs new

      go : (b : Bool) → lowers (all_results gs) new.results ≡ b → IdleFor (gs ++ (new ∷ [])) (cond b 0 (suc n))
      go true e =
          record {
            within = omega arith;
            since = λ g l a. omega (arith, result-below (gs ++ (new ∷ [])) g a.slot a.value a.counted);
            last = λ g l. subst (Lowered (gs ++ (new ∷ []))) (omega (arith, many)) (now-lowers (true→T (lowers (all_results gs) new.results) e));
          }
      go false e =
          record {
            within = omega (arith, many, f.within);
            since = λ g l a. not-since g (omega (arith, many)) a (result-cases gs new g a.slot a.value a.counted);
            last = λ g l. let k : length gs ≡ suc (g + n) = omega (arith, many) in extend g (omega arith) (f.last g k);
          }
        where
          not-since : (g : ℕ) → length gs ≤ g + n → (a : Lowered (gs ++ (new ∷ [])) g) → Earlier gs new g a.slot a.value → ⊥
          not-since g l a (inl x) = f.since g l (restrict gs new g (result-below gs g a.slot a.value x) a)
          not-since g l a (inr x) =
              subst T e (lowers-now a.value a.slot x.1 (λ h j w b y. a.smaller h j w (omega (arith, x.0)) y))

-- by the generations, the latest first
exact-since : (ls : List Generation) → IdleFor (reverse ls) (idle_since ls)
unfolding idle_since
exact-since [] = record { within = omega arith; since = λ g l a. none≢some a.counted; last = λ g l. absurd (omega arith) }
exact-since (g ∷ ls) =
    subst (λ (l : List Generation). IdleFor l (idle_since (g ∷ ls))) (sym (reverse-cons g ls))
    (subst (λ (l : List Generation). IdleFor (reverse ls ++ (g ∷ [])) (cond (lowers (results_in l) g.results) 0 (suc (idle_since ls)))) (reverse-reverse ls) (one_more (reverse ls) g (idle_since ls) (exact-since ls)))

-- `idle_on` counts that
pub idle-exact : (gs : List Generation) → IdleFor gs (idle_on gs)
idle-exact gs = subst (λ (l : List Generation). IdleFor l (idle_on gs)) (reverse-reverse gs) (exact-since (reverse gs))

-- and there is one such number only
pub idle-only : (gs : List Generation) (m n : ℕ) → IdleFor gs m → IdleFor gs n → m ≡ n
idle-only gs m n a b = go (dec_le m n) (dec_le n m)
  where
    no_less : (i j : ℕ) → IdleFor gs i → IdleFor gs j → i < j → ⊥
    no_less i j x y l = y.since (length gs - suc i) (omega (arith, x.within)) (x.last (length gs - suc i) (omega (arith, y.within)))

    go : Dec (m ≤ n) → Dec (n ≤ m) → m ≡ n
    go (yes p) (yes q) = omega arith
    go (no p) q = absurd (no_less n m b a (omega arith))
    go (yes p) (no q) = absurd (no_less m n a b (omega arith))
