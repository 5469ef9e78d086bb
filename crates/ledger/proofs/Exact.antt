-- What the ledger reads in a history, said without its definition: the demand is held against these. The theorem does not need them: what the sampler's
-- definition and the ledger share, or read alike, it could not tell from a common mistake.
use Rattle.std.specs.Prelude.{Some, None, slice_get}
use Rattle.ledger.specs.Words.{or_else, All}
use Rattle.ledger.specs.Kernel.{Kernel}
use Rattle.ledger.specs.Call.{any_bad}
use Rattle.ledger.specs.Ledger.{OpenTrial, last_of, first_results}
use Rattle.ledger.proofs.Lists.{none≢some, some_inj, bind-some, all_nil}
use Rattle.ledger.proofs.Results.{or-false}
use mathlib.Core.Path.{◌≡◌, refl, sym, ap, ◌∙◌}
use mathlib.Core.Bool.{Bool, true, false, ◌||◌, cond, true≢false}
use mathlib.Core.List.{List, [], ◌∷◌, ◌++◌, Memᴰ}
use Prim.Native.Nat.{ℕ, zero, suc}
use lib.Dec.{eqb}
use lib.ListN.{length}
use lib.Ieee.{Float}

module _ (K : Kernel) where
  open K use {Entry, number_of, value_of, is_bad}

  -- the last entry of a number counts, whatever stands before it
  pub last-counts : (h : List Entry) (e : Entry) (n : ℕ) → last_of K (h ++ (e ∷ [])) n ≡ cond (eqb (number_of e) n) (Some (value_of e)) (last_of K h n)
  unfolding last_of
  last-counts [] e n = refl
  last-counts (x ∷ xs) e n = rw (last-counts xs e n) (go (eqb (number_of e) n))
    where
      go : (b : Bool) → or_else (cond b (Some (value_of e)) (last_of K xs n)) (cond (eqb (number_of x) n) (Some (value_of x)) None) ≡ cond b (Some (value_of e)) (last_of K (x ∷ xs) n)
      go true = refl
      go false = refl

  -- refusal 8 is for a history exactly where it is for one of its entries
  pub bad-exact : (h : List Entry) → (any_bad K h ≡ true → (e : Entry) × Memᴰ e h × (is_bad e ≡ true)) × (any_bad K h ≡ false → All (λ e. is_bad e ≡ false) h)
  unfolding any_bad
  bad-exact [] = (λ x. absurd (true≢false (sym x)), λ x. all_nil (λ e. is_bad e ≡ false))
  bad-exact (e ∷ es) = let i = bad-exact es in (go (is_bad e) refl i.0, λ x. none-bad (or-false (is_bad e) (any_bad K es) x) i.1)
    where
      go : (b : Bool) → is_bad e ≡ b → (any_bad K es ≡ true → (x : Entry) × Memᴰ x es × (is_bad x ≡ true)) → (b || any_bad K es) ≡ true → (x : Entry) × Memᴰ x (e ∷ es) × (is_bad x ≡ true)
      go true q i y = (e, Memᴰ.head refl, q)
      go false q i y = let z = i y in (z.0, Memᴰ.tail z.1, z.2)

      none-bad : (is_bad e ≡ false) × (any_bad K es ≡ false) → (any_bad K es ≡ false → All (λ x. is_bad x ≡ false) es) → All (λ x. is_bad x ≡ false) (e ∷ es)
      none-bad q i x (Memᴰ.head y) = ap is_bad y ∙ q.0
      none-bad q i x (Memᴰ.tail m) = i q.1 x m

  -- A row says of each slot one result, the last value of the trial at its place.
  pub row-exact : (N : ℕ) (os : List OpenTrial) (h : List Entry) (row : List Float) → first_results K N os h ≡ Some row
      → (length row ≡ N) × ((i : ℕ) (v : Float) → slice_get row i ≡ Some v → (o : OpenTrial) × (slice_get os i ≡ Some o) × (last_of K h o.number ≡ Some v))
  unfolding first_results
  row-exact zero os h row e = (ap length (sym (some_inj e)), λ i v x. absurd (none≢some (ap (λ (r : List Float). slice_get r i) (some_inj e) ∙ x)))
  row-exact (suc n) [] h row e = absurd (none≢some e)
  row-exact (suc n) (o ∷ os) h row e =
      let p = bind-some (last_of K h o.number) _ row e in
      let q = bind-some (first_results K n os h) _ row p.2 in
      let r = row-exact n os h q.0 q.1 in
      (ap length (sym (some_inj q.2)) ∙ ap suc r.0, λ i v x. at p.0 q.0 p.1 r.1 i v (ap (λ (z : List Float). slice_get z i) (some_inj q.2) ∙ x))
    where
      at : (w : Float) (ws : List Float) → last_of K h o.number ≡ Some w → ((j : ℕ) (u : Float) → slice_get ws j ≡ Some u → (z : OpenTrial) × (slice_get os j ≡ Some z) × (last_of K h z.number ≡ Some u))
          → (i : ℕ) (v : Float) → slice_get (w ∷ ws) i ≡ Some v → (z : OpenTrial) × (slice_get (o ∷ os) i ≡ Some z) × (last_of K h z.number ≡ Some v)
      at w ws a r zero v x = (o, refl, a ∙ x)
      at w ws a r (suc j) v x = r j v x
