-- The indices of a slot: below N, other than the slot and than each other, and how many draws they take.
use Prim.Native.Nat.{ℕ, ◌+◌, ◌<◌, ◌≤◌}
use native.Mathlib.Omega.{arith}
use mathlib.Core.Path.{◌≡◌, ap, ◌∙◌}
use mathlib.Core.Bool.{Bool, true, false, cond}
use mathlib.Core.List.{List, [], ◌∷◌}
use borrow.Author.Tests.{eq-eqb, ne_eqb}
use lib.Dec.{eqb}
use Rattle.rng_util.specs.Gen.{Made, made}
use Rattle.rng_util.specs.declared.Gen.{Gen}
use Rattle.rng_util.proofs.Parts.{drew}
use Rattle.evolution.specs.Select.{select_index, first_index, second_index, three_of, indices_of}
use Rattle.evolution.specs.declared.Indices.{Indices}
use Rattle.evolution.proofs.Free.{select-free, select-below, select-draws, free-first, free-rest}

-- two of them, always
pub record Apart (N i : ℕ) (t : Indices) : Type 0 where
  pub below_1 : t.r1 < N
  pub below_2 : t.r2 < N
  pub other_1 : t.r1 ≡ i → ⊥
  pub other_2 : t.r2 ≡ i → ⊥
  pub apart : t.r2 ≡ t.r1 → ⊥

-- and a third, for Rand1
pub record ThreeApart (N i : ℕ) (t : Indices) : Type 0 where
  pub two : Apart N i t
  pub below_3 : t.r3 < N
  pub other_3 : t.r3 ≡ i → ⊥
  pub apart_1 : t.r3 ≡ t.r1 → ⊥
  pub apart_2 : t.r3 ≡ t.r2 → ⊥

module _ (count N i : ℕ) (g : Gen) where
  abbrev one : Made ℕ
  one = first_index N i g

  abbrev two : Made ℕ
  two = second_index N i one

  pub indices-apart : 4 ≤ N → Apart N i (indices_of count N i g).out
  unfolding indices_of
  indices-apart h =
      let f = select-free N (i ∷ one.out ∷ []) (omega arith) 1024 one.after in
      record {
        below_1 = select-below N (i ∷ []) h 1024 g;
        below_2 = select-below N (i ∷ one.out ∷ []) h 1024 one.after;
        other_1 = free-first i [] _ (select-free N (i ∷ []) (omega arith) 1024 g);
        other_2 = free-first i (one.out ∷ []) _ f;
        apart = free-first one.out [] _ (free-rest i (one.out ∷ []) _ f);
      }

  -- the third is a slot in any case
  pub third-below : 4 ≤ N → i < N → (indices_of count N i g).out.r3 < N
  unfolding indices_of
  third-below h l = go (eqb count 3)
    where
      go : (t : Bool) → (cond t (select_index N (i ∷ one.out ∷ two.out ∷ []) two.after) (made i two.after)).out < N
      go true = select-below N (i ∷ one.out ∷ two.out ∷ []) h 1024 two.after
      go false = l

  two-draws : two.after.draws ≤ g.draws + 2048
  two-draws = omega (arith, select-draws N (i ∷ []) 1024 g, select-draws N (i ∷ one.out ∷ []) 1024 one.after)

  -- "1,024 .. draws for one index": 3,072 for three, 2,048 for two
  pub indices-draws : (indices_of count N i g).after.draws ≤ g.draws + 3072
  unfolding indices_of
  indices-draws = go (eqb count 3)
    where
      go : (t : Bool) → (cond t (select_index N (i ∷ one.out ∷ two.out ∷ []) two.after) (made i two.after)).after.draws ≤ g.draws + 3072
      go true = omega (arith, two-draws, select-draws N (i ∷ one.out ∷ two.out ∷ []) 1024 two.after)
      go false = omega (arith, two-draws)

  pub indices-draws-two : (count ≡ 3 → ⊥) → (indices_of count N i g).after.draws ≤ g.draws + 2048
  unfolding indices_of
  indices-draws-two n = rw (ne_eqb count 3 n) two-draws

module _ (N i : ℕ) (g : Gen) where
  pub three-apart : 4 ≤ N → ThreeApart N i (indices_of 3 N i g).out
  unfolding indices_of
  three-apart h =
      let a = first_index N i g in
      let b = second_index N i a in
      let f = select-free N (i ∷ a.out ∷ b.out ∷ []) (omega arith) 1024 b.after in
      let r = free-rest i (a.out ∷ b.out ∷ []) _ f in
      record {
        two = indices-apart 3 N i g h;
        below_3 = select-below N (i ∷ a.out ∷ b.out ∷ []) h 1024 b.after;
        other_3 = free-first i (a.out ∷ b.out ∷ []) _ f;
        apart_1 = free-first a.out (b.out ∷ []) _ r;
        apart_2 = free-first b.out [] _ (free-rest a.out (b.out ∷ []) _ r);
      }

-- ---- as the code draws them

pub drew-index : (N : ℕ) (ts : List ℕ) (r : ℕ) (g g' : Gen) → made r g' ≡ select_index N ts g → g'.draws ≤ g.draws + 1024
drew-index N ts r g g' e = omega (arith, drew e, select-draws N ts 1024 g)

module _ (count N i : ℕ) (g g₁ g₂ : Gen) (r₁ r₂ : ℕ) (e : made r₁ g₁ ≡ first_index N i g) (f : made r₂ g₂ ≡ select_index N (i ∷ r₁ ∷ []) g₁) where
  second-is : made r₂ g₂ ≡ second_index N i (first_index N i g)
  second-is = f ∙ ap (second_index N i) e

  pub got-three : (r₃ : ℕ) (g₃ : Gen) → count ≡ 3 → made r₃ g₃ ≡ select_index N (i ∷ r₁ ∷ r₂ ∷ []) g₂ → made {A = Indices} (record { r1 = r₁; r2 = r₂; r3 = r₃ }) g₃ ≡ indices_of count N i g
  unfolding indices_of
  got-three r₃ g₃ n q =
      let h : made r₃ g₃ ≡ select_index N (i ∷ (first_index N i g).out ∷ (second_index N i (first_index N i g)).out ∷ []) (second_index N i (first_index N i g)).after =
      q ∙ (λ t. select_index N (i ∷ (e t).out ∷ (second-is t).out ∷ []) (second-is t).after) in
      rw (eq-eqb count 3 n) (λ t. three_of (e t) (second-is t) (h t))

  pub got-two : (count ≡ 3 → ⊥) → made {A = Indices} (record { r1 = r₁; r2 = r₂; r3 = i }) g₂ ≡ indices_of count N i g
  unfolding indices_of
  got-two n = rw (ne_eqb count 3 n) (λ t. three_of (e t) (second-is t) (made i (second-is t).after))

module _ (count N i : ℕ) (g g' : Gen) (t : Indices) (h : 4 ≤ N) (l : i < N) (e : made t g' ≡ indices_of count N i g) where
  pub in-range : (t.r1 < N) × (t.r2 < N) × (t.r3 < N)
  in-range =
      let p = indices-apart count N i g h in
      let q : t ≡ (indices_of count N i g).out = ap (λ (m : Made Indices). m.out) e in
      rw q (p.below_1, p.below_2, third-below count N i g h l)
