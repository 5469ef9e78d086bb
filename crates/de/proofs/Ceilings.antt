-- The ceiling for callers, case by case: by N and D alone, whatever the call does.
use Prim.Native.Nat.{ℕ, ◌+◌, ◌*◌, ◌≤◌, ◌<◌}
use native.Mathlib.Nat.{mul-le-mul}
use native.Mathlib.Omega.{arith}
use mathlib.Core.Path.{◌≡◌, refl}
use mathlib.Core.Bool.{Bool, true, false, ◌&&◌, cond}
use borrow.Author.Tests.{leb-true, lt-leb, le-leb, eq-eqb, ne_eqb}
use lib.Dec.{eqb, leb}
use Rattle.evolution.specs.Select.{index_count}
use Rattle.evolution.specs.declared.DEStrategy.{DEStrategy}
use Rattle.evolution.specs.declared.DEStrategy.TheVariants.{Rand1, Best1, CurrentToBest1}
use Rattle.kernel.specs.Ceiling.{per_slot, generation_ceiling}
use Rattle.de.specs.Ceiling.{call_ceiling, ceiling_for, most_draws}

pub slot-few : (q : DEStrategy) → per_slot q ≤ 3072
slot-few Rand1 = omega arith
slot-few Best1 = omega arith
slot-few CurrentToBest1 = omega arith

-- 1,024 draws for each index
pub slot-is : (q : DEStrategy) → 1024 * index_count q ≡ per_slot q
slot-is Rand1 = refl
slot-is Best1 = refl
slot-is CurrentToBest1 = refl

pub indices-few : (q : DEStrategy) → index_count q ≤ 3
indices-few Rand1 = omega arith
indices-few Best1 = omega arith
indices-few CurrentToBest1 = omega arith

pub ruleset slots = (slot-is, indices-few)

module _ (q : DEStrategy) (N D : ℕ) where
  pub no_slots : 160 < N → 0 ≡ ceiling_for q N D
  unfolding ceiling_for
  no_slots h = rw (lt-leb N 160 h)

  module _ (n : N ≤ 160) where
    pub no-dims : 16 < D → 0 ≡ ceiling_for q N D
    unfolding ceiling_for
    no-dims h = rw (le-leb N 160 n, lt-leb D 16 h)

    module _ (d : D ≤ 16) where
      pub within : ceiling_for q N D ≡ call_ceiling q N D
      unfolding ceiling_for
      within = rw (le-leb N 160 n, le-leb D 16 d)

      pub before-slots : N ≡ 0 → D ≡ ceiling_for q N D
      before-slots e = rw (within, eq-eqb N 0 e)

      pub with-slots : (N ≡ 0 → ⊥) → generation_ceiling q N D ≡ ceiling_for q N D
      with-slots e = rw (within, ne_eqb N 0 e)

      -- 160 × (3,072 + 16)
      pub generation-most : generation_ceiling q N D ≤ most_draws
      generation-most = mul-le-mul {n₁ = N} {m₁ = per_slot q + D} {n₂ = 160} {m₂ = 3088} n (omega (arith, slot-few q))

  pub ceiling-most : ceiling_for q N D ≤ most_draws
  unfolding ceiling_for
  ceiling-most = go (leb N 160) refl (leb D 16) refl (eqb N 0)
    where
      go : (a : Bool) → leb N 160 ≡ a → (b : Bool) → leb D 16 ≡ b → (z : Bool) → cond (a && b) (cond z D (generation_ceiling q N D)) 0 ≤ most_draws
      go true n true d true = omega (arith, leb-true D 16 d)
      go true n true d false = generation-most (leb-true N 160 n) (leb-true D 16 d)
      go true n false d z = omega arith
      go false n b d z = omega arith

-- one dimension more draws no less
pub ceiling-grows : (q : DEStrategy) (N C D : ℕ) → N ≤ 160 → C ≤ D → D ≤ 16 → ceiling_for q N C ≤ ceiling_for q N D
ceiling-grows q N C D n l d = rw (within q N C n (omega arith), within q N D n d) (go (eqb N 0))
  where
    go : (z : Bool) → cond z C (generation_ceiling q N C) ≤ cond z D (generation_ceiling q N D)
    go true = l
    go false = mul-le-mul {n₁ = N} {m₁ = per_slot q + C} {n₂ = N} {m₂ = per_slot q + D} (omega arith) (omega arith)

pub ruleset ceilings = (no_slots, no-dims, before-slots, with-slots)
