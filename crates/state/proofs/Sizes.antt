-- N is 160 at most where the set-up passes 3 and there are at most 16 continuous dimensions.
use Rattle.std.specs.Prelude.{Option, Some, None, Result, Ok, Err, ⊤, is_ok, is_err}
use Prim.Native.Nat.{ℕ, ◌≤◌}
use native.Mathlib.Omega.{arith}
use mathlib.Core.Path.{◌≡◌, refl, sym}
use mathlib.Core.Bool.{Bool, true, false, true≢false}
use borrow.Author.Tests.{ltb-false}
use Rattle.distribution.specs.Validate.{refused_if}
use Rattle.distribution.specs.declared.Refusal.{Refusal}
use Rattle.distribution.specs.declared.Refusal.TheVariants.{MutationFactor, CrossoverRate, PopulationSize}
use Rattle.evolution.specs.declared.Setup.{Setup}
use Rattle.selection.specs.Size.{size_of}
use Rattle.kernel.specs.Setup.{factor_fails, rate_fails, size_fails, setup_verdict}
use Rattle.kernel.proofs.Kernel.{row}

-- a set-up that passes 1 to 3 passes 3
pub size-passes : (S : Setup) → is_ok (setup_verdict S) ≡ true → size_fails S.population_size ≡ false
unfolding setup_verdict
size-passes S e =
    let one = row (factor_fails S.mutation_factor) MutationFactor _ e in
    let two = row (rate_fails S.crossover_rate) CrossoverRate _ one.1 in
    (row (size_fails S.population_size) PopulationSize (Ok tt) two.1).0

few : (k : Option ℕ) (n : ℕ) → size_fails k ≡ false → n ≤ 16 → size_of k n ≤ 160
few None n e h = omega arith
few (Some k) n e h = let q = ltb-false 160 k e in omega arith

pub size_few : (S : Setup) (n : ℕ) → is_ok (setup_verdict S) ≡ true → n ≤ 16 → size_of S.population_size n ≤ 160
size_few S n e h = few S.population_size n (size-passes S e) h

pub not-err : (v : Result ⊤ Refusal) → is_err v ≡ false → is_ok v ≡ true
not-err (Ok u) e = refl
not-err (Err r) e = absurd (true≢false e)

pub ruleset sizes = (size_few, not-err)
