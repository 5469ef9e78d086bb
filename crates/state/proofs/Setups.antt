-- Document 01's small inputs of refusals 1 to 3, and the limits on both sides: all by computation.
use Rattle.std.specs.Prelude.{Option, Some, None}
use Prim.Native.Nat.{ℕ}
use mathlib.Core.Path.{◌≡◌, refl}
use mathlib.Core.List.{[], ◌∷◌, map}
use mathlib.Core.Bool.{true, false}
use lib.Ieee.{Float, nan, inf, neg, lt, is_nan}
use Rattle.distribution.specs.Validate.{refusal_of}
use Rattle.distribution.proofs.Examples.{dec, next}
use Rattle.evolution.specs.declared.BoundsRule.TheVariants.{Clamp}
use Rattle.evolution.specs.declared.DEStrategy.TheVariants.{Best1}
use Rattle.kernel.specs.Setup.{setup_verdict}

-- the refusal of a set-up of F, CR and a size, by its number
abbrev judged : Float → Float → Option ℕ → Option ℕ
judged F CR k =
    refusal_of (setup_verdict (record { mutation_factor = F; crossover_rate = CR; strategy = Best1; population_size = k; seed = 0; bounds_rule = Clamp }))

-- the table's column "Small input", and a set-up that passes
pub small-inputs :
    judged (dec 25 1) (dec 5 1) None
    ∷ judged (dec 5 1) (neg (dec 1 1)) None
    ∷ judged (dec 5 1) (dec 5 1) (Some 161)
    ∷ judged (dec 5 1) (dec 5 1) (Some 160)
    ∷ []
    ≡ Some 1 ∷ Some 2 ∷ Some 3 ∷ None ∷ []
unfolding setup_verdict dec neg lt is_nan
small-inputs = refl

-- 1: from 0 of either sign to 2, and no more; neither NaN nor an infinity
pub factors :
    map (λ (F : Float). judged F (dec 5 1) None)
    (dec 0 0 ∷ neg (dec 0 0) ∷ dec 2 0 ∷ next (dec 2 0) ∷ neg (next (dec 0 0)) ∷ nan ∷ inf false ∷ inf true ∷ [])
    ≡ None ∷ None ∷ None ∷ Some 1 ∷ Some 1 ∷ Some 1 ∷ Some 1 ∷ Some 1 ∷ []
unfolding setup_verdict dec next neg lt is_nan
factors = refl

-- 2: from 0 of either sign to 1, and no more; neither NaN nor an infinity
pub rates :
    map (λ (CR : Float). judged (dec 5 1) CR None)
    (dec 0 0 ∷ neg (dec 0 0) ∷ dec 1 0 ∷ next (dec 1 0) ∷ neg (next (dec 0 0)) ∷ nan ∷ inf false ∷ inf true ∷ [])
    ≡ None ∷ None ∷ None ∷ Some 2 ∷ Some 2 ∷ Some 2 ∷ Some 2 ∷ Some 2 ∷ []
unfolding setup_verdict dec next neg lt is_nan
rates = refl

-- 3: 160 at most; 0 passes, and is raised to 4 later
pub sizes :
    map (λ (k : Option ℕ). judged (dec 5 1) (dec 5 1) k) (None ∷ Some 0 ∷ Some 4 ∷ Some 160 ∷ Some 161 ∷ Some 18446744073709551615 ∷ [])
    ≡ None ∷ None ∷ None ∷ None ∷ Some 3 ∷ Some 3 ∷ []
unfolding setup_verdict dec lt is_nan
sizes = refl

-- "The first that applies, in this order"
pub first-applies :
    judged nan nan (Some 161) ∷ judged (dec 5 1) nan (Some 161) ∷ judged (dec 5 1) (dec 5 1) (Some 161) ∷ []
    ≡ Some 1 ∷ Some 2 ∷ Some 3 ∷ []
unfolding setup_verdict dec lt is_nan
first-applies = refl
