-- The words that are neither keywords nor numbers.
use Rattle.std.specs.Prelude.{ℕ, true, false, Bool, cond, List, Option, Some, None, option_map, MatchBool, ◌≡◌}
use Rattle.evolution.specs.declared.BoundsRule.{BoundsRule}
use Rattle.evolution.specs.declared.BoundsRule.TheVariants.{Clamp, Midpoint}
use Rattle.evolution.specs.declared.DEStrategy.{DEStrategy}
use Rattle.evolution.specs.declared.DEStrategy.TheVariants.{Rand1, Best1, CurrentToBest1}
use Rattle.history.specs.declared.TrialState.{TrialState}
use Rattle.history.specs.declared.TrialState.TheVariants.{Complete, Pruned, Failed}
use Rattle.script.specs.Words.{is}

-- "SCALE is `lin` or `log`"
unfoldable pub scale_of : List ℕ → Option Bool
scale_of w = cond (is w "lin") (Some false) (cond (is w "log") (Some true) None)

-- "STEP is `-` or a double", "SIZE is `-` (unset) or an unsigned 64-bit number": `-`, or what a number is read as
abbrev pub unset_or : {A : Type 0} → Option A → List ℕ → Option (Option A)
unset_or number w = cond (is w "-") (Some None) (option_map Some number)

-- the same of what a reader may read a word as
abbrev pub OptionalBy : {A : Type 0} → (Option A → Type 0) → List ℕ → Option (Option A) → Type 0
OptionalBy reads w r = MatchBool (is w "-") (r ≡ Some None) ((number : Option _) × reads number × (r ≡ option_map Some number))

-- "STATE is `complete`, `pruned` or `failed`"
unfoldable pub state_of : List ℕ → Option TrialState
state_of w =
    cond (is w "complete") (Some Complete)
    (cond (is w "pruned") (Some Pruned)
    (cond (is w "failed") (Some Failed) None))

-- "STRATEGY is `rand1`, `best1` or `current-to-best1`"
unfoldable pub strategy_of : List ℕ → Option DEStrategy
strategy_of w =
    cond (is w "rand1") (Some Rand1)
    (cond (is w "best1") (Some Best1)
    (cond (is w "current-to-best1") (Some CurrentToBest1) None))

-- "RULE is `clamp` or `midpoint`"
unfoldable pub rule_of : List ℕ → Option BoundsRule
rule_of w = cond (is w "clamp") (Some Clamp) (cond (is w "midpoint") (Some Midpoint) None)
