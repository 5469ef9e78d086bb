-- What a whole history says: whether refusal 8 applies, and the value of a trial.
use Rattle.std.specs.Prelude.{ℕ, Bool, false, ◌||◌, cond, List, [], ◌∷◌, eqb, Float, Option, Some, None}
use Rattle.history.specs.Entry.{is_bad, counted_value}
use Rattle.history.specs.declared.CompletedTrial.{CompletedTrial}

-- refusal 8: "a history value is NaN", "narrowed to complete entries" (02, W6)
unfoldable pub any_nan : List CompletedTrial → Bool
any_nan [] = false
any_nan (e ∷ es) = is_bad e || any_nan es

-- "If a number stands twice, its last entry counts": from the first entry to the last, each with the number m puts what it gives in place of a, which was given before
unfoldable pub latest : {A : Type 0} → (CompletedTrial → A) → ℕ → List CompletedTrial → A → A
latest give m [] a = a
latest give m (e ∷ es) a = latest give m es (cond (eqb e.number m) (give e) a)

-- the counted value of the last entry with the number m; o, what was found before, where no entry has it
abbrev pub last_of : ℕ → List CompletedTrial → Option Float → Option Float
last_of m h o = latest (λ (e : CompletedTrial). Some (counted_value e)) m h o

-- the same, with nothing found before
abbrev pub last_value : ℕ → List CompletedTrial → Option Float
last_value m h = last_of m h None
