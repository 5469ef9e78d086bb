-- What one entry of a history counts as (document 02, W6: "A completed trial now also holds its state: complete, pruned or failed").
use Rattle.std.specs.Prelude.{ℕ, Bool, true, false, ◌&&◌, cond, eqb, Option, Some, None, Float}
use Rattle.std.specs.Float.{inf}
use Rattle.std.specs.Float.Ieee.{is_nan}
use Rattle.history.specs.declared.CompletedTrial.{CompletedTrial}
use Rattle.history.specs.declared.TrialState.{TrialState}
use Rattle.history.specs.declared.TrialState.TheVariants.{Complete, Pruned, Failed}

-- ---- the number of a state in C: 0 complete, 1 pruned, 2 failed
abbrev pub state_number : TrialState → ℕ
state_number Complete = 0
state_number Pruned = 1
state_number Failed = 2

-- the state of a number; any other number has none
abbrev pub state_from : ℕ → Option TrialState
state_from k = cond (eqb k 0) (Some Complete) (cond (eqb k 1) (Some Pruned) (cond (eqb k 2) (Some Failed) None))

-- ---- what an entry counts as

-- "unless the state is complete"
abbrev pub is_complete : TrialState → Bool
is_complete Complete = true
is_complete Pruned = false
is_complete Failed = false

-- refusal 8 is for this entry: "a history value is NaN", "narrowed to complete entries" (02, W6)
unfoldable pub is_bad : CompletedTrial → Bool
is_bad e = is_complete e.state && is_nan e.value

-- the value that counts as the result of the entry's trial: "A value counts as plus infinity unless the state is complete"
unfoldable pub counted_value : CompletedTrial → Float
counted_value e = cond (is_complete e.state) e.value (inf false)
