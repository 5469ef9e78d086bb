-- The entries of a history in numbers (document 02, W6: "A completed trial now also holds its state: complete, pruned or failed").
use Rattle.std.specs.Prelude.{Bool, List, Option, Some, None, is_some}
use Rattle.std.specs.Float.{nan}
use Rattle.std.specs.List.{list_all}
use Rattle.history.specs.Entry.{state_number, state_from}
use Rattle.history.specs.declared.CompletedTrial.{CompletedTrial}
use Rattle.history.specs.declared.TrialState.{TrialState}
use Rattle.history.specs.declared.TrialState.TheVariants.{Complete}
use Rattle.edge.specs.declared.trial.DeCompletedTrial.{DeCompletedTrial}

-- whether the state's number names one: 0 complete, 1 pruned, 2 failed
abbrev pub known_trial : DeCompletedTrial → Bool
known_trial t = is_some (state_from t.state)

abbrev pub known_history : List DeCompletedTrial → Bool
known_history h = list_all known_trial h

-- the entry with this state. A number that names no state stands for none: it opens to a NaN that refusal 8 is for, so it leads to no setting.
abbrev pub trial_in : Option TrialState → DeCompletedTrial → CompletedTrial
trial_in (Some s) t = record { number = t.number; value = t.value; state = s }
trial_in None t = record { number = t.number; value = nan; state = Complete }

-- the entry that it stands for, where its state is known
abbrev pub trial_of : DeCompletedTrial → CompletedTrial
trial_of t = trial_in (state_from t.state) t

-- an entry in numbers
abbrev pub flat_trial : CompletedTrial → DeCompletedTrial
flat_trial e = record { number = e.number; value = e.value; state = state_number e.state }
