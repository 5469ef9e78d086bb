-- What a call asks of its history before it is scanned: the first N open trials' results, where "at least N trials are assigned".
use Rattle.std.specs.Prelude.{ℕ, ◌-◌, ◌^◌, min, max, Bool, cond, fold, List, leb, get_or}
use Rattle.rng_util.specs.Many.{listed}
use Rattle.state.specs.Blank.{blank_trial}
use Rattle.state.specs.declared.TrialProgress.{TrialProgress}
use Rattle.de.specs.declared.ask.Asked.{Asked}

-- N, if discovery has ended and N trials are open; a state that is not sound asks for no more than there are places
abbrev pub wanted_count : Bool → ℕ → ℕ → ℕ
wanted_count discovered n T = cond discovered (cond (leb n T) (cond (leb n 160) n 0) 0) 0

abbrev pub number_at : List TrialProgress → ℕ → ℕ
number_at ts i = (get_or ts i blank_trial).number

-- the numbers of the first k open trials
abbrev pub first_numbers : List TrialProgress → ℕ → List ℕ
first_numbers ts k = listed (number_at ts) k 0

-- all numbers lie between these two
abbrev pub least_of : List ℕ → ℕ
least_of = fold min (2 ^ 64 - 1)

abbrev pub most_of : List ℕ → ℕ
most_of = fold max 0

unfoldable pub asked_of : List ℕ → Asked
asked_of ns = record { lo = least_of ns; hi = most_of ns; numbers = ns }
