-- What the parts of a call are handed: a call that no refusal stops, and what a scan gathers.
use Rattle.std.specs.Prelude.{true, false, List, Float, ◌≢◌, ◌≡◌, ℕ, length, take, Option, Some, None}
use Rattle.std.specs.Float.{nan}
use Rattle.distribution.specs.declared.Distribution.{Distribution}
use Rattle.ledger.specs.Words.{All}
use Rattle.state.specs.Measured.{Measured}
use Rattle.state.specs.Sound.{sound_state}
use Rattle.state.specs.View.{view}
use Rattle.state.specs.declared.State.{State}
use Rattle.history.specs.declared.Gathered.{Gathered}
use Rattle.closing.specs.Raw.{closes_now}
use Rattle.de.specs.Gathered.{refusal, counted_in, results_in}

-- the results of a closing: discovery has ended, and the counted results are numbers
pub record Counted (s : State) (results : List Float) : Type 0 where
  pub places : length results ≡ 160
  pub closing : s.discovered ≡ true
  pub numbers : All (λ v. v ≢ nan) (take s.n results)

-- what the tests before leave: a sound state, none of the refusals, and the results of a closing if the call closes a generation
pub record Acceptable (s : State) (d : Distribution) (n : ℕ) (results : Option (List Float)) : Type 0 where
  pub arrays : Measured s
  pub sound : sound_state s ≡ true
  pub unrefused : refusal (view s) n d false (counted_in s results) ≡ None
  pub closing : (rs : List Float) → results ≡ Some rs → Counted s rs

-- what a scan leaves: where a generation closes and no value is NaN, the counted results are numbers
abbrev pub Numbers : State → Gathered → Type 0
Numbers s g =
    sound_state s ≡ true → g.nan ≡ false → closes_now s.discovered s.n s.n_trials g.values ≡ true → All (λ v. v ≢ nan) (take s.n (results_in g.values))

-- what a call is handed: a state and what a scan leaves, with arrays as long as their types say
pub record Handed (s : State) (g : Gathered) : Type 0 where
  pub arrays : Measured s
  pub places : length g.values ≡ 160
  pub numbers : Numbers s g
