-- A sample call by what it reads of its history: whether refusal 8 applies, and the counted results where it closes a generation. proofs/On and
-- proofs/Gather show that it is the call on the history.
use Rattle.std.specs.Prelude.{ℕ, ◌+◌, Bool, true, false, not, ◌&&◌, cond, List, [], leb, Float, length, map, take}
use Rattle.std.specs.Prelude.{Option, Some, None, is_none, option_map, unwrap_or, slice_get}
use Rattle.distribution.specs.Validate.{judged}
use Rattle.distribution.specs.declared.Distribution.{Distribution}
use Rattle.evolution.specs.declared.Setup.{Setup}
use Rattle.history.specs.declared.CompletedTrial.{CompletedTrial}
use Rattle.ledger.specs.Words.{or_else, refuse_if, has}
use Rattle.ledger.specs.Kernel.{Gen}
use Rattle.ledger.specs.State as Plain
use Rattle.ledger.specs.Assignment.{place_in, Accepted, assign}
use Rattle.ledger.specs.Closing.{close, counted}
use Rattle.ledger.specs.Sample.{discovers, discover, begin, outcome}
use Rattle.kernel.specs.De.{de}
use Rattle.closing.specs.Raw.{closes_now}
use Rattle.common.specs.Bounds.{zero_f}
use Rattle.state.specs.Sound.{sound_state}
use Rattle.state.specs.View.{view}
use Rattle.state.specs.declared.State.{State}
use Rattle.de.specs.Sample.{call_of, laid_result, unsound}

-- ---- the ledger's `sampling`, `discovery`, `state_refusal`, `accept` and `step`, with the counted results in place of the history

unfoldable pub sampling_on : Setup → Plain.State de → ℕ → Distribution → Option (List Float) → Gen ℕ → Accepted de
sampling_on S m n d row g =
    let k = close de S m g row in
    assign de S k.out (call_of n d []) k.gen (slice_get k.out.candidates (place_in (Plain.numbers k.out.trials) n))

unfoldable pub discovery_on : Setup → Bool → Plain.State de → ℕ → Distribution → Accepted de
discovery_on S true m n d = discover de m (call_of n d []) (de.random (record { distribution = d }) (Plain.start_gen de m))
discovery_on S false m n d =
    let N = de.size_of S m.dims in
    let k = de.firsts S m.dims N (Plain.start_gen de m) in
    sampling_on S (begin de m N k.out) n d None k.gen

unfoldable pub refusal_on : Option ℕ → Plain.State de → ℕ → Option (List Float) → Option ℕ
refusal_on None m n row = refuse_if (discovers m.first n && leb 16 (length m.dims)) 9
refusal_on (Some N) m n row = refuse_if (is_none row && (not (has (Plain.numbers m.trials) n) && leb (N + 64) (length m.trials))) 10

unfoldable pub accept_on : Setup → Option ℕ → Plain.State de → ℕ → Distribution → Option (List Float) → Accepted de
accept_on S None m n d row = discovery_on S (discovers m.first n) m n d
accept_on S (Some N) m n d row = sampling_on S m n d row (Plain.start_gen de m)

-- the first of the refusals 4 to 10
unfoldable pub refusal : Plain.State de → ℕ → Distribution → Bool → Option (List Float) → Option ℕ
refusal m n d bad row = or_else (or_else (judged d) (refuse_if bad 8)) (refusal_on m.size m n row)

unfoldable pub step_on : Setup → Plain.State de → ℕ → Distribution → Bool → Option (List Float) → Plain.Returned de (Plain.State de)
step_on S m n d bad row = outcome de m (refusal m n d bad row) (accept_on S m.size m n d row)

unfoldable pub sampled_on : State → Distribution → ℕ → Bool → Option (List Float) → Plain.Returned de State
sampled_on s d n bad row = cond (sound_state s) (laid_result s.setup (step_on s.setup (view s) n d bad row)) (unsound s)

-- ---- the counted results, as the history has them and as a scan gathers them

-- the ledger's: nothing before discovery ends
abbrev pub row_for : Option ℕ → Plain.State de → List CompletedTrial → Option (List Float)
row_for None m h = None
row_for (Some N) m h = counted de N (Plain.numbers m.trials) h

-- the row, or nothing
abbrev pub row_if : Bool → List Float → Option (List Float)
row_if true vs = Some vs
row_if false vs = None

-- the counted results, of the list that has them: the first n
abbrev pub counted_in : State → Option (List Float) → Option (List Float)
counted_in s results = option_map (take s.n) results

-- a call on the state s that is not refused before, where it closes a generation by the first n results or, with none, closes none
abbrev pub accepted_on : State → Distribution → ℕ → Option (List Float) → Accepted de
accepted_on s d n results = accept_on s.setup (view s).size (view s) n d (counted_in s results)

-- what the history gives each wanted number, as results: 0 where it gives none, which no closing counts
abbrev pub results_in : List (Option Float) → List Float
results_in vs = map (λ v. unwrap_or v zero_f) vs

-- the same where the generation closes, and else nothing
abbrev pub closing_results : State → List (Option Float) → Option (List Float)
closing_results s vs = row_if (closes_now s.discovered s.n s.n_trials vs) (results_in vs)

-- the results that are counted, if the generation closes: the first n of vs
abbrev pub row_in : State → List (Option Float) → Option (List Float)
row_in s vs = row_if (closes_now s.discovered s.n s.n_trials vs) (take s.n (results_in vs))
