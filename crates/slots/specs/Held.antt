-- What a slot holds in a dimension: its parent, decoded by the stored distribution as for a trial that has the candidate.
use Rattle.std.specs.Prelude.{ℕ, cond, ltb, length, Option, Some, None, Result, Ok, Err, slice_get}
use Rattle.distribution.specs.Refusals.{refusal_number}
use Rattle.distribution.specs.declared.Refusal.TheVariants.{StateNotSound}
use Rattle.candidates.specs.declared.Candidate.{Candidate}
use Rattle.ledger.specs.Kernel.{Parent}
use Rattle.ledger.specs.State as Plain
use Rattle.kernel.specs.De.{de}
use Rattle.state.specs.Sound.{sound_state}
use Rattle.state.specs.View.{view}
use Rattle.state.specs.declared.State.{State}
use Rattle.distribution.specs.declared.Refusal.{Refusal}
use Rattle.distribution.specs.declared.ParamValue.{ParamValue}

-- a slot's parent in dimension k, "decoded by the stored distribution"; there is no slot before the first closing
abbrev pub held_by : Plain.State de → ℕ → Option (Parent Candidate) → Result (Option ParamValue) Refusal
held_by m k None = (Ok None)
held_by m k (Some p) = cond (ltb k (length m.dims)) (Ok (Some (de.decode m.dims k p.candidate))) (Ok None)

-- refusal 0; else what slot i holds in dimension k
unfoldable pub held_of : State → ℕ → ℕ → Result (Option ParamValue) Refusal
held_of s i k = cond (sound_state s) (held_by (view s) k (slice_get (view s).slots.parents i)) (Err StateNotSound)

-- the number of the refusal, if the answer is one
abbrev pub held_refusal : Result (Option ParamValue) Refusal → Option ℕ
held_refusal (Err r) = Some (refusal_number r)
held_refusal (Ok None) = None
held_refusal (Ok (Some x)) = None
