-- "a look call giving best slot and values, or nothing before the first closing; closed generations; idle generations"
use Rattle.std.specs.Prelude.{ℕ, not, cond, [], eqb, length, Option, Some, None, Result, Ok, Err}
use Rattle.rng_util.specs.Many.{pad_to}
use Rattle.distribution.specs.Refusals.{refusal_number}
use Rattle.distribution.specs.declared.Refusal.TheVariants.{StateNotSound}
use Rattle.common.specs.Bounds.{zero_f}
use Rattle.ledger.specs.Words.{refuse_if}
use Rattle.ledger.specs.State as Plain
use Rattle.kernel.specs.De.{de}
use Rattle.state.specs.Sound.{sound_state}
use Rattle.state.specs.View.{view}
use Rattle.state.specs.declared.State.{State}
use Rattle.slots.specs.declared.Looked.{Looked}
use Rattle.distribution.specs.declared.Refusal.{Refusal}

-- an answer without values
abbrev pub bare : Result (Option ℕ) Refusal → Looked
bare a = record { look = a; n = 0; values = pad_to 160 zero_f []; closed = 0; idle = 0 }

-- best slot, the slots' values, and the two counters
abbrev pub seen : Plain.Slots de → Looked
seen o = record { look = Ok (Some o.best); n = length o.parents; values = pad_to 160 zero_f (Plain.values de o.parents); closed = o.closed; idle = o.idle }

-- refusal 0; "nothing before the first closing", when both counters are 0
unfoldable pub look_of : State → Looked
look_of s = cond (sound_state s) (cond (eqb (view s).slots.closed 0) (bare (Ok None)) (seen (view s).slots)) (bare (Err StateNotSound))

-- the number of the refusal, if the answer is one
abbrev pub look_refusal : Result (Option ℕ) Refusal → Option ℕ
look_refusal (Err r) = Some (refusal_number r)
look_refusal (Ok None) = None
look_refusal (Ok (Some b)) = None

-- the table's 0, and no other
abbrev pub unsound_refusal : State → Option ℕ
unsound_refusal s = refuse_if (not (sound_state s)) 0
