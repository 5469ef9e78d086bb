-- The look call in numbers.
use Rattle.std.specs.Prelude.{replicate, Option, Some, None, Result, Ok, Err, ℕ}
use Rattle.common.specs.Bounds.{zero_f}
use Rattle.distribution.specs.Refusals.{refusal_number}
use Rattle.distribution.specs.declared.Refusal.{Refusal}
use Rattle.state.specs.declared.State.{State}
use Rattle.slots.specs.Look.{look_of}
use Rattle.slots.specs.declared.Looked.{Looked}
use Rattle.edge.specs.declared.flat.DeState.{DeState}
use Rattle.edge.specs.declared.look.DeLook.{DeLook}
use Rattle.edge.specs.Known.{opened_state}

-- kind, refusal and best slot, with the counts and values
abbrev shown : ℕ → ℕ → ℕ → Looked → DeLook
shown k r b o = record { kind = k; refusal = r; best = b; n = o.n; closed = o.closed; idle = o.idle; values = o.values }

-- 0 refused, 1 nothing yet, 2 best
abbrev pub looked_by : Result (Option ℕ) Refusal → Looked → DeLook
looked_by (Err r) o = shown 0 (refusal_number r) 0 o
looked_by (Ok None) o = shown 1 0 0 o
looked_by (Ok (Some b)) o = shown 2 0 b o

unfoldable pub looked : Looked → DeLook
looked o = looked_by o.look o

abbrev pub refused_look : Refusal → DeLook
refused_look r = record { kind = 0; refusal = refusal_number r; best = 0; n = 0; closed = 0; idle = 0; values = replicate 160 zero_f }

abbrev pub look_by : Result State Refusal → DeLook
look_by (Ok s) = looked (look_of s)
look_by (Err r) = refused_look r

-- a state with a number that names no case is refusal 0
unfoldable pub look_at : DeState → DeLook
look_at f = look_by (opened_state f)
