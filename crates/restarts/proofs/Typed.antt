-- What the types say of a call: a trial number of 64 bits, a lent distribution and a lent history make a typed call.
use Prim.Native.Nat.{ℕ, ◌^◌, ◌<◌}
use mathlib.Core.List.{List}
use mir.Val.{Val}
use denote.Laws.{Is}
use Rattle.distribution.specs.declared.Distribution.{Distribution}
use Rattle.distribution.specs.contracts.Distribution as DD
use Rattle.history.specs.declared.CompletedTrial.{CompletedTrial}
use Rattle.history.specs.contracts.CompletedTrial as CT
use Rattle.ledger.specs.Words.{All}
use Rattle.de.specs.Sample.{call_of}
use Rattle.kinds.proofs.Types.{double, distribution}
use Rattle.restarts.specs.Gateway.{TypedCall}

pub typed_call : (n : ℕ) (d : Distribution) (h : List CompletedTrial) (vs : List Val) → n < 2 ^ 64 → Is DD.the_row d vs
    → All (λ (e : CompletedTrial). (us : List Val) × Is CT.the_row e us) h → TypedCall (call_of n d h)
typed_call n d h vs l p k = record { number = l; distribution = distribution d vs p; history = λ e m. double e.value (k e m).1.1.1.1.0.1 }
