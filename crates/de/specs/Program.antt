-- The code as a sampler that demand 3 is said of: its own states, their view, the state that the accepted set-up returned, and its sample call.
use Rattle.evolution.specs.declared.Setup.{Setup}
use Rattle.ledger.specs.Call.{Call}
use Rattle.ledger.specs.State.{Returned}
use Rattle.ledger.specs.Sampler.{Sampler}
use Rattle.kernel.specs.De.{de}
use Rattle.state.specs.View.{view}
use Rattle.state.specs.declared.State.{State}
use Rattle.de.specs.Build.{fresh_state}
use Rattle.de.specs.Sample.{sample_of}

-- the sample call: what it returns, `numbered`, is `sample_of`
abbrev pub ran : State → Call de → Returned de State
ran s c = sample_of s c.distribution.distribution c.number c.history

abbrev pub program : Setup → Sampler de
program S = record { Kept = State; view = view; new = fresh_state S; call = ran }
