-- What the types say of a set-up and of a call that a C caller sends is what `library-one-list` asks of them: no hypothesis is left to take on trust.
use Rattle.std.specs.Prelude.{Option, Some, None}
use mathlib.Core.List.{List, [], ◌∷◌}
use lib.Ieee.{binary64}
use lib.Ieee.Fits.{nan-fits}
use mir.Val.{Val}
use denote.Laws.{Is}
use Rattle.history.specs.Entry.{state_from}
use Rattle.history.specs.declared.CompletedTrial.{CompletedTrial}
use Rattle.history.specs.declared.TrialState.{TrialState}
use Rattle.ledger.specs.Words.{All}
use Rattle.kinds.specs.Typed.{Double, TypedSetup}
use Rattle.kinds.proofs.Types.{double, distribution as dimension, typed-setup}
use Rattle.edge.specs.contracts.answers.DeCall as FlatC
use Rattle.edge.specs.contracts.flat.DeSetup as FlatU
use Rattle.edge.specs.contracts.trial.DeCompletedTrial as FlatT
use Rattle.edge.specs.Flat.{setup_of}
use Rattle.edge.specs.Trial.{trial_in, trial_of}
use Rattle.edge.specs.declared.flat.DeSetup.{DeSetup}
use Rattle.edge.specs.declared.trial.DeCompletedTrial.{DeCompletedTrial}
use Rattle.exports.proofs.Typed.{distribution, setup}
use Rattle.exports.specs.Program.{Sent, meant}
use Rattle.restarts.specs.Gateway.{TypedCall}
use Rattle.ledger.proofs.Lists.{all-mapped}

pub typed-new : (u : DeSetup) (vs : List Val) → Is FlatU.the_row u vs → TypedSetup (setup_of u)
typed-new u vs p = let s = setup u vs p in typed-setup (setup_of u) (s.0 ∷ []) s.1

-- the value of the entry that one in numbers opens to: its own, or a NaN
opened-double : (t : DeCompletedTrial) (us : List Val) → Is FlatT.the_row t us → Double (trial_of t).value
opened-double t us p = go (state_from t.state)
  where
    go : (o : Option TrialState) → Double (trial_in o t).value
    go (Some s) = double t.value p.1.1.1.0.1
    go None = nan-fits binary64

pub typed-sent : (q : Sent) (vs : List Val) → Is FlatC.the_row q.call vs → All (λ (t : DeCompletedTrial). (us : List Val) × Is FlatT.the_row t us) q.history → TypedCall (meant q)
typed-sent q vs p h =
    let d = distribution q.call.distribution _ p.1.1.1.0 in
    record {
      number = p.1.1.0.1;
      distribution = dimension _ (d.0 ∷ []) d.1;
      history = all-mapped (λ (e : CompletedTrial). Double e.value) trial_of q.history (λ t m. opened-double t (h t m).0 (h t m).1);
    }
