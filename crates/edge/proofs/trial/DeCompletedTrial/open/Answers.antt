-- The constant's bits are those of a NaN.
use Rattle.std.proofs.Common.{◌∙◌, sym, ap, Option}
use lib.Ieee.{of_bits}
use Rattle.history.specs.declared.TrialState.{TrialState}
use Rattle.edge.specs.Trial.{trial_in}
use Rattle.edge.proofs.trial.DeCompletedTrial.open.Goals as goal

pub returns-in-None : goal.returns-in-None
unfolding of_bits
returns-in-None c = ap (λ (o : Option TrialState). trial_in o c.args.self.now) (sym c.in-None.is ∙ c.from_number.ensures)
