-- The iterator gives what the entries of the slice stand for.
use Rattle.std.proofs.Common.{rules}
use Rattle.std.proofs.lemmas.Iterator.{YieldsList-from_slice, YieldsList-from_map}
use Rattle.state.proofs.Measured.{measured}
use Rattle.de.specs.Sample.{sample_of}
use Rattle.de.proofs.Over.{told}
use Rattle.edge.specs.Trial.{trial_of}
use Rattle.exports.proofs.sample.Goals as goal

pub sample_over-answer-requires-clause-sized : goal.sample_over-answer-requires-clause-sized
sample_over-answer-requires-clause-sized c = measured c.args.state _ c.well_formed.0

pub returns : goal.returns
returns c =
    told (sample_of c.args.state c.args.distribution c.args.trial) _ c.sample_over-answer.ensures
    (YieldsList-from_map _ trial_of (YieldsList-from_slice c.args.history.now cc) c.map-entries.ensures.closure (λ x r q k. search rules))
