-- The iterator gives the entries of the slice.
use Rattle.std.proofs.lemmas.Iterator.{YieldsList-from_slice}
use Rattle.std.proofs.lemmas.Iterator.Consumers.{YieldsList-from_copied}
use Rattle.state.proofs.Measured.{measured}
use Rattle.de.specs.Sample.{sample_of}
use Rattle.de.proofs.Over.{told}
use Rattle.de.proofs.sample.sample.Goals as goal

pub sample_over-answer-requires-clause-sized : goal.sample_over-answer-requires-clause-sized
sample_over-answer-requires-clause-sized c = measured c.args.state _ c.well_formed.0

pub returns : goal.returns
returns c = told (sample_of c.args.state c.args.distribution c.args.trial) _ c.sample_over-answer.ensures (YieldsList-from_copied (YieldsList-from_slice c.args.history.now cc))
