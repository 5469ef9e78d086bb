-- The iterator gives the entries that the three slices make.
use Rattle.std.proofs.Common.{List, ap, ◌∙◌, rules}
use Rattle.std.proofs.lemmas.Iterator.{YieldsList-from_slice, YieldsList-from_zip, YieldsList-from_map}
use Rattle.history.specs.declared.CompletedTrial.{CompletedTrial}
use Rattle.history.proofs.Scans.{entry_of, trials-zip}
use Rattle.state.proofs.Measured.{measured}
use Rattle.de.specs.Sample.{sample_of}
use Rattle.de.proofs.Over.{told}
use Rattle.de.proofs.sample.sample_slices.Goals as goal

pub sample_over-answer-requires-clause-sized : goal.sample_over-answer-requires-clause-sized
sample_over-answer-requires-clause-sized c = measured c.args.state _ c.well_formed.0

pub returns : goal.returns
returns c =
    let a = c.args in
    let pairs = YieldsList-from_zip (YieldsList-from_slice a.numbers.now cc) (YieldsList-from_slice a.values.now cc) in
    let parts = YieldsList-from_zip pairs (YieldsList-from_slice a.states.now cc) in
    told (sample_of c.args.state c.args.distribution c.args.trial) _ c.sample_over-answer.ensures (YieldsList-from_map _ entry_of parts c.map-entries.ensures.closure (λ x r q k. search rules))
    ∙ ap (λ (es : List CompletedTrial). sample_of a.state a.distribution a.trial es) (trials-zip a.numbers.now a.values.now a.states.now)
