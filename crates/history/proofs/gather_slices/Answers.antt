-- The iterator gives the entries that the three slices make.
use Rattle.std.proofs.Common.{List, ap, ◌∙◌, rules}
use Rattle.std.proofs.lemmas.Iterator.{YieldsList-from_slice, YieldsList-from_zip, YieldsList-from_map}
use Rattle.history.specs.Scan.{gathered}
use Rattle.history.specs.declared.CompletedTrial.{CompletedTrial}
use Rattle.history.proofs.Scans.{scanned, entry_of, trials-zip}
use Rattle.history.proofs.gather_slices.Goals as goal

pub returns : goal.returns
returns c =
    let a = c.args in
    let pairs = YieldsList-from_zip (YieldsList-from_slice a.numbers.now cc) (YieldsList-from_slice a.values.now cc) in
    let parts = YieldsList-from_zip pairs (YieldsList-from_slice a.states.now cc) in
    scanned _ _ _ _ _ c.scan.ensures (YieldsList-from_map _ entry_of parts c.map-entries.ensures.closure (λ x r q k. search rules))
    ∙ ap (λ (es : List CompletedTrial). gathered a.lo a.hi a.wanted.now es a.from) (trials-zip a.numbers.now a.values.now a.states.now)
