-- `sample_over` meets its contract: ask, scan, and answer; that the call on what is gathered is the call on the history: Scanned.
use Rattle.std.proofs.Common.{◌∙◌, rules}
use Rattle.de.proofs.Scanned as By
use Rattle.de.proofs.sample.sample_over.Goals as goal

pub sample_gathered-requires : goal.sample_gathered-requires
sample_gathered-requires g c =
    let mm = c.requires.sized in
    record { arrays = mm; places = search rules; numbers = By.numbers c.args.state.now mm _ _ c.ask-asked.ensures _ c.as_slice-wanted.ensures _ c.new.ensures _ c.scan-g.ensures.2 }

pub returns : goal.returns
returns g c =
    let told = c.scan-g.ensures in
    (told.0, told.1, c.sample_gathered.ensures ∙ By.called c.args.state.now c.requires.sized _ _ c.ask-asked.ensures _ c.as_slice-wanted.ensures _ c.new.ensures _ told.2 _ _)
