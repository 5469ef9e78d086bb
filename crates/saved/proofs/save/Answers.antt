-- `save` meets its contract: 13, then 12, then the state's file in front of what was there (Reader).
use Rattle.std.proofs.Common.{sym, ◌∙◌}
use Rattle.std.proofs.lemmas.Bool.{OnTrue_at}
use Rattle.state.proofs.Flags.{and-true}
use Rattle.saved.proofs.Reader.{unsound, no-place, not-savable, too_short, all-written}
use Rattle.saved.proofs.Wrote.{few-roomy}
use Rattle.saved.proofs.save.Goals as goal
use Rattle.saved.proofs.save.Goals.{then-not-is_sound-via-then-not-is_sound, then-not-is_sound-via-else-not-is_sound+then-not-has_place}

pub returns-then-not-is_sound : goal.returns-then-not-is_sound
returns-then-not-is_sound c =
    let s = c.args.state.now in
    let f = c.args.file.now in
    not-savable s f
    (elim c.then-not-is_sound.branch [
      | then-not-is_sound-via-then-not-is_sound w ↦ unsound s f (sym c.is_sound.ensures.sound ∙ w.if-not-is_sound.true)
      | then-not-is_sound-via-else-not-is_sound+then-not-has_place w ↦ no-place s f (sym w.has_place.ensures ∙ w.if-not-has_place.true)
    ])

pub record_total-count-requires : goal.record_total-count-requires
record_total-count-requires c = few-roomy c.args.state.now (OnTrue_at c.if-not-is_sound.false c.is_sound.ensures.few)

pub returns-then-file-count : goal.returns-then-file-count
returns-then-file-count c =
    too_short c.args.state.now c.args.file.now (and-true (sym c.is_sound.ensures.sound ∙ c.if-not-is_sound.false) (sym c.has_place.ensures ∙ c.if-not-has_place.false)) _
    c.record_total-count.ensures.total c.if-file-count.true

pub put_state-requires : goal.put_state-requires
put_state-requires c = (few-roomy c.args.state.now (OnTrue_at c.if-not-is_sound.false c.is_sound.ensures.few), c.record_total-count.ensures.total, c.if-file-count.false)

pub returns : goal.returns
returns c =
    all-written c.args.state.now c.args.file.now (and-true (sym c.is_sound.ensures.sound ∙ c.if-not-is_sound.false) (sym c.has_place.ensures ∙ c.if-not-has_place.false)) _
    c.record_total-count.ensures.total c.if-file-count.false _ c.put_state.ensures
