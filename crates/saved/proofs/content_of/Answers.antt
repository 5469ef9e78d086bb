-- `content_of` meets its contract: six tables, the state of them, and whether its own records are those (Reader).
use Rattle.std.proofs.Common.{true, false, refl, sym, ◌∙◌, eq-eqb}
use Rattle.records.specs.Chain.{walk}
use Rattle.saved.proofs.Reader.{walk-length, content_is, judged, other-count}
use Rattle.saved.proofs.content_of.Goals as goal
use Rattle.saved.proofs.content_of.Goals.{else-is_sound-via-then-is_sound+then-count-record_total+else-kinds_hold, else-is_sound-via-then-is_sound+else-count-record_total, else-is_sound-via-else-is_sound}

pub returns-then-kinds_hold : goal.returns-then-kinds_hold
returns-then-kinds_hold c =
    let rs = walk c.args.file.now c.args.count 0 in
    let many = sym (walk-length c.args.file.now c.args.count 0) in
    judged rs _ c.collect_kinds.ensures _ c.state_in-state.ensures _ _ many c.record_total.ensures.total true true (sym c.kinds_hold.ensures ∙ c.if-kinds_hold.true) (eq-eqb _ _ c.if-count-record_total.true) (sym c.is_sound.ensures.sound ∙ c.if-is_sound.true)

pub returns-else-is_sound : goal.returns-else-is_sound
returns-else-is_sound c =
    let rs = walk c.args.file.now c.args.count 0 in
    let many = sym (walk-length c.args.file.now c.args.count 0) in
    elim c.else-is_sound.branch [
      | else-is_sound-via-then-is_sound+then-count-record_total+else-kinds_hold w ↦
          judged rs _ c.collect_kinds.ensures _ c.state_in-state.ensures _ _ many w.record_total.ensures.total false true (sym w.kinds_hold.ensures ∙ w.if-kinds_hold.false) (eq-eqb _ _ w.if-count-record_total.true) (sym c.is_sound.ensures.sound ∙ w.if-is_sound.true)
      | else-is_sound-via-then-is_sound+else-count-record_total w ↦
          other-count rs _ c.collect_kinds.ensures _ c.state_in-state.ensures _ _ many w.record_total.ensures.total w.if-count-record_total.false (sym c.is_sound.ensures.sound ∙ w.if-is_sound.true)
      | else-is_sound-via-else-is_sound w ↦ content_is rs _ c.collect_kinds.ensures _ c.state_in-state.ensures false _ (sym c.is_sound.ensures.sound ∙ w.if-is_sound.false) refl
    ]
