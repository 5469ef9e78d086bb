use Rattle.std.proofs.Common.{sym, ap, append-nil, ◌∙◌, length, arith}
use Rattle.kinds.specs.Rows.{trial_words}
use Rattle.kinds.proofs.Sectioned.{trial-width, room, more}
use Rattle.kinds.proofs.sections.put_trials.Goals as goal

pub loop-t-init : goal.loop-t-init
loop-t-init c = sym (append-nil _)

pub extend_from_slice-requires : goal.extend_from_slice-requires
extend_from_slice-requires c =
    let r = room trial_words 2 trial-width _ _ _ c.loop-t.t-index (omega arith) c.loop-t.invariant c.requires in
    omega (arith, ap length c.trial_row.ensures ∙ trial-width _)

pub loop-t-preserved : goal.loop-t-preserved
loop-t-preserved c = more trial_words 2 trial-width _ _ _ c.loop-t.t-index (omega arith) c.loop-t.invariant _ _ _ c.trial_row.ensures c.extend_from_slice.ensures
