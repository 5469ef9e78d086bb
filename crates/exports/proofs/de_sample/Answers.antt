-- With a setting every entry is known; without one it was looked at.
use Rattle.std.proofs.Common.{◌∙◌, sym}
use Rattle.exports.proofs.Judged.{judged-state, judged-given, judged-known, judged-unknown}
use Rattle.exports.proofs.de_sample.Goals as goal

pub returns-in-Ok : goal.returns-in-Ok
returns-in-Ok c =
    let e = c.sampled.ensures in
    (judged-given _ _ _ _ (sym c.in-Ok.is ∙ e.answer), e.after ∙ judged-state _ _ _)

pub returns-then-all_known : goal.returns-then-all_known
returns-then-all_known c =
    let e = c.sampled.ensures in
    (judged-known _ _ _ _ (sym c.in-Err.is ∙ e.answer) (sym c.all_known.ensures ∙ c.if-all_known.true), e.after ∙ judged-state _ _ _)

pub returns-else-all_known : goal.returns-else-all_known
returns-else-all_known c =
    (c.from.ensures ∙ judged-unknown _ _ _ (sym c.all_known.ensures ∙ c.if-all_known.false), c.sampled.ensures.after ∙ judged-state _ _ _)
