use Rattle.std.proofs.Common.{refl, ◌∙◌, arith}
use Rattle.kinds.proofs.Entries.{entry_put, choice_put, all_put}
use Rattle.kinds.proofs.vectors.put_candidate.Goals as goal
use Rattle.kinds.proofs.vectors.put_candidate.Goals.{then-is_continuous, else-is_continuous}

pub loop-i-preserved : goal.loop-i-preserved
loop-i-preserved c =
    let loop = c.loop-i in
    elim c.if-is_continuous.branch [
      | then-is_continuous w ↦ entry_put _ _ _ loop.ci loop.i _ _ (omega arith) refl _ _ _ _ _ _ c.is_continuous.ensures w.if-is_continuous.true w.bits_of.ensures w.ci-is (w.section-is ∙ w.push.ensures) loop.invariant
      | else-is_continuous w ↦
          choice_put _ _ _ loop.ci loop.i _ _ (omega arith) refl _ _ _ _ _ _ c.is_continuous.ensures w.if-is_continuous.false w.from.ensures w.ci-is (w.section-is ∙ w.push-else-is_continuous.ensures) loop.invariant
    ]

pub returns : goal.returns
returns c = all_put _ _ _ _ _ c.loop-i.ci c.loop-i.i (omega arith) c.loop-i.invariant
