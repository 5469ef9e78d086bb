use Rattle.std.proofs.Common.{refl, arith}
use Rattle.kinds.proofs.EntriesIn.{first, next-entry, next-choice, last}
use Rattle.kinds.proofs.vectors.candidate_in.Goals as goal
use Rattle.kinds.proofs.vectors.candidate_in.Goals.{then-is_continuous, else-is_continuous}

pub loop-i-init : goal.loop-i-init
loop-i-init c = first c.args.dims.now c.args.row.now

pub loop-i-preserved : goal.loop-i-preserved
loop-i-preserved c =
    let loop = c.loop-i in
    elim c.if-is_continuous.branch [
      | then-is_continuous w ↦
          next-entry _ _ c.requires.0 c.requires.1 loop.x loop.choices loop.ci loop.i (omega arith) loop.invariant _ _ refl _ _ _ _ _ c.is_continuous.ensures w.if-is_continuous.true w.real.ensures w.x-is w.choices-is w.ci-is
      | else-is_continuous w ↦
          next-choice _ _ c.requires.0 c.requires.1 loop.x loop.choices loop.ci loop.i (omega arith) loop.invariant _ _ refl _ _ _ _ _ c.is_continuous.ensures w.if-is_continuous.false refl w.x-is w.choices-is w.ci-is
    ]

pub returns : goal.returns
returns c = last _ _ _ _ c.loop-i.ci c.loop-i.i (omega arith) c.loop-i.invariant
