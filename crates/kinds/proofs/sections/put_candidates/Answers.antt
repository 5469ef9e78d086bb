use Rattle.std.proofs.Common.{refl, sym, append-nil, length, arith}
use Rattle.kinds.specs.Rows.{candidate_words}
use Rattle.kinds.proofs.Sectioned.{candidate-width, room, more}
use Rattle.kinds.proofs.sections.put_candidates.Goals as goal

pub loop-c-init : goal.loop-c-init
loop-c-init c = sym (append-nil _)

pub put_candidate-requires : goal.put_candidate-requires
put_candidate-requires c =
    let r = room (candidate_words c.args.dims.now) (length c.args.dims.now) (candidate-width c.args.dims.now) _ _ _ c.loop-c.c-index (omega arith) c.loop-c.invariant c.requires.1 in
    (c.requires.0, omega arith)

pub loop-c-preserved : goal.loop-c-preserved
loop-c-preserved c = more (candidate_words c.args.dims.now) (length c.args.dims.now) (candidate-width c.args.dims.now) _ _ _ c.loop-c.c-index (omega arith) c.loop-c.invariant _ _ _ refl c.put_candidate.ensures
