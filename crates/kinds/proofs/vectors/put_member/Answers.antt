use Rattle.std.proofs.Common.{ap, ◌∙◌, length, length-append, arith}
use Rattle.kinds.specs.Rows.{candidate_words}
use Rattle.kinds.proofs.Sectioned.{candidate-width}
use Rattle.kinds.proofs.vectors.put_member.Goals as goal

pub push-requires : goal.push-requires
push-requires c =
    let n = ap length c.put_candidate.ensures ∙ length-append c.args.section.now (candidate_words c.args.dims.now c.args.m.now.candidate) in
    omega (arith, n, candidate-width c.args.dims.now c.args.m.now.candidate)
