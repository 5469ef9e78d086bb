use Rattle.std.proofs.Common.{map, ◌∙◌}
use Rattle.sweep.specs.Sweep.{distribution_inside}
use Rattle.sweep.proofs.Gathering.{judged, answer-is, left-is}
use Rattle.sweep.proofs.sweep.Goals as goal

pub list-requires : goal.list-requires
list-requires c = rw c.gather.ensures (judged (map distribution_inside c.args.dims.now))

pub returns : goal.returns
returns c =
    let ds = map distribution_inside c.args.dims.now in
    (c.list.ensures.0 ∙ rw c.gather.ensures (answer-is ds _), c.list.ensures.1 ∙ rw c.gather.ensures (left-is ds _))
