use Rattle.std.proofs.Common.{map, length, sym, ap, ◌∙◌}
use Rattle.edge.specs.Flat.{distribution_of}
use Rattle.edge.proofs.Dims.{known, opened}
use Rattle.sweep.proofs.Gathering.{judged, answer-is, left-is}
use Rattle.lists.specs.Sweeps.{count_in}
use Rattle.lists.proofs.sweeps.sweep_at.Goals as goal

pub list-requires : goal.list-requires
list-requires c =
    let is = sym c.in-Ok.is ∙ c.gather.ensures in
    rw (opened _ _ _ is) (judged (map distribution_of c.args.dims.now))

pub returns-in-Ok : goal.returns-in-Ok
returns-in-Ok c =
    let is = sym c.in-Ok.is ∙ c.gather.ensures in
    let ds = map distribution_of c.args.dims.now in
    rw (known _ _ _ is) (
      c.from.ensures ∙ ap count_in (c.list.ensures.0 ∙ rw (opened _ _ _ is) (answer-is ds (length c.args.out.now))),
      c.list.ensures.1 ∙ rw (opened _ _ _ is) (left-is ds c.args.out.now),
    )
