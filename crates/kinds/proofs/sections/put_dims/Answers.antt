use Rattle.std.proofs.Common.{sym, ap, append-nil, ◌∙◌, length, arith}
use Rattle.kinds.specs.Rows.{dim_words}
use Rattle.kinds.proofs.Sectioned.{dim-width, room, more}
use Rattle.kinds.proofs.sections.put_dims.Goals as goal

pub loop-d-init : goal.loop-d-init
loop-d-init c = sym (append-nil _)

pub extend_from_slice-requires : goal.extend_from_slice-requires
extend_from_slice-requires c =
    let r = room dim_words 5 dim-width _ _ _ c.loop-d.d-index (omega arith) c.loop-d.invariant c.requires in
    omega (arith, ap length c.dim_row.ensures ∙ dim-width _)

pub loop-d-preserved : goal.loop-d-preserved
loop-d-preserved c = more dim_words 5 dim-width _ _ _ c.loop-d.d-index (omega arith) c.loop-d.invariant _ _ _ c.dim_row.ensures c.extend_from_slice.ensures
