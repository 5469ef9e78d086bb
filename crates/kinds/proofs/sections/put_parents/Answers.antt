use Rattle.std.proofs.Common.{◌+◌, refl, sym, append-nil, length, arith}
use Rattle.kinds.specs.Rows.{member_words}
use Rattle.kinds.proofs.Sectioned.{member-width, room, more}
use Rattle.kinds.proofs.sections.put_parents.Goals as goal

pub loop-m-init : goal.loop-m-init
loop-m-init c = sym (append-nil _)

pub put_member-requires : goal.put_member-requires
put_member-requires c =
    let r = room (member_words c.args.dims.now) (length c.args.dims.now + 1) (member-width c.args.dims.now) _ _ _ c.loop-m.m-index (omega arith) c.loop-m.invariant c.requires.1 in
    (c.requires.0, omega arith)

pub loop-m-preserved : goal.loop-m-preserved
loop-m-preserved c = more (member_words c.args.dims.now) (length c.args.dims.now + 1) (member-width c.args.dims.now) _ _ _ c.loop-m.m-index (omega arith) c.loop-m.invariant _ _ _ refl c.put_member.ensures
