use Rattle.std.proofs.Common.{refl, arith}
use Rattle.opened.proofs.Opening.{none-read, next_read}
use Rattle.opened.proofs.read_rows.Goals as goal

pub loop-i-init : goal.loop-i-init
loop-i-init g c = none-read _ _ g.reads c.args.words.now c.args.width

pub loop-i-preserved : goal.loop-i-preserved
loop-i-preserved g c =
    next_read g.row.N c.args.blank g.reads c.args.words.now c.args.width c.loop-i.i c.read.result _ c.loop-i.items (omega arith) (c.requires.1.1.1.1.1.1.1 _ _ c.read.ensures) refl c.loop-i.invariant
