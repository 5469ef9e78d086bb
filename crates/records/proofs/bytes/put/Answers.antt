use Rattle.std.proofs.Common.{◌+◌, ◌-◌, refl, ◌∙◌, arith}
use Rattle.records.proofs.Reading.{shifted, put_next, shift-next, part-length, put_last}
use Rattle.records.proofs.bytes.put.Goals as goal

pub loop-byte-init : goal.loop-byte-init
unfolding shifted
loop-byte-init c = (refl, refl)

pub loop-byte-preserved : goal.loop-byte-preserved
loop-byte-preserved c =
    let loop = c.loop-byte in
    (put_next _ c.args.width _ _ _ (loop.auto.bytes ∙ part-length _ _ _ _ c.requires (omega arith)) (omega arith) loop.invariant.0 loop.invariant.1, shift-next _ _ _ loop.invariant.1)

pub returns : goal.returns
returns c =
    let n = part-length c.args.file.now c.args.at c.args.width (c.args.at + c.args.width - c.args.at) c.requires (omega arith) in
    put_last _ _ _ _ _ _ _ (c.loop-byte.auto.bytes ∙ n) (omega arith) (omega arith) c.loop-byte.invariant.0
