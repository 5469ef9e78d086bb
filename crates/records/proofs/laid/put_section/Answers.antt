use Rattle.std.proofs.Common.{◌+◌, ◌*◌, ap, ◌∙◌, arith}
use Rattle.std.proofs.Math.Seq.{paste}
use Rattle.records.specs.Chain.{record_bytes}
use Rattle.records.specs.declared.Piece.{Piece}
use Rattle.records.proofs.Recorded.{put-more}
use Rattle.records.proofs.laid.put_section.Goals as goal

pub loop-j-preserved : goal.loop-j-preserved
loop-j-preserved c = put-more c.args.file.now c.args.count c.args.k c.args.kind c.args.words.now _ _ c.loop-j.j c.records_for-j-end.result _ (omega arith) (omega arith) c.loop-j.invariant c.next_of-next.ensures (c.put_record.ensures ∙ ap (λ (p : Piece). paste c.loop-j.file (32 * (c.args.k + c.loop-j.j)) (record_bytes c.next_of-next.result p) 32) c.piece_of.ensures)
