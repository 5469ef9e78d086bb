-- `put_record` meets its contract: six numbers, one after another.
use Rattle.records.proofs.Recorded.{six}
use Rattle.records.proofs.laid.put_record.Goals as goal

pub returns : goal.returns
returns c =
    six c.args.file.now c.args.at c.args.next c.args.piece c.requires _ _ _ _ _ _ c.put.ensures c.put-2.ensures c.put-3.ensures c.put-4.ensures c.put-5.ensures c.put-6.ensures
