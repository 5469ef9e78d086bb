use Rattle.std.proofs.Common.{refl}
use Rattle.records.specs.Tables.{no_records}
use Rattle.records.proofs.Table.new.Goals as goal

pub returns : goal.returns
unfolding no_records
returns c = refl
