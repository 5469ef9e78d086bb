-- `collect_kinds` meets its contract: the tables of the first k kinds are laid.
use Rattle.std.proofs.Common.{◌≡◌, map, take, length}
use Rattle.records.specs.Chain.{walk}
use Rattle.records.specs.Tables.{table_of}
use Rattle.kinds.specs.Kinds.{kind_number}
use Rattle.kinds.specs.declared.kind.TheConstants.Kind.{ALL}
use Rattle.saved.proofs.collect_kinds.Given as goal

abbrev pub invariant-loop-k : goal.invariant-loop-k
invariant-loop-k l = (length l.tables ≡ 6) × (take l.k l.tables ≡ map (λ kind. table_of (kind_number kind) (walk l.file l.count 0)) (take l.k ALL))
