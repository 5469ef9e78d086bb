-- `collect` meets its contract: what is laid, and the walk that is left (Following).
use Rattle.std.proofs.Common.{◌≡◌, ◌-◌}
use Rattle.records.specs.Chain.{walk, Walks}
use Rattle.records.specs.Tables.{laid_on, table_of}
use Rattle.records.proofs.chain.collect.Given as goal

abbrev pub invariant-loop : goal.invariant-loop
invariant-loop l =
    Walks l.file (l.count - l.counter) l.k × (laid_on l.kind l.table (walk l.file (l.count - l.counter) l.k) ≡ table_of l.kind (walk l.file l.count 0))
