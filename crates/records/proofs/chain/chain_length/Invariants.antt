-- `chain_length` meets its contract: the records met, and the chain from the next index on.
use Rattle.std.proofs.Common.{◌≡◌, ◌-◌}
use Rattle.records.specs.Chain.{record_count, chain_length, chain_of, chain_from}
use Rattle.records.proofs.Following.{after}
use Rattle.records.proofs.chain.chain_length.Given as goal

abbrev pub invariant-loop-met : goal.invariant-loop-met
invariant-loop-met l = (l.count ≡ record_count l.file) × (chain_length (chain_of l.file) ≡ after l.met (chain_from l.file (l.count - l.met) l.k))
