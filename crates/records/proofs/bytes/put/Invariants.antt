-- `put` meets its contract: a byte a turn, and what is left of the number (`shifted`).
use Rattle.std.proofs.Common.{◌≡◌, take}
use Rattle.records.specs.Bytes.{bytes_of}
use Rattle.records.proofs.Reading.{shifted}
use Rattle.records.proofs.bytes.put.Given as goal

abbrev pub invariant-loop-byte : goal.invariant-loop-byte
invariant-loop-byte l = (take l.byte-index l.bytes ≡ take l.byte-index (bytes_of l.width l.v)) × (l.rest ≡ shifted l.byte-index l.v)
