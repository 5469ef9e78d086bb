-- What is left, after the digits so far, reads as the whole did: each turn is a law of `Laws`.
use Rattle.numbers.specs.Numbers.{number_after}
use Rattle.std.proofs.Common.{◌≡◌, ◌<◌, ◌^◌, drop}
use Rattle.numbers.proofs.number.Given as goal

abbrev pub invariant-loop-b : goal.invariant-loop-b
invariant-loop-b l = (l.v < 2 ^ 64) × (number_after l.base 0 l.s ≡ number_after l.base l.v (drop l.b-index l.s))
