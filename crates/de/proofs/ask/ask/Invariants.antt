-- `ask` meets its contract: the numbers of the first i trials are copied out.
use Rattle.std.proofs.Common.{◌≡◌}
use Rattle.de.specs.Ask.{first_numbers}
use Rattle.de.proofs.ask.ask.Given as goal

abbrev pub invariant-loop-i : goal.invariant-loop-i
invariant-loop-i l = l.numbers ≡ first_numbers l.state.trials l.i
