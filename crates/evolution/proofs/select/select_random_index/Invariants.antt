-- `select_random_index` meets its contract: after k rejected draws what is left of the 1,024 decides.
use Rattle.std.proofs.Common.{◌≡◌, ◌+◌, ◌-◌, ◌≤◌}
use Rattle.evolution.specs.Select.{select_from}
use Rattle.evolution.proofs.select.select_random_index.Given as goal

abbrev pub invariant-loop : goal.invariant-loop
invariant-loop l =
    record {
      drawn : l.rng.draws ≤ l.initial.rng.draws + l.counter;
      rest_decides : select_from l.n l.taken 1024 l.initial.rng ≡ select_from l.n l.taken (1024 - l.counter) l.rng;
    }
