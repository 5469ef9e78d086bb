-- "Best slot: first least, 0 if all are +infinity", as the Rust finds it. It is the first least of the slots' values: proofs/Best, `best-is`.
use Rattle.std.specs.Prelude.{ℕ, ◌+◌, false, cond, List, [], ◌∷◌, map, Float, get_or}
use Rattle.std.specs.Float.{inf}
use Rattle.std.specs.Float.Ieee.{lt}
use Rattle.evolution.specs.declared.Member.{Member}

-- what the slots hold
abbrev pub values : List Member → List Float
values = map (λ (p : Member). p.value)

-- v, of slot b, is the least so far, and slot i's value is next: a smaller one takes its place
unfoldable pub best_from : List Float → ℕ → Float → ℕ → ℕ
best_from [] i v b = b
best_from (w ∷ ws) i v b = cond (lt w v) (best_from ws (i + 1) w i) (best_from ws (i + 1) v b)

-- from +infinity and slot 0
unfoldable pub best_slot : List Float → ℕ
best_slot vs = best_from vs 0 (inf false) 0

-- the least of the values, which the best slot has; +infinity where there is no slot
abbrev pub least_value : List Float → Float
least_value vs = get_or vs (best_slot vs) (inf false)
