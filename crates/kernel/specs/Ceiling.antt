-- W1, the draw ceiling: how much one sample call can draw, by the plain states before and after it and the calling trial's number.
use Rattle.std.specs.Prelude.{ℕ, ◌+◌, ◌*◌, min, Bool, ◌&&◌, ◌||◌, cond, ltb, length, unwrap_or, is_some, is_none}
use Rattle.evolution.specs.declared.DEStrategy.{DEStrategy}
use Rattle.evolution.specs.declared.DEStrategy.TheVariants.{Rand1, Best1, CurrentToBest1}
use Rattle.ledger.specs.Words.{has}
use Rattle.ledger.specs.State.{State, numbers}
use Rattle.kernel.specs.De.{de}

-- ---- what the call does, said on the two states

-- it "closes a generation": "Trial records are cleared", so fewer trials are open after it (as `SamplerCloses` of demand 3)
abbrev pub closes : State de → State de → Bool
closes before after = ltb (length after.trials) (length before.trials)

-- it "ends discovery": N is fixed after it, and was not before
abbrev pub ends_discovery : State de → State de → Bool
ends_discovery before after = is_none before.size && is_some after.size

-- "the trial already has a candidate": it is open
abbrev pub has_candidate : State de → ℕ → Bool
has_candidate before n = has (numbers before.trials) n

-- ---- the ceiling

-- "3,072 .. under Rand1, .. 2,048 .. under the other two strategies": 1,024 for each index of a slot's mutation
abbrev pub per_slot : DEStrategy → ℕ
per_slot Rand1 = 3072
per_slot Best1 = 2048
per_slot CurrentToBest1 = 2048

-- "N × (3,072 + D) under Rand1, and N × (2,048 + D) under the other two strategies"
abbrev pub generation_ceiling : DEStrategy → ℕ → ℕ → ℕ
generation_ceiling strategy N D = N * (per_slot strategy + D)

-- "no call that closes a generation or ends discovery exceeds N × (3,072 + D) under Rand1, and N × (2,048 + D) under the other two strategies. D is the number
-- of dimensions after the call. All other calls make at most D draws, and at most one where the trial already has a candidate."
unfoldable pub step_ceiling : DEStrategy → State de → State de → ℕ → ℕ
step_ceiling strategy before after n =
    let N = unwrap_or after.size 0 in
    let D = length after.dims in
    cond (closes before after || ends_discovery before after) (generation_ceiling strategy N D) (cond (has_candidate before n) (min 1 D) D)
