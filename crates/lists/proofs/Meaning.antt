-- What document 02 says of a sweep (W10), of the call that C and Rust callers make: where every number of the dimensions names a case, the answer and lent
-- memory are those of the distributions that they stand for, so what is shown of these holds of the call.
use Rattle.std.proofs.Common.{◌≡◌, ◌↔◌, ℕ, ◌*◌, ◌<◌, Bool, true, false, cond, List, length, drop, ℤ, Result, Ok, Err, refl, ap, arith}
use Rattle.std.specs.List.{list_all}
use Rattle.edge.specs.Known.{known_distribution}
use Rattle.edge.specs.declared.flat.DeDistribution.{DeDistribution}
use Rattle.sweep.specs.Sweep.{sweep_of, swept_in}
use Rattle.sweep.specs.Meaning.{IsCombination, Before, standing}
use Rattle.sweep.specs.declared.SweepRefusal.{SweepRefusal}
use Rattle.sweep.proofs.Meaning as sweep
use Rattle.lists.specs.Sweeps.{stand_for, listed_count, unknown_count, count_in, sweep_answer, sweep_left}
use Rattle.lists.specs.declared.sweeps.DeCount.{DeCount}

module _ (dims : List DeDistribution) (lent : List ℤ) where
  -- combination i in lent memory afterwards
  abbrev stands : ℕ → List ℤ
  stands i = standing (length (stand_for dims)) (sweep_left dims lent) i

  taken : (n : ℕ) → sweep_answer dims (length lent) ≡ listed_count n
      → (list_all known_distribution dims ≡ true) × (sweep_of (stand_for dims) (length lent) ≡ Ok n)
  taken n e = go (list_all known_distribution dims) (sweep_of (stand_for dims) (length lent)) e
    where
      go : (b : Bool) (r : Result ℕ SweepRefusal) → cond b (count_in r) unknown_count ≡ listed_count n → (b ≡ true) × (r ≡ Ok n)
      go true (Ok m) h = (refl, ap (λ (c : DeCount). Ok c.count) h)
      go true (Err why) h = absurd (omega (arith, ap (λ (c : DeCount). c.kind) h))
      go false r h = absurd (omega (arith, ap (λ (c : DeCount). c.kind) h))

  module _ (n : ℕ) (answer : sweep_answer dims (length lent) ≡ listed_count n) where
    left-is : sweep_left dims lent ≡ swept_in (stand_for dims) lent
    left-is = rw (taken n answer).0 refl

    counted : sweep_of (stand_for dims) (length lent) ≡ Ok n
    counted = (taken n answer).1

    -- "every combination of these values and choices and no other"
    pub library-exactly : (c : List ℤ) → ((i : ℕ) × (i < n) × (stands i ≡ c)) ↔ IsCombination (stand_for dims) c
    library-exactly c = rw left-is (sweep.memory-exactly (stand_for dims) lent n counted c)

    -- "the last dimension changing fastest"
    pub library-rises : (i j : ℕ) → i < j → j < n → Before (stands i) (stands j)
    library-rises = rw left-is (sweep.memory-rises (stand_for dims) lent n counted)

    -- "each combination once"
    pub library-once : (i j : ℕ) → i < n → j < n → stands i ≡ stands j → i ≡ j
    library-once = rw left-is (sweep.memory-once (stand_for dims) lent n counted)

    -- "nothing past it is touched"
    pub library-past : (drop (n * length (stand_for dims)) (sweep_left dims lent) ≡ drop (n * length (stand_for dims)) lent)
        × (length (sweep_left dims lent) ≡ length lent)
    library-past = rw left-is (sweep.nothing-past (stand_for dims) lent n counted)

  -- any other answer leaves lent memory as it was
  pub library-untouched : ((n : ℕ) → sweep_answer dims (length lent) ≡ listed_count n → ⊥) → sweep_left dims lent ≡ lent
  library-untouched none = go (list_all known_distribution dims) (sweep_of (stand_for dims) (length lent)) refl none
    where
      go : (b : Bool) (r : Result ℕ SweepRefusal) → sweep_of (stand_for dims) (length lent) ≡ r
          → ((n : ℕ) → cond b (count_in r) unknown_count ≡ listed_count n → ⊥) → cond b (swept_in (stand_for dims) lent) lent ≡ lent
      go true (Ok n) e h = absurd (h n refl)
      go true (Err why) e h = sweep.untouched (stand_for dims) lent why e
      go false r e h = refl
