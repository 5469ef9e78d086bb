-- What `many` asks of its closure, where each thing is what f says: it is enough that f makes few draws.
use Rattle.std.proofs.Common.{ℕ, ◌+◌, ◌*◌, ◌<◌, ◌≤◌, arith}
use Rattle.std.specs.Fn.{Shared}
use denote.Ref.{MutBor}
use Rattle.rng_util.specs.declared.Gen.{Gen}
use Rattle.rng_util.specs.Gen.{Made}
use Rattle.rng_util.specs.Calls.{DrawsFew, MakesBy}
use Rattle.rng_util.proofs.Parts.{drew}

module _ {F A : Type 0} (g : Shared F (ℕ × (MutBor Gen × Unit {0})) (A × (MutBor Gen × Unit {0}))) (make : F) (n : ℕ) (e : Gen) where
  pub few-by : (f : ℕ → Gen → Made A) (cost most : ℕ) → ((i : ℕ) (h : Gen) → (f i h).after.draws ≤ h.draws + cost) → e.draws + n * cost ≤ most
      → ((i : ℕ) (p : MutBor Gen) → i < n → p.now.draws + cost ≤ most → g.pre make (i, (p, tt))) → MakesBy g make n f → DrawsFew g make n e
  few-by f cost most few room takes makes =
      record { cost = cost; most = most; room = room; takes = takes; draws = λ i p q v h d. omega (arith, drew (makes i p q v h d), few i p.now) }
