-- What the clauses of `many` say of the calls of its closure, which takes a number and is lent the generator: p is it before a call, and q after it.
use Rattle.std.specs.Prelude.{◌≡◌, ℕ, ◌+◌, ◌*◌, ◌<◌, ◌≤◌}
use Rattle.std.specs.Fn.{Shared}
use denote.Ref.{MutBor}
use Rattle.rng_util.specs.declared.Gen.{Gen}
use Rattle.rng_util.specs.Gen.{Made, made}

module _ {F A : Type 0} (g : Shared F (ℕ × (MutBor Gen × Unit {0})) (A × (MutBor Gen × Unit {0}))) (make : F) where
  -- each of n things takes at most `cost` draws, and may be made where `most` leaves room for these; it leaves room for those of all, from the generator e on
  pub record DrawsFew (n : ℕ) (e : Gen) : Type 0 where
    pub cost : ℕ
    pub most : ℕ
    pub room : e.draws + n * cost ≤ most
    pub takes : (i : ℕ) (p : MutBor Gen) → i < n → p.now.draws + cost ≤ most → g.pre make (i, (p, tt))
    pub draws : (i : ℕ) (p q : MutBor Gen) (v : A) → i < n → g.post make (i, (p, tt)) (v, (q, tt)) → q.now.draws ≤ p.now.draws + cost

  -- each of n things is what f says
  abbrev pub MakesBy : ℕ → (ℕ → Gen → Made A) → Type 0
  MakesBy n f = (i : ℕ) (p q : MutBor Gen) (v : A) → i < n → g.post make (i, (p, tt)) (v, (q, tt)) → made v q.now ≡ f i p.now
