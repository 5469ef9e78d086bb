-- The chain, a step at a time: as the loops go along it.
use Rattle.std.specs.Prelude.{Option, Some, None}
use Prim.Native.Nat.{ℕ, zero, suc, ◌+◌, ◌-◌, ◌≤◌, ◌<◌}
use native.Mathlib.Omega.{arith}
use mathlib.Core.List.{List}
use mathlib.Core.Path.{◌≡◌, refl, sym, ap, ◌∙◌}
use borrow.Author.Tests.{le-leb, lt-leb, ne_eqb}
use lib.ListN.{length}
use Rattle.records.specs.declared.Piece.{Piece}
use Rattle.records.specs.Chain.{next_at, piece_at, record_count, linked, chain_from, walk, Walks}
use Rattle.records.specs.Tables.{lay, laid_on}
use Rattle.records.specs.declared.Table.{Table}

-- ---- its length

pub left : (n i : ℕ) → i < n → n - i ≡ suc (n - (i + 1))
left n i h = omega arith

-- of a chain that goes on after n records
abbrev pub after : ℕ → Option (List Piece) → Option ℕ
after n None = None
after n (Some ps) = Some (n + length ps)

-- the rest of a chain, met records having been met: `met < count`
pub past : (f : List ℕ) (m k met : ℕ) → record_count f ≤ k → after met (chain_from f m k) ≡ None
unfolding chain_from
past f zero k met h = refl
past f (suc m) k met h = rw (le-leb (record_count f) k h)

linked-after : (met : ℕ) (p : Piece) (o : Option (List Piece)) → after met (linked p o) ≡ after (met + 1) o
linked-after met p None = refl
linked-after met p (Some ps) = let e : met + suc (length ps) ≡ met + 1 + length ps = omega arith in ap Some e

module _ (f : List ℕ) (count k met : ℕ) (h : met < count) (l : k < record_count f) where
  pub ends : next_at f k ≡ 0 → after met (chain_from f (count - met) k) ≡ Some (met + 1)
  unfolding chain_from
  ends e = rw (left count met h, lt-leb (record_count f) k l, e)

  goes_on : (next_at f k ≡ 0 → ⊥) → after met (chain_from f (count - met) k) ≡ after (met + 1) (chain_from f (count - (met + 1)) (next_at f k))
  unfolding chain_from
  goes_on e = rw (left count met h, lt-leb (record_count f) k l, ne_eqb (next_at f k) 0 e) (linked-after met (piece_at f k) (chain_from f (count - (met + 1)) (next_at f k)))

  pub goes : (next : ℕ) → next ≡ next_at f k → (next ≡ 0 → ⊥) → after met (chain_from f (count - met) k) ≡ after (met + 1) (chain_from f (count - (met + 1)) next)
  goes next q e = goes_on (λ z. e (q ∙ z)) ∙ ap (λ (n : ℕ). after (met + 1) (chain_from f (count - (met + 1)) n)) (sym q)

-- ---- along it: n steps are left, and m after this one

module _ (f : List ℕ) (n m k : ℕ) (h : n ≡ suc m) where
  pub walks-on : Walks f n k → (k < record_count f) × Walks f m (next_at f k)
  unfolding Walks
  walks-on w = rw h at w

  -- record k is laid
  pub lays : (kind next : ℕ) (t u v : Table) → next ≡ next_at f k → u ≡ lay kind t (piece_at f k) → laid_on kind t (walk f n k) ≡ v → laid_on kind u (walk f m next) ≡ v
  unfolding walk laid_on
  lays kind next t u v e q r = (λ i. laid_on kind (q i) (walk f m (e i))) ∙ ap (λ (i : ℕ). laid_on kind t (walk f i k)) (sym h) ∙ r

pub spent : (f : List ℕ) (count k met : ℕ) → count ≤ met → after met (chain_from f (count - met) k) ≡ None
unfolding chain_from
spent f count k met h = let e : count - met ≡ 0 = omega arith in ap (λ (n : ℕ). after met (chain_from f n k)) e

-- the walk is over
pub done : (f : List ℕ) (kind : ℕ) (t : Table) (n k : ℕ) {u : Table} → n ≡ 0 → laid_on kind t (walk f n k) ≡ u → t ≡ u
unfolding laid_on walk
done f kind t zero k h e = e
done f kind t (suc n) k h e = absurd (omega arith)
