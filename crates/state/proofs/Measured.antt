-- A function knows `Measured` of each State that it is handed by value, and `Arrays` of one that is lent to it, once it has read those fields.
use Prim.Native.Nat.{◌≤◌}
use mathlib.Core.Path.{◌≡◌, sym, subst}
use mathlib.Core.List.Memᴰ
use mathlib.Core.List.{List, [], ◌∷◌}
use borrow.Author.Rules.{rules}
use lib.ListN.{length}
use mir.Val.{Val}
use denote.Laws.{Is}
use denote.Array.{each}
use denote.Shadow.{shadow}
use denote.RattleType.{RattleType}
use Rattle.candidates.specs.contracts.Candidate as C
use Rattle.candidates.specs.declared.Candidate.{Candidate}
use Rattle.evolution.specs.contracts.Member as M
use Rattle.evolution.specs.declared.Member.{Member}
use Rattle.ledger.specs.Words.{All}
use Rattle.ledger.specs.State.{cap}
pub use Rattle.state.specs.Measured.{Sized, Measured}
use Rattle.state.specs.declared.State.{State}
use Rattle.state.specs.contracts.State as S

-- what the test of soundness reads of it
pub record Arrays (s : State) : Type 0 where
  pub dims : length s.dims ≡ 16
  pub candidates : length s.candidates ≡ 224
  pub parents : length s.parents ≡ 160
  pub trials : length s.trials ≡ 224
  pub closed : s.closed ≤ cap

pub arrays-of : {s : State} → Measured s → Arrays s
arrays-of m = record { dims = m.dims; candidates = m.candidates; parents = m.parents; trials = m.trials; closed = m.closed }

-- ---- an array that is a field of a struct: what the type of its elements says holds of each

each-field : (R : RattleType) (P : R.Denot → Type 0) → ((x : R.Denot) (vs : List Val) → Is R x vs → P x)
    → (xs : List R.Denot) (us : List Val) → shadow (each R.Denot R.own_val xs us) → All P xs
each-field R P h [] us p a m = elim m [ ]
each-field R P h (x ∷ xs) [] p a m = absurd p
each-field R P h (x ∷ xs) (u ∷ us) p a (Memᴰ.head e) = subst P (sym e) (h x (u ∷ []) p.0)
each-field R P h (x ∷ xs) (u ∷ us) p a (Memᴰ.tail m) = each-field R P h xs us p.1 a m

sized : (c : Candidate) (vs : List Val) → Is C.the_row c vs → Sized c
sized c vs p = record { x = search rules; choices = search rules }

-- ---- the whole

pub measured : (s : State) (vs : List Val) → Is S.the_row s vs → Measured s
measured s vs p =
    let candidates = p.1.1.1.1.1.1.1.1 in
    let parents = candidates.1 in
    record {
      dims = search rules;
      candidates = search rules;
      parents = search rules;
      trials = search rules;
      candidates_sized = each-field C.the_row Sized sized s.candidates _ candidates.0.1.1;
      parents_sized = each-field M.the_row (λ (m : Member). Sized m.candidate) (λ m us q. sized m.candidate _ q.1.1.0) s.parents _ parents.0.1.1;
      closed = search rules;
      idle = search rules;
    }
