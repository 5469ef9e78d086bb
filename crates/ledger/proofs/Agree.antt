-- Where the state agrees with the ledger, both read a call alike: the same counted results, the same refusal 9 or 10, whether it is of discovery.
use Rattle.std.specs.Prelude.{Option, Some, None}
use Rattle.ledger.specs.Words.{refuse_if, has}
use Rattle.ledger.specs.Kernel.{Kernel, Laws}
use Rattle.ledger.specs.Call.{Call}
use Rattle.ledger.specs.State.{numbers, cap, State}
use Rattle.ledger.specs.Closing.{counted}
use Rattle.ledger.specs.Sample.{discovers, state_refusal}
use Rattle.ledger.specs.Ledger.{is_open, is_first, Ledger, first_results, ledger_refusal}
use Rattle.ledger.specs.Idle.{idle_on}
use Rattle.ledger.specs.Claim.{placed}
use Rattle.ledger.proofs.Lists.{length-map}
use Rattle.ledger.proofs.Trials.{opened, placed-numbers, has-open}
use Rattle.ledger.proofs.Results.{counted-row}
use mathlib.Core.Path.{◌≡◌, refl, ap, ap₂, ◌∙◌}
use mathlib.Core.Bool.{Bool, ◌&&◌}
use mathlib.Core.List.{List, map}
use Prim.Native.Nat.{ℕ, min}
use lib.Dec.{leb}
use lib.ListN.{length}

module _ (K : Kernel) (L : Laws K) where
  open K use {Distribution}

  -- the state and the ledger agree
  pub record Corr (s : State K) (l : Ledger K) : Type 0 where
    pub first : s.first ≡ l.first
    pub dims : s.dims ≡ l.dims
    pub size : s.size ≡ l.size
    pub trials : s.trials ≡ map (placed (length l.dims)) l.open_trials
    pub closed : s.slots.closed ≡ min (length l.generations) cap
    pub idle : s.slots.idle ≡ min (idle_on l.generations) cap

  pub trial-numbers : (s : State K) (l : Ledger K) → Corr s l → numbers s.trials ≡ opened l.open_trials
  trial-numbers s l r = ap numbers r.trials ∙ placed-numbers (length l.dims) l.open_trials

  pub same_first : (o p : Option ℕ) (n : ℕ) → o ≡ p → discovers o n ≡ is_first p n
  same_first o p n e = ap (λ (x : Option ℕ). discovers x n) e ∙ go p
    where
      go : (x : Option ℕ) → discovers x n ≡ is_first x n
      go None = refl
      go (Some t) = refl

  -- the sampler counts what the ledger counts
  pub same_row : (N : ℕ) (s : State K) (l : Ledger K) (c : Call K) → Corr s l → counted K N (numbers s.trials) c.history ≡ first_results K N l.open_trials c.history
  same_row N s l c r = ap (λ (ns : List ℕ). counted K N ns c.history) (trial-numbers s l r) ∙ counted-row K L N l.open_trials c.history

  -- 9 and 10 are the same on the state and on the ledger
  pub refusals-agree : (s : State K) (l : Ledger K) (c : Call K) → Corr s l → state_refusal K s.size s c ≡ ledger_refusal K l.size l c
  unfolding state_refusal ledger_refusal
  refusals-agree s l c r = ap (λ (z : Option ℕ). state_refusal K z s c) r.size ∙ go l.size
    where
      many : length s.trials ≡ length l.open_trials
      many = ap length r.trials ∙ length-map (placed (length l.dims)) l.open_trials

      is-open : has (numbers s.trials) c.number ≡ is_open l.open_trials c.number
      is-open = ap (λ (ns : List ℕ). has ns c.number) (trial-numbers s l r) ∙ has-open l.open_trials c.number

      go : (z : Option ℕ) → state_refusal K z s c ≡ ledger_refusal K z l c
      go None = ap₂ (λ (f : Bool) (ds : List Distribution). refuse_if (f && leb 16 (length ds)) 9) (same_first s.first l.first c.number r.first) r.dims
      go (Some N) = rw (same_row N s l c r, is-open, many)
