-- What demand 3 is said of: a sampler, right or wrong; and when one meets demand 2's definition, so that the demand is proved of it.
use Rattle.ledger.specs.Kernel.{Kernel}
use Rattle.ledger.specs.Call.{Call}
use Rattle.ledger.specs.State.{State, fresh, Returned}
use Rattle.ledger.specs.Sample.{sample}
use Rattle.std.specs.Prelude.{◌≡◌, List, [], ◌∷◌}

module _ (K : Kernel) where
  open K use {Setup}

  -- A sampler under one set-up: the states that it keeps, each one's view as a plain state, the state that the accepted set-up returned, and its sample call.
  pub record Sampler : Type 1 where
    pub Kept : Type 0
    pub view : Kept → State K
    pub new : Kept
    pub call : Kept → Call K → Returned K Kept

  -- demand 2's definition is one
  abbrev pub definition : Setup → Sampler
  definition S = record { Kept = State K; view = λ s. s; new = fresh K S; call = sample K S }

  -- what a call returned, with the state as its view; and what a list of calls returns from a state on
  abbrev pub viewed : (X : Sampler) → Returned K X.Kept → Returned K (State K)
  viewed X r = record { answer = r.answer; draws = r.draws; state = X.view r.state }

  unfoldable pub returns_from : (X : Sampler) → X.Kept → List (Call K) → List (Returned K (State K))
  returns_from X x [] = []
  returns_from X x (c ∷ cs) = viewed X (X.call x c) ∷ returns_from X (X.call x c).state cs

  -- A sampler MEETS the definition: from clean states, as the new one is, to clean states a call returns, viewed, what the definition makes of the view. The
  -- view shows a clean state whole: with "unused places .. as in a fresh state" no two clean states have one view.
  pub record Meets (X : Sampler) (S : Setup) : Type 1 where
    pub Clean : X.Kept → Type 0
    pub new_clean : Clean X.new
    pub call_clean : (x : X.Kept) (c : Call K) → Clean x → Clean (X.call x c).state
    pub view_whole : (x y : X.Kept) → Clean x → Clean y → X.view x ≡ X.view y → x ≡ y
    pub new_view : X.view X.new ≡ fresh K S
    pub call_view : (x : X.Kept) (c : Call K) → Clean x → viewed X (X.call x c) ≡ sample K S (X.view x) c
