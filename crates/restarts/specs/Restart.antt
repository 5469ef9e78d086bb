-- "A list of calls that passes through a save and its own restore counts as one list, for share and for least result alike; calls made between the two are lost
-- with the reboot and are not of it." What happens to a gateway, which of its calls count, and what it then holds; of whatever keeps a state and is called.
use Rattle.std.specs.Prelude.{ℕ, Bool, cond, List, [], ◌∷◌, ◌++◌, Option, Some, None, unwrap_or, slice_get}
use Rattle.ledger.specs.Words.{◌>>=◌}

-- one more, if there is one
abbrev pub more : {A : Type 0} → List A → Option A → List A
more xs None = xs
more xs (Some x) = xs ++ (x ∷ [])

-- the states that are kept, and the calls
module _ (Kept Call : Type 0) where
  pub data Event : Type 0 where
    call : Call → Event
    -- a new file of the state, in memory that is lent for it, beside those that are kept; none, where the save is refused
    save : List ℕ → Event
    -- the state is lost, and anything may stand in its place; the file with this number, counted from 0, is restored
    reboot : ℕ → Kept → Event

  -- ---- which calls count: those that the state stands for, and those that each file does

  pub record Counted : Type 0 where
    pub calls : List Call
    pub saved : List (List Call)

  -- makes: whether a save of the state that calls lead to, to lent memory, makes a file
  module _ (makes : List Call → List ℕ → Bool) where
    unfoldable pub counted_after : Counted → List Event → Counted
    counted_after k [] = k
    counted_after k (call c ∷ es) = counted_after (record { calls = k.calls ++ (c ∷ []); saved = k.saved }) es
    counted_after k (save lent ∷ es) = counted_after (record { calls = k.calls; saved = cond (makes k.calls lent) (k.saved ++ (k.calls ∷ [])) k.saved }) es
    counted_after k (reboot n left ∷ es) = counted_after (record { calls = unwrap_or (slice_get k.saved n) []; saved = k.saved }) es

    -- "calls made between the two are lost"
    abbrev pub surviving : List Event → List Call
    surviving es = (counted_after (record { calls = []; saved = [] }) es).calls

  -- ---- what the gateway holds

  -- the state that a list of calls leads to
  unfoldable pub led_to : (Kept → Call → Kept) → Kept → List Call → Kept
  led_to step s [] = s
  led_to step s (c ∷ cs) = led_to step (step s c) cs

  pub record OnGateway : Type 0 where
    pub state : Kept
    pub files : List (List ℕ)

  -- what a call leaves, the set-up made anew, a writer and a reader of files of any form
  module _ (step : Kept → Call → Kept) (anew : Kept → Kept) (write : Kept → List ℕ → Option (List ℕ)) (read : Kept → List ℕ → Option Kept) where
    -- a save that is refused makes no file; where there is no file with the number, or it is refused, the campaign starts anew
    unfoldable pub held_after : OnGateway → List Event → OnGateway
    held_after h [] = h
    held_after h (call c ∷ es) = held_after (record { state = step h.state c; files = h.files }) es
    held_after h (save lent ∷ es) = held_after (record { state = h.state; files = more h.files (write h.state lent) }) es
    held_after h (reboot n left ∷ es) = held_after (record { state = unwrap_or (slice_get h.files n >>= read left) (anew left); files = h.files }) es

    -- from a state on, with no file yet
    abbrev pub state_after : Kept → List Event → Kept
    state_after s es = (held_after (record { state = s; files = [] }) es).state
