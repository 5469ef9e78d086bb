-- DEMAND 1: "Every sample call, with whichever state, distribution, trial number and history, ends in a setting or in one numbered refusal of
-- document 01. A refusal has no setting, counts zero draws and hands back the state that came in, generator word included." An answer of the code
-- is a setting or a refusal, by its type.
use Rattle.std.specs.Prelude.{ℕ, ◌≡◌, cond, Option, Some, Err}
use Rattle.distribution.specs.declared.Refusal.{Refusal}
use Rattle.ledger.specs.Words.{or_else}
use Rattle.ledger.specs.Call.{Call, call_refusal}
use Rattle.ledger.specs.Sample.{state_refusal}
use Rattle.ledger.specs.Claim.{refusal_in}
use Rattle.kernel.specs.De.{de}
use Rattle.state.specs.Sound.{sound_state}
use Rattle.state.specs.View.{view}
use Rattle.state.specs.declared.State.{State}
use Rattle.de.specs.Answer.{plain_answer}
use Rattle.de.specs.declared.Sampled.{Sampled}

-- The table for a sample call on any state: 0 where the state isn't sound, then 4 to 8 of the call, 9 and 10. "The first that applies, in this order, is
-- given, and only then."
abbrev pub table_refusal : State → Call de → Option ℕ
table_refusal s c = cond (sound_state s) (or_else (call_refusal de c) (state_refusal de (view s).size (view s) c)) (Some 0)

-- what was returned is nothing but the refusal: no setting, no draw, the state that came in
abbrev pub only_refuses : Refusal → State → Sampled
only_refuses q s = record { answer = Err q; state = s; draws = 0 }

-- the demand of one call: s is the state that came in, r is what was returned
pub record Demand1 (s : State) (c : Call de) (r : Sampled) : Type 0 where
  pub refused_by : refusal_in de (plain_answer r.answer) ≡ table_refusal s c
  pub refused_unmoved : (q : Refusal) → r.answer ≡ Err q → r ≡ only_refuses q s
