-- The refusals of the calls that only look, in the table's numbers.
use Rattle.std.specs.Prelude.{Option, Some, None, Result, Ok, Err, slice_get}
use Prim.Native.Nat.{ℕ}
use mathlib.Core.Path.{◌≡◌, refl}
use mathlib.Core.Bool.{Bool, true, false, not, cond}
use lib.Dec.{eqb, ltb}
use lib.ListN.{length}
use Rattle.distribution.specs.declared.Refusal.TheVariants.{StateNotSound}
use Rattle.candidates.specs.declared.Candidate.{Candidate}
use Rattle.ledger.specs.Words.{refuse_if}
use Rattle.ledger.specs.Kernel.{Parent}
use Rattle.kernel.specs.De.{de}
use Rattle.state.specs.Sound.{sound_state}
use Rattle.state.specs.View.{view}
use Rattle.state.specs.declared.State.{State}
use Rattle.slots.specs.Held.{held_by, held_of, held_refusal}
use Rattle.slots.specs.Look.{bare, seen, look_of, look_refusal, unsound_refusal}
use Rattle.distribution.specs.declared.Refusal.{Refusal}
use Rattle.distribution.specs.declared.ParamValue.{ParamValue}

-- the look: 0, and no other
pub looked-by : (s : State) → look_refusal (look_of s).look ≡ unsound_refusal s
unfolding look_of
looked-by s = go (sound_state s) (eqb (view s).slots.closed 0)
  where
    go : (x y : Bool) → look_refusal (cond x (cond y (bare (Ok None)) (seen (view s).slots)) (bare (Err StateNotSound))).look ≡ refuse_if (not x) 0
    go true true = refl
    go true false = refl
    go false y = refl

-- what a slot holds: 0, and no other
pub held-by : (s : State) (i k : ℕ) → held_refusal (held_of s i k) ≡ unsound_refusal s
unfolding held_of
held-by s i k = go (sound_state s) (slice_get (view s).slots.parents i)
  where
    either : (b : Bool) (x : Result (Option ParamValue) Refusal) → held_refusal x ≡ None → held_refusal (cond b x (Ok None)) ≡ None
    either true x e = e
    either false x e = refl

    go : (b : Bool) (o : Option (Parent Candidate)) → held_refusal (cond b (held_by (view s) k o) (Err StateNotSound)) ≡ refuse_if (not b) 0
    go true None = refl
    go true (Some p) = either (ltb k (length (view s).dims)) (Ok (Some (de.decode (view s).dims k p.candidate))) refl
    go false o = refl

pub ruleset refusals = (looked-by, held-by)
