-- Wrong idle counts, each refuted by the clause `idle` of demand 3: of a sampler that counts so, and else does what the definition's step does, it does not
-- hold over a run of two closings. Idea: by computing, the count is 0 after the second closing, and on the ledger it is 1.
use Rattle.ledger.specs.Kernel.{Parent}
use Rattle.ledger.specs.Call.{Call}
use Rattle.ledger.specs.State.{State, Returned}
use Rattle.ledger.specs.Claim.{Demand3}
use Rattle.ledger.proofs.Toy.{Entry, toy}
use Rattle.ledger.proofs.Example.{f, got, call, computed}
use Rattle.ledger.proofs.Shams.{Step, right, with, set_state}
use mathlib.Core.Bool.{Bool, false, not, ◌||◌, cond}
use mathlib.Core.List.{List, [], ◌∷◌}
use Prim.Native.Nat.{ℕ, suc}
use native.Mathlib.Omega.{arith}
use lib.Dec.{ltb, eqb}
use lib.ListN.{length}
use lib.Ieee.{lt}

-- ---- the runs: trial 1 discovers a dimension, and trials 2 to 5 have the slots of both generations; these are the histories that close them

unfoldable closings : List Entry → List Entry → List (Call toy)
closings h k = call 1 [] ∷ call 2 [] ∷ call 3 [] ∷ call 4 [] ∷ call 5 [] ∷ call 2 h ∷ call 3 [] ∷ call 4 [] ∷ call 5 [] ∷ call 2 k ∷ []

abbrev results : ℕ → ℕ → List Entry
results a b = got 2 (f a) ∷ got 3 (f b) ∷ got 4 (f 5) ∷ got 5 (f 5) ∷ []

-- "On a flat objective every result ties"; and a run in which slot 1 becomes smaller, from 5 to 4, and slot 0 keeps the least, 3
abbrev flat : List (Call toy)
flat = closings (results 5 5) (results 5 5)

abbrev above : List (Call toy)
above = closings (results 3 5) (results 9 4)

-- ---- the shams: a closing sets the count to 0 where a test of the parents before and after it passes, and at the first closing

abbrev set_idle : Returned toy (State toy) → ℕ → Returned toy (State toy)
set_idle r k =
    let s = r.state in
    let o = s.slots in
    set_state r (record { word = s.word; first = s.first; dims = s.dims; size = s.size; candidates = s.candidates; trials = s.trials; slots = record { parents = o.parents; best = o.best; closed = o.closed; idle = k } })

abbrev reset_by : (List (Parent ℕ) → List (Parent ℕ) → Bool) → Step
reset_by test s c =
    let r = right s c in
    let count = cond (eqb s.slots.closed 0 || test s.slots.parents r.state.slots.parents) 0 (suc s.slots.idle) in
    set_idle r (cond (ltb (length r.state.trials) (length s.trials)) count s.slots.idle)

-- Whether a slot was replaced, which its candidate tells (in the toy a new candidate is never the parent's); whether a slot's value is smaller than before.
abbrev replaced : List (Parent ℕ) → List (Parent ℕ) → Bool
replaced [] ns = false
replaced (o ∷ os) [] = false
replaced (o ∷ os) (n ∷ ns) = not (eqb o.candidate n.candidate) || replaced os ns

abbrev some_smaller : List (Parent ℕ) → List (Parent ℕ) → Bool
some_smaller [] ns = false
some_smaller (o ∷ os) [] = false
some_smaller (o ∷ os) (n ∷ ns) = lt n.value o.value || some_smaller os ns

-- The counter of document 01, which a replaced slot resets, by a tie too: it sits at 0 on a flat objective.
tie-resets-refuted : Demand3 toy (with (reset_by replaced)) 0 flat → ⊥
unfolding computed closings
tie-resets-refuted c = omega (arith, c.idle)

-- A counter that any slot resets whose value becomes smaller, the least or not.
some-smaller-refuted : Demand3 toy (with (reset_by some_smaller)) 0 above → ⊥
unfolding computed closings
some-smaller-refuted c = omega (arith, c.idle)
