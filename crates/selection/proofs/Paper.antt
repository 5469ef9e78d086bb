-- Step 6's selection against the paper (specs/Paper): the same slot stays or is replaced, but at a tie.
use mathlib.Core.Path.{◌≡◌, refl, ap}
use mathlib.Core.Bool.{Bool, true, false, ◌||◌, cond}
use lib.Ieee.{Float, lt, eq, le}
use Rattle.candidates.specs.declared.Candidate.{Candidate}
use Rattle.evolution.proofs.Paper.{equal-not-below}
use Rattle.evolution.specs.declared.Member.{Member}
use Rattle.selection.specs.Select.{survivor_of}
use Rattle.selection.specs.Paper.{paper_survivor}

-- "at most the parent's" is the paper's "smaller", unless the result is equal to the parent's
pub replaces-as-papers : (p : Member) (c : Candidate) (r : Float) → eq r p.value ≡ false → survivor_of p c r ≡ paper_survivor p c r
unfolding survivor_of paper_survivor le
replaces-as-papers p c r e = ap (λ (z : Bool). cond z (record { candidate = c; value = r }) p) (go (lt r p.value) (eq r p.value) e)
  where
    go : (below same : Bool) → same ≡ false → (below || same) ≡ below
    go true same q = refl
    go false same q = q

-- at a tie the trial replaces its parent, and the paper keeps it
pub replaces-at-a-tie : (p : Member) (c : Candidate) (r : Float) → eq r p.value ≡ true
    → (survivor_of p c r ≡ record { candidate = c; value = r }) × (paper_survivor p c r ≡ p)
unfolding survivor_of paper_survivor le
replaces-at-a-tie p c r e = rw (equal-not-below r p.value e, e) (refl, refl)
