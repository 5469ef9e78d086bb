-- The starred bench figures of mutation, selection, best slot and size (document 01, "Bench figures"), for any other entries and candidates.
-- Where the code's contracts and demand 2's definition (the ledger's, over the kernel `de`) have a definition each, the figure is given for both.
use Rattle.std.specs.Prelude.{ℕ, ◌≡◌, false, List, [], ◌∷◌, map, Float, Some, None}
use Rattle.std.specs.Float.{inf}
use Rattle.ledger.specs.Kernel.{Parent}
use Rattle.ledger.specs.Closing.{best_of, new_parents}
use Rattle.candidates.specs.declared.Candidate.{Candidate}
use Rattle.evolution.specs.Mutant.{mutant_entry}
use Rattle.evolution.specs.declared.Member.{Member}
use Rattle.evolution.specs.declared.DEStrategy.TheVariants.{Rand1, CurrentToBest1}
use Rattle.selection.specs.Select.{survivor_of}
use Rattle.selection.specs.Best.{best_slot}
use Rattle.selection.specs.Size.{size_of}
use Rattle.kernel.specs.De.{de}
use Rattle.figures.specs.Leaves.{dec}

-- "Rand1, F = 0.5, entries 1, 4, 2: 2. CurrentToBest1, x = 2, b = 4, entries 1, 3: 2."
abbrev pub Mutants : Type 0
Mutants =
    (x b x3 : Float)
    → (mutant_entry Rand1 (dec 5 1) x b (dec 1 0) (dec 4 0) (dec 2 0) ≡ dec 2 0)
    × (mutant_entry CurrentToBest1 (dec 5 1) (dec 2 0) (dec 4 0) (dec 1 0) (dec 3 0) x3 ≡ dec 2 0)

-- a slot that holds candidate c with the result v
abbrev pub holds : Candidate → Float → Member
holds c v = record { candidate = c; value = v }

-- "Results 5, 3, 4, 3: the fourth stays. Parent 3, result 3.5: parent stays.", as the code's slot is judged
abbrev pub Stays : Type 0
Stays =
    (a b c d : Candidate)
    → (survivor_of (survivor_of (survivor_of (holds a (dec 5 0)) b (dec 3 0)) c (dec 4 0)) d (dec 3 0) ≡ holds d (dec 3 0))
    × (survivor_of (holds a (dec 3 0)) b (dec 35 1) ≡ holds a (dec 3 0))

-- the same in demand 2's definition: one slot that holds c with the result v
abbrev pub slot : Candidate → Float → List (Parent Candidate)
slot c v = record { candidate = c; value = v } ∷ []

-- and one slot after a closing with c and v, by the count of generations closed before
abbrev pub closing : ℕ → List (Parent Candidate) → Candidate → Float → List (Parent Candidate)
closing k ps c v = new_parents de k ps (c ∷ []) (v ∷ [])

-- the figure there: four closings, of which the first stores
abbrev pub Closings : Type 0
Closings =
    (a b c d : Candidate)
    → (closing 3 (closing 2 (closing 1 (closing 0 [] a (dec 5 0)) b (dec 3 0)) c (dec 4 0)) d (dec 3 0) ≡ slot d (dec 3 0))
    × (closing 1 (slot a (dec 3 0)) b (dec 35 1) ≡ slot a (dec 3 0))

unfoldable pub two_rows : List (List Float)
unfolding dec
two_rows = (dec 2 0 ∷ dec 1 0 ∷ dec 1 0 ∷ dec 3 0 ∷ []) ∷ (inf false ∷ inf false ∷ inf false ∷ inf false ∷ []) ∷ []

-- "Values 2, 1, 1, 3: best 1. Four +infinity: best 0.", as the code finds it and as the ledger does
abbrev pub Bests : Type 0
Bests = (map best_slot two_rows ≡ 1 ∷ 0 ∷ []) × (map best_of two_rows ≡ 1 ∷ 0 ∷ [])

-- "Unset, n = 0, 1, 2, 16: 15, 15, 20, 160. User 0, 3, 5: 4, 4, 5."
abbrev pub Sizes : Type 0
Sizes =
    (map (size_of None) (0 ∷ 1 ∷ 2 ∷ 16 ∷ []) ≡ 15 ∷ 15 ∷ 20 ∷ 160 ∷ [])
    × ((n : ℕ) → map (λ (k : ℕ). size_of (Some k) n) (0 ∷ 3 ∷ 5 ∷ []) ≡ 4 ∷ 4 ∷ 5 ∷ [])
