-- How many draws are made at most: one for an entry, one for a choice, n + D for a candidate. And the candidate of what was drawn.
use Prim.Native.Nat.{ℕ, ◌+◌, ◌≤◌}
use native.Mathlib.Omega.{arith}
use mathlib.Core.Path.{◌≡◌, ◌∙◌}
use mathlib.Core.Bool.{Bool, true, false, cond}
use mathlib.Core.List.{List}
use lib.Dec.{eqb}
use lib.Ieee.{Float}
use lib.ListN.{get_or}
use Rattle.rng_util.specs.Gen.{draw_of, Made, made}
use Rattle.rng_util.specs.Many.{padded}
use Rattle.rng_util.specs.declared.Gen.{Gen}
use Rattle.rng_util.proofs.Parts.{many-draws}
use Rattle.common.specs.Bounds.{zero_f}
use Rattle.common.specs.declared.Bounds.{Bounds}
use Rattle.candidates.specs.Random.{random_entry, nan_bounds, entry_at, random_entries, random_choice, choice_at, random_choices, with_choices, random_candidate}
use Rattle.candidates.specs.declared.Candidate.{Candidate}
use Rattle.candidates.specs.declared.Space.{Space}

pub entry-draws : (b : Bounds) (g : Gen) → (random_entry b g).after.draws ≤ g.draws + 1
unfolding random_entry draw_of
entry-draws b g = omega arith

one_choice : (t : Bool) (a b : ℕ) (g : Gen) → (cond t (made a g) (made b (draw_of g).after)).after.draws ≤ g.draws + 1
unfolding draw_of
one_choice true a b g = omega arith
one_choice false a b g = omega arith

pub choice-draws : (k : ℕ) (g : Gen) → (random_choice k g).after.draws ≤ g.draws + 1
unfolding random_choice
choice-draws k g = one_choice (eqb k 0) _ _ g

pub entries-draws : (s : Space) (g : Gen) → (random_entries s g).after.draws ≤ g.draws + s.n
unfolding random_entries
entries-draws s g = omega (arith, many-draws (entry_at s) 1 (λ j h. entry-draws (get_or s.bounds j nan_bounds) h) s.n 0 g)

pub choices-draws : (s : Space) (g : Gen) → (random_choices s g).after.draws ≤ g.draws + s.n_dims
unfolding random_choices
choices-draws s g = omega (arith, many-draws (choice_at s) 1 (λ i h. choice-draws (get_or s.counts i 0) h) s.n_dims 0 g)

pub candidate-draws : (s : Space) (g : Gen) → (random_candidate s g).after.draws ≤ g.draws + s.n + s.n_dims
unfolding random_candidate
candidate-draws s g = omega (arith, choices-draws s (random_entries s g).after, entries-draws s g)

pub with-choices : (s : Space) (xs : Made (List Float)) (x : List Float) (cs : List ℕ) (g g' : Gen) → made x g ≡ padded 16 zero_f xs → made cs g' ≡ padded 16 0 (random_choices s g)
    → made {A = Candidate} (record { x = x; choices = cs }) g' ≡ with_choices s xs
with-choices s xs x cs g g' e f =
    let h : made cs g' ≡ padded 16 0 (random_choices s xs.after) = f ∙ (λ i. padded 16 0 (random_choices s (e i).after)) in
    λ i. made (record { x = (e i).out; choices = (h i).out }) (h i).after
