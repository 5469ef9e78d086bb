-- Step 2: "Random candidate: continuous entries by `f64_range` in dimension order, then choices in dimension order."
use Rattle.std.specs.Prelude.{ℕ, cond, List, eqb, Float, get_or}
use Rattle.std.specs.Float.{nan}
use Rattle.rng_util.specs.Draws.{unit_of, usize_of, range_of}
use Rattle.rng_util.specs.Gen.{draw_of, Made, made}
use Rattle.rng_util.specs.Many.{many}
use Rattle.rng_util.specs.declared.Gen.{Gen}
use Rattle.common.specs.declared.Bounds.{Bounds}
use Rattle.candidates.specs.Candidate.{packed}
use Rattle.candidates.specs.declared.Candidate.{Candidate}
use Rattle.candidates.specs.declared.Space.{Space}

-- an entry "by `f64_range`" between its dimension's bounds: one draw
unfoldable pub random_entry : Bounds → Gen → Made Float
random_entry b g = made (range_of b.low b.high (unit_of (draw_of g).out)) (draw_of g).after

-- what a read past the end of an array of bounds gives
abbrev pub nan_bounds : Bounds
nan_bounds = record { low = nan; high = nan }

-- entry j of a vector
abbrev pub entry_at : Space → ℕ → Gen → Made Float
entry_at s j = random_entry (get_or s.bounds j nan_bounds)

-- "continuous entries .. in dimension order"
unfoldable pub random_entries : Space → Gen → Made (List Float)
random_entries s g = many (entry_at s) s.n 0 g

-- one of k choices by `usize(0..k)`: one draw; a dimension without choices, a continuous one, has 0 there, without a draw
unfoldable pub random_choice : ℕ → Gen → Made ℕ
random_choice k g = cond (eqb k 0) (made 0 g) (made (usize_of (draw_of g).out k) (draw_of g).after)

-- the choice of dimension i
abbrev pub choice_at : Space → ℕ → Gen → Made ℕ
choice_at s i = random_choice (get_or s.counts i 0)

-- "then choices in dimension order"
unfoldable pub random_choices : Space → Gen → Made (List ℕ)
random_choices s g = many (choice_at s) s.n_dims 0 g

-- a candidate of these entries: the choices are drawn after them
abbrev pub with_choices : Space → Made (List Float) → Made Candidate
with_choices s xs = made (packed xs.out (random_choices s xs.after).out) (random_choices s xs.after).after

-- "Random candidate": entries, then choices
unfoldable pub random_candidate : Space → Gen → Made Candidate
random_candidate s g = with_choices s (random_entries s g)

-- the one of slot i: it does not depend on i
abbrev pub candidate_at : Space → ℕ → Gen → Made Candidate
candidate_at s i = random_candidate s

-- N of them, "fills N random candidates"
unfoldable pub random_candidates : Space → ℕ → Gen → Made (List Candidate)
random_candidates s N g = many (candidate_at s) N 0 g
