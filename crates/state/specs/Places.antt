-- The parts of the soundness test, as the code tests them: each array place by place, and the counts.
use Rattle.std.specs.Prelude.{◌≡◌, ℕ, ◌+◌, Bool, true, false, ◌&&◌, cond, List, [], ◌∷◌, map, leb, ltb, eqb, take, drop, is_some, is_none, is_ok}
use Rattle.std.specs.Bool.{beq}
use Rattle.std.specs.Fn.{Shared, FnReturnsAt}
use denote.Ref.{Bor}
use Rattle.rng_util.specs.Many.{pad_to}
use Rattle.distribution.specs.Validate.{judged}
use Rattle.distribution.specs.declared.DimensionInfo.{DimensionInfo}
use Rattle.candidates.specs.Space.{continuous_count}
use Rattle.evolution.specs.declared.Member.{Member}
use Rattle.selection.specs.Size.{size_of}
use Rattle.ledger.specs.Words.{all}
use Rattle.ledger.specs.Soundness.{is_number}
use Rattle.kernel.specs.Fits.{choice_limit, fits}
use Rattle.kernel.specs.Setup.{setup_verdict}
use Rattle.state.specs.declared.State.{State}
use Rattle.state.specs.declared.TrialProgress.{TrialProgress}
use Rattle.state.specs.declared.places.Limits.{Limits}

-- the code's test f answers what p says
abbrev pub Answers : {F A : Type 0} → Shared F (Bor A × Unit {0}) Bool → F → (A → Bool) → Type 0
Answers {A = A} g f p = (x : A) (r : Bool) → FnReturnsAt g f x r → r ≡ p x

-- the first n places are right, and the others are blank
unfoldable pub places_fit : {A : Type 0} → (A → Bool) → (A → Bool) → ℕ → List A → Bool
places_fit right blank n xs = all right (take n xs) && all blank (drop n xs)

-- ---- a place in use

-- "every dimension [passes] 4 to 7"
abbrev pub passes : DimensionInfo → Bool
passes d = is_none (judged d.distribution)

-- "a next place is at most D"
abbrev pub next_fits : ℕ → TrialProgress → Bool
next_fits D t = leb t.next_dim D

-- "choices are below their dimension's number; entries are finite, values not NaN", and no entry is "over 4e300 in size" (02, W8)
abbrev pub member_fits : List DimensionInfo → Member → Bool
member_fits ds m = fits ds m.candidate && is_number m.value

-- ---- the open trials' numbers

abbrev pub number_at : TrialProgress → ℕ
number_at t = t.number

abbrev pub numbers_of : List TrialProgress → List ℕ
numbers_of = map number_at

-- each number is above the one before it
unfoldable pub increasing : List ℕ → Bool
increasing [] = true
increasing (n ∷ []) = true
increasing (n ∷ m ∷ ns) = ltb n m && increasing (m ∷ ns)

-- ---- what the tests of candidates read of the dimensions: how many are continuous, and what each choice stays below

abbrev pub limits_of : List DimensionInfo → Limits
limits_of ds = record { n = continuous_count ds; choices = pad_to 16 1 (map choice_limit ds) }

-- each choice is below its limit
unfoldable pub choices_below : List ℕ → List ℕ → Bool
choices_below [] ls = true
choices_below (c ∷ cs) [] = false
choices_below (c ∷ cs) (l ∷ ls) = ltb c l && choices_below cs ls

-- ---- the counts: "counts keep the bounds below"

-- "before discovery ends there are no candidates, trials or parents, and a first trial's number exactly when D is at least 1"
unfoldable pub discovering_counts : State → Bool
discovering_counts s =
    eqb s.n 0 && eqb s.n_trials 0 && eqb s.closed 0 && eqb s.idle 0 && beq (is_some s.first) (leb 1 s.n_dims)

-- "after it D is at least 1, that number is still held, N is as sized below", "64 extra trials a generation", "the idle count is at most that count"
unfoldable pub running_counts : ℕ → State → Bool
running_counts size s =
    leb 1 s.n_dims && is_some s.first && eqb s.n size && leb s.n_trials (size + 64) && leb s.idle s.closed

-- with the set-up; nc continuous dimensions
unfoldable pub counts_sound : ℕ → State → Bool
counts_sound nc s =
    is_ok (setup_verdict s.setup) && cond s.discovered (running_counts (size_of s.setup.population_size nc) s) (discovering_counts s)
