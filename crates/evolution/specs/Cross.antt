-- Step 4: binomial crossover, the paper's (3) and (4) but for the strict test.
use Rattle.std.specs.Prelude.{ℕ, false, cond, List, eqb, Float, get_or, pos}
use Rattle.std.specs.Float.{binary64, fin}
use Rattle.std.specs.Float.Ieee.{add, div, lt}
use Rattle.rng_util.specs.Draws.{unit_of}
use Rattle.rng_util.specs.Gen.{draw_of, Made, made}
use Rattle.rng_util.specs.Many.{many}
use Rattle.rng_util.specs.declared.Gen.{Gen}
use Rattle.rounding.specs.Clamp.{clamp_of}
use Rattle.common.specs.declared.Bounds.{Bounds}
use Rattle.candidates.specs.Random.{nan_bounds}
use Rattle.candidates.specs.declared.Space.{Space}
use Rattle.evolution.specs.declared.BoundsRule.{BoundsRule}
use Rattle.evolution.specs.declared.BoundsRule.TheVariants.{Clamp, Midpoint}

-- "Each entry is clamped."
abbrev pub clamped : Bounds → Float → Float
clamped b v = clamp_of v b.low b.high

-- 2.0, as 1 × 2^1
abbrev pub two : Float
two = fin false 1 (pos 1)

-- "half the sum of the parent's entry and that bound" (document 02, W7): the sum is rounded, then its half
unfoldable pub halfway : Float → Float → Float
unfolding add div
halfway x bound = div binary64 (add binary64 x bound) two

-- "a mutant entry beyond a bound becomes" that (W7), v being the mutant's and x the parent's; under clamp it stays
unfoldable pub drawn_in : BoundsRule → Bounds → Float → Float → Float
unfolding lt
drawn_in Clamp b x v = v
drawn_in Midpoint b x v = cond (lt v b.low) (halfway x b.low) (cond (lt b.high v) (halfway x b.high) v)

-- "then is clamped" (W7)
abbrev pub judged_entry : BoundsRule → Bounds → Float → Float → Float
judged_entry rule b x v = clamped b (drawn_in rule b x v)

-- "Each entry j takes the mutant if j = j*, without a draw, or if a drawn unit is below CR (the paper: at most CR)": v is the mutant's, x the parent's, star j*
unfoldable pub cross_entry : BoundsRule → Float → ℕ → Float → Float → Bounds → ℕ → Gen → Made Float
cross_entry rule CR star v x b j g =
    cond (eqb j star)
    (made (judged_entry rule b x v) g)
    (made (cond (lt (unit_of (draw_of g).out) CR) (judged_entry rule b x v) (clamped b x)) (draw_of g).after)

-- entry j, between its dimension's bounds
abbrev pub cross_at : BoundsRule → Float → ℕ → (ℕ → Float) → (ℕ → Float) → Space → ℕ → Gen → Made Float
cross_at rule CR star v x s j = cross_entry rule CR star (v j) (x j) (get_or s.bounds j nan_bounds) j

-- the n entries of a trial vector in order, of the mutant v and the parent x
unfoldable pub crossed : BoundsRule → Float → ℕ → (ℕ → Float) → (ℕ → Float) → Space → Gen → Made (List Float)
crossed rule CR star v x s g = many (cross_at rule CR star v x s) s.n 0 g
