-- What the code counts with: a dimension as an axis, and a combination by its number, whose digits say which value of each axis it has.
use Rattle.std.specs.Prelude.{ℕ, ◌*◌, ◌/◌, ◌%◌, ◌^◌, ◌<◌, ◌≤◌, ◌||◌, ltb, List, [], ◌∷◌, map, ℤ, pos, ◌+ℤ◌, ◌≤ℤ◌, nat_abs, cond, Option, Some, None, Result, Ok, Err, filter_map}
use Rattle.std.specs.List.{range_with_len}
use Rattle.distribution.specs.declared.CategoricalDistribution.{CategoricalDistribution}
use Rattle.distribution.specs.declared.IntDistribution.{IntDistribution}
use Rattle.distribution.specs.declared.Distribution.{Distribution}
use Rattle.distribution.specs.declared.Distribution.TheVariants.{Float as FloatD, Int as IntD, Categorical}
use Rattle.sweep.specs.Sweep.{step_of, int_count, is_unsweepable}
use Rattle.sweep.specs.declared.SweepRefusal.{SweepRefusal}
use Rattle.sweep.specs.declared.SweepRefusal.TheVariants.{Unsweepable, TooMany}
use Rattle.sweep.specs.declared.axis.Axis.{Axis}

-- "Int values from low by the step, or by 1 without one, and never pass high"
abbrev pub int_axis : IntDistribution → Axis
int_axis d = record { first = d.low; step = nat_abs (step_of d.step); size = int_count d }

-- "Choices rise from 0"
abbrev pub choice_axis : CategoricalDistribution → Axis
choice_axis d = record { first = pos 0; step = 1; size = d.n_choices }

-- a Float or ladder dimension has none
unfoldable pub axis_of : Distribution → Option Axis
axis_of (FloatD d) = None
axis_of (IntD d) = cond d.log_scale None (Some (int_axis d))
axis_of (Categorical d) = Some (choice_axis d)

abbrev pub axis_value : Axis → ℕ → ℤ
axis_value a k = a.first +ℤ pos (k * a.step)

abbrev pub axis_values : Axis → List ℤ
axis_values a = map (axis_value a) (range_with_len 0 a.size)

-- an axis of a dimension that 4 to 7 pass: it has a value, and the first and even the one after the last are small
pub record Fine (a : Axis) : Type 0 where
  pub some : 0 < a.size
  pub first : nat_abs a.first ≤ 2 ^ 53
  pub end : axis_value a a.size ≤ℤ pos (2 ^ 54)

-- "16, no dimension, more than 16, or a Float or ladder dimension": else an axis for each
unfoldable pub axes_of : List Distribution → Result (List Axis) SweepRefusal
axes_of ds = cond (is_unsweepable ds) (Err Unsweepable) (Ok (filter_map axis_of ds))

-- how many combinations there are
unfoldable pub product : List Axis → ℕ
product [] = 1
product (a ∷ axes) = a.size * product axes

-- "17, more combinations than 65,536 or than the lent memory holds": else how many there are
abbrev pub count_within : ℕ → ℕ → ℕ → Result ℕ SweepRefusal
count_within count n places = cond (ltb 65536 count || ltb places (count * n)) (Err TooMany) (Ok count)

-- combination i: its value of an axis is the digit of i in that place, the last axis's digit being the lowest
unfoldable pub combination : List Axis → ℕ → List ℤ
combination [] i = []
combination (a ∷ axes) i = axis_value a (i / product axes % a.size) ∷ combination axes i
