-- An axis of a dimension that 4 to 7 pass: what low and high allow is what the code counts, and no value leaves the machine's numbers.
use Rattle.std.proofs.Common.{◌≡◌, ℕ, ◌+◌, ◌*◌, ◌/◌, ◌^◌, ◌<◌, ◌≤◌, ℤ, pos, ◌+ℤ◌, ◌-ℤ◌, unsigned_abs, ◌≤ℤ◌, Option, Some, None, Ok, div-le_self, div-add-mod', arith}
use Rattle.std.proofs.lemmas.Int.{ints, to_z-of_z}
use Rattle.distribution.specs.declared.CategoricalDistribution.{CategoricalDistribution}
use Rattle.distribution.specs.declared.IntDistribution.{IntDistribution}
use Rattle.distribution.specs.declared.Distribution.TheVariants as D
use Rattle.distribution.specs.Validate.{verdict_of}
use Rattle.distribution.specs.Good.{GoodInt, GoodIntStep}
use Rattle.distribution.proofs.Meaning.{valid-good}
use Rattle.sweep.specs.Sweep.{step_of, int_count}
use Rattle.sweep.specs.Axes.{int_axis, choice_axis, Fine}
use Rattle.sweep.proofs.Values.{gap, stride, some, step-is, gap-is, count-is}

step-small : (step : Option ℤ) → GoodIntStep step → step_of step ≤ℤ pos (2 ^ 53)
step-small None g = grind (arith, ints)
step-small (Some s) g = g.1

-- the value after the last is still a small number
after-last : (low high : ℤ) (gap step q : ℕ) → high -ℤ low ≡ pos gap → q * step ≤ gap → step ≤ 2 ^ 53 → unsigned_abs high ≤ 2 ^ 53
    → (low +ℤ pos ((q + 1) * step)) ≤ℤ pos (2 ^ 54)
after-last low high gap step q e l s h = grind (arith, ints)

module _ (d : IntDistribution) (v : verdict_of (D.Int d) ≡ Ok tt) where
  good : GoodInt d
  good = valid-good (D.Int d) v

  pub step-some : 0 < stride d
  step-some = some d good

  pub count-of : int_count d ≡ gap d / stride d + 1
  count-of = count-is d good

  gap-small : gap d ≤ 2 ^ 54
  gap-small = let l = good.small_low in let h = good.small_high in grind (arith, ints)

  pub count-fits : gap d / stride d ≤ 2 ^ 54
  count-fits = omega (arith, div-le_self (gap d) (stride d), gap-small)

  pub fine-int : Fine (int_axis d)
  fine-int =
      let s = step-small d.step good.good_step in
      let most : gap d / stride d * stride d ≤ gap d = omega (arith, div-add-mod' (gap d) (stride d)) in
      let small : stride d ≤ 2 ^ 53 = grind (arith, ints, step-is d good) in
      record {
        some = omega arith;
        first = good.small_low;
        end = rw count-of (after-last d.low d.high (gap d) (stride d) (gap d / stride d) (gap-is d good) most small good.small_high);
      }

pub fine-choices : (d : CategoricalDistribution) → verdict_of (D.Categorical d) ≡ Ok tt → Fine (choice_axis d)
fine-choices d v =
    let g = valid-good (D.Categorical d) v in
    let few = g.few in
    record { some = g.some_choice; first = omega arith; end = grind (arith, ints) }

pub ruleset int_axes = (to_z-of_z, step-some, count-of, count-fits)
