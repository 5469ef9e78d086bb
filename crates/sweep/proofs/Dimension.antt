-- One dimension that 4 to 7 pass: it has an axis exactly where it is swept, and the axis's values are its own and within the machine's numbers.
use Rattle.std.proofs.Common.{◌≡◌, ◌+◌, true, false, Bool, Some, None, Ok, map, cond, pos, subst, refl, ap, ◌∙◌, arith, ◌*◌, not, ℤ, ◌+ℤ◌, ◌*ℤ◌}
use Rattle.std.specs.List.{range_with_len}
use Rattle.distribution.specs.declared.Distribution.{Distribution}
use Rattle.distribution.specs.declared.Distribution.TheVariants as D
use Rattle.distribution.specs.Validate.{verdict_of}
use Rattle.sweep.specs.Sweep.{is_sweepable, int_count, int_value, values_of}
use Rattle.sweep.specs.Axes.{int_axis, choice_axis, axis_of, Fine, axis_value, axis_values}
use Rattle.sweep.specs.declared.axis.Axis.{Axis}
use Rattle.distribution.proofs.Meaning.{valid-good}
use Rattle.sweep.proofs.Axes.{fine-int, fine-choices}
use Rattle.sweep.proofs.Listing.{map-same}
use Rattle.sweep.proofs.Values.{step-is}

pub some-sweepable : (d : Distribution) (a : Axis) → axis_of d ≡ Some a → is_sweepable d ≡ true
unfolding axis_of
some-sweepable (D.Float d) a e = cc
some-sweepable (D.Int d) a e = grind arith
some-sweepable (D.Categorical d) a e = refl

pub none-unsweepable : (d : Distribution) → axis_of d ≡ None → is_sweepable d ≡ false
unfolding axis_of
none-unsweepable (D.Float d) e = refl
none-unsweepable (D.Int d) e = grind arith
none-unsweepable (D.Categorical d) e = cc

pub axis-fine : (d : Distribution) (a : Axis) → verdict_of d ≡ Ok tt → axis_of d ≡ Some a → Fine a
unfolding axis_of
axis-fine (D.Float d) a v e = cc
axis-fine (D.Int d) a v e = go d.log_scale e
  where
    go : (b : Bool) → cond b None (Some (int_axis d)) ≡ Some a → Fine a
    go true h = cc
    go false h = let is : int_axis d ≡ a = cc in subst Fine is (fine-int d v)
axis-fine (D.Categorical d) a v e = let is : choice_axis d ≡ a = cc in subst Fine is (fine-choices d v)

pub sweepable-some : (d : Distribution) → is_sweepable d ≡ true → (a : Axis) × (axis_of d ≡ Some a)
unfolding axis_of
sweepable-some (D.Float d) s = cc
sweepable-some (D.Int d) s = go d.log_scale s
  where
    go : (b : Bool) → not b ≡ true → (a : Axis) × (cond b None (Some (int_axis d)) ≡ Some a)
    go true h = cc
    go false h = (_, refl)
sweepable-some (D.Categorical d) s = (_, refl)

pub axis-is : (d : Distribution) (a : Axis) → verdict_of d ≡ Ok tt → axis_of d ≡ Some a → values_of d ≡ axis_values a
unfolding axis_of values_of
axis-is (D.Float d) a v e = cc
axis-is (D.Int d) a v e = go d.log_scale e
  where
    whole : map (int_value d) (range_with_len 0 (int_count d)) ≡ axis_values (int_axis d)
    whole = ap (λ (s : ℤ). map (λ k. d.low +ℤ pos k *ℤ s) (range_with_len 0 (int_count d))) (step-is d (valid-good (D.Int d) v))

    go : (b : Bool) → cond b None (Some (int_axis d)) ≡ Some a → map (int_value d) (range_with_len 0 (int_count d)) ≡ axis_values a
    go true h = cc
    go false h = let is : int_axis d ≡ a = cc in whole ∙ ap axis_values is
axis-is (D.Categorical d) a v e =
    let is : choice_axis d ≡ a = cc in
    map-same pos (axis_value (choice_axis d)) d.n_choices 0 0 (λ r l. let z : 0 + r ≡ 0 + (0 + r) * 1 = omega arith in ap pos z) ∙ ap axis_values is
