-- The dimensions so far have an axis each; what is left of them says what becomes of all.
use Rattle.std.proofs.Common.{◌≡◌, ◌≢◌, ℕ, ◌+◌, ◌≤◌, ◌<◌, List, [], ◌∷◌, ◌++◌, length, drop, true, false, Some, None, Ok, Err, slice_index_or, sym, refl, ap, ◌∙◌, arith, filter_map, All}
use Rattle.std.specs.List.{list_all}
use Rattle.std.proofs.lemmas.List.Elements.{All-push}
use Rattle.std.proofs.lemmas.List.{append_assoc, append-nil, drop_all, drop_more, length_push}
use Rattle.distribution.specs.declared.Distribution.{Distribution}
use Rattle.distribution.specs.Validate.{verdict_of}
use Rattle.sweep.specs.Sweep.{is_sweepable, is_unsweepable}
use Rattle.sweep.specs.Axes.{axis_of, axes_of, Fine}
use Rattle.sweep.specs.declared.SweepRefusal.TheVariants.{Unsweepable}
use Rattle.sweep.specs.declared.axis.Axis.{Axis}
use Rattle.sweep.proofs.Dimension.{some-sweepable, none-unsweepable, axis-fine}

-- the first k dimensions have an axis each
pub record AxesSoFar (dims : List Distribution) (axes : List Axis) (k : ℕ) : Type 0 where
  pub each : filter_map axis_of dims ≡ axes ++ filter_map axis_of (drop k dims)
  pub sweepable : list_all is_sweepable dims ≡ list_all is_sweepable (drop k dims)
  pub fine : All Fine axes
  pub long : length axes ≡ k

pub none-yet : (dims : List Distribution) → AxesSoFar dims [] 0
none-yet dims = record { each = refl; sweepable = refl; fine = λ k d l. absurd (omega arith); long = refl }

module _ (dims : List Distribution) (axes : List Axis) (k : ℕ) (s : AxesSoFar dims axes k) where
  pub one-more : (d : Distribution) (a : Axis) → k < length dims → axis_of (slice_index_or dims k d) ≡ Some a
      → verdict_of (slice_index_or dims k d) ≡ Ok tt → AxesSoFar dims (axes ++ a ∷ []) (k + 1)
  one-more d a l e v = record {
    each =
        s.each ∙ ap (λ ds. axes ++ filter_map axis_of ds) (drop_more dims k d l)
        ∙ rw e (sym (append_assoc axes (a ∷ []) (filter_map axis_of (drop (k + 1) dims))));
    sweepable = s.sweepable ∙ ap (list_all is_sweepable) (drop_more dims k d l) ∙ rw (some-sweepable (slice_index_or dims k d) a e) refl;
    fine = All-push Fine axes a s.fine (axis-fine (slice_index_or dims k d) a v e);
    long = length_push axes a ∙ ap (λ (n : ℕ). n + 1) s.long;
  }

  pub unsweepable-at : (d : Distribution) → k < length dims → axis_of (slice_index_or dims k d) ≡ None → Err Unsweepable ≡ axes_of dims
  unfolding axes_of is_unsweepable
  unsweepable-at d l e =
      let none = none-unsweepable (slice_index_or dims k d) e in
      let all : list_all is_sweepable dims ≡ false = s.sweepable ∙ ap (list_all is_sweepable) (drop_more dims k d l) ∙ rw none refl in
      rw all (grind arith)

  pub axes-all : length dims ≤ k → length dims ≢ 0 → length dims ≤ 16 → Ok axes ≡ axes_of dims
  unfolding axes_of is_unsweepable
  axes-all l some few =
      let none = drop_all k dims l in
      let all : list_all is_sweepable dims ≡ true = s.sweepable ∙ rw none refl in
      let are : filter_map axis_of dims ≡ axes = s.each ∙ rw (none, append-nil axes) refl in
      rw (all, are) (grind arith)

pub ruleset axial = (none-yet, one-more, unsweepable-at, axes-all)
