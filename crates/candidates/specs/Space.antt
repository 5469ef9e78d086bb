-- The search space: what the draws read of the dimensions.
use Rattle.std.specs.Prelude.{ℕ, ◌<◌, ◌≤◌, List, map, filter, length, get_or}
use Rattle.rng_util.specs.Many.{pad_to}
use Rattle.distribution.specs.Dims.{is_continuous, choices_of, no_dim}
use Rattle.distribution.specs.declared.DimensionInfo.{DimensionInfo}
use Rattle.common.specs.Bounds.{no_bounds, bounds_of}
use Rattle.common.specs.declared.Bounds.{Bounds}
use Rattle.candidates.specs.declared.Space.{Space}

-- "Float and Int are continuous": those dimensions, in order
unfoldable pub continuous_dims : List DimensionInfo → List DimensionInfo
continuous_dims = filter is_continuous

-- "n counting continuous dimensions"
abbrev pub continuous_count : List DimensionInfo → ℕ
continuous_count ds = length (continuous_dims ds)

-- the bounds of each entry of a vector
abbrev pub continuous_bounds : List DimensionInfo → List Bounds
continuous_bounds ds = map bounds_of (continuous_dims ds)

-- the number of choices of each dimension: 0 for a continuous one, which has none
abbrev pub choice_counts : List DimensionInfo → List ℕ
choice_counts = map choices_of

-- the search space of the discovered dimensions: both in arrays, with n and D
unfoldable pub space_of : List DimensionInfo → Space
space_of ds =
    record { bounds = pad_to 16 no_bounds (continuous_bounds ds); n = continuous_count ds; counts = pad_to 16 0 (choice_counts ds); n_dims = length ds }

-- "1 to 65,535 choices": no dimension has more
unfoldable pub FewChoices : List DimensionInfo → Type 0
FewChoices ds = (i : ℕ) → i < length ds → choices_of (get_or ds i no_dim) ≤ 65535
