-- Which dimensions are continuous, and how many choices the others have (document 01, "Records").
use Rattle.std.specs.Prelude.{ℕ, Bool, true, false, None}
use Rattle.std.specs.Float.{nan}
use Rattle.distribution.specs.declared.DimensionInfo.{DimensionInfo}
use Rattle.distribution.specs.declared.Distribution.{Distribution}
use Rattle.distribution.specs.declared.Distribution.TheVariants.{Float as FloatD, Int as IntD, Categorical}

-- "Float and Int are continuous"
abbrev pub continuous : Distribution → Bool
continuous (FloatD f) = true
continuous (IntD k) = true
continuous (Categorical k) = false

-- "Categorical holds the number of choices"
abbrev pub choices : Distribution → ℕ
choices (FloatD f) = 0
choices (IntD k) = 0
choices (Categorical k) = k.n_choices

-- the log flag of an Int: where 4 to 7 pass it, a ladder (document 02, W9)
abbrev pub is_ladder : Distribution → Bool
is_ladder (FloatD f) = false
is_ladder (IntD k) = k.log_scale
is_ladder (Categorical k) = false

abbrev pub is_continuous : DimensionInfo → Bool
is_continuous d = continuous d.distribution

abbrev pub choices_of : DimensionInfo → ℕ
choices_of d = choices d.distribution

-- no dimension: it has no choices
abbrev pub blank_dim : DimensionInfo
blank_dim = record { distribution = Categorical (record { n_choices = 0 }) }

-- what a read past the end of an array of dimensions gives
abbrev pub no_dim : DimensionInfo
no_dim = record { distribution = FloatD (record { low = nan; high = nan; log_scale = false; step = None }) }
