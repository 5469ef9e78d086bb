-- Unused places: "unused places are as in a fresh state".
use Rattle.std.specs.Prelude.{Bool, false, ◌&&◌, [], eqb}
pub use Rattle.distribution.specs.Dims.{blank_dim}
use Rattle.distribution.specs.declared.DimensionInfo.{DimensionInfo}
use Rattle.distribution.specs.declared.Distribution.{Distribution}
use Rattle.distribution.specs.declared.Distribution.TheVariants.{Float as FloatD, Int as IntD, Categorical}
use Rattle.candidates.specs.declared.Candidate.{Candidate}
use Rattle.evolution.specs.declared.Member.{Member}
use Rattle.kernel.specs.Fits.{is_zero, fits}
use Rattle.state.specs.declared.TrialProgress.{TrialProgress}

-- an unused dimension has no choices (`blank_dim`); an unused trial has number 0 and next place 0
abbrev pub blank_trial : TrialProgress
blank_trial = record { number = 0; next_dim = 0 }

-- the same as tests
abbrev pub is_blank_distribution : Distribution → Bool
is_blank_distribution (FloatD d) = false
is_blank_distribution (IntD d) = false
is_blank_distribution (Categorical d) = eqb d.n_choices 0

abbrev pub is_blank_dim : DimensionInfo → Bool
is_blank_dim d = is_blank_distribution d.distribution

abbrev pub is_blank_trial : TrialProgress → Bool
is_blank_trial t = eqb t.number 0 && eqb t.next_dim 0

-- a candidate of no dimension: every entry and every choice is unused
abbrev pub is_blank_candidate : Candidate → Bool
is_blank_candidate c = fits [] c

abbrev pub is_blank_member : Member → Bool
is_blank_member m = is_blank_candidate m.candidate && is_zero m.value
