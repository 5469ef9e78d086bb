-- A candidate: a vector with an entry for each continuous dimension, and a choice for each of the others (document 01, "Records").
use Rattle.std.specs.Prelude.{ℕ, List, Float, get_or, take, replicate}
use Rattle.rng_util.specs.Many.{pad_to}
use Rattle.distribution.specs.declared.DimensionInfo.{DimensionInfo}
use Rattle.distribution.specs.declared.DimIdx.{DimIdx}
use Rattle.distribution.specs.declared.Ci.{Ci}
use Rattle.common.specs.Bounds.{zero_f}
use Rattle.candidates.specs.Space.{continuous_count}
use Rattle.candidates.specs.declared.Candidate.{Candidate}

-- "unused places are as in a fresh state": zeros
abbrev pub packed : List Float → List ℕ → Candidate
packed xs cs = record { x = pad_to 16 zero_f xs; choices = pad_to 16 0 cs }

-- a candidate of which every place is unused
abbrev pub blank_candidate : Candidate
blank_candidate = record { x = replicate 16 zero_f; choices = replicate 16 0 }

-- "a vector has entries for the second only": the entry at a place among the continuous dimensions, 0 past the last
abbrev pub entry_of : Candidate → Ci → Float
entry_of c at = get_or c.x at.0 zero_f

-- the choice at a place among all dimensions, 0 past the last
abbrev pub choice_of : Candidate → DimIdx → ℕ
choice_of c at = get_or c.choices at.0 0

-- "The place among all dimensions and the place among the continuous ones are separate counters": as many continuous ones stand before the dimension
abbrev pub continuous_place : List DimensionInfo → DimIdx → Ci
continuous_place ds at = record { 0 = continuous_count (take at.0 ds) }
