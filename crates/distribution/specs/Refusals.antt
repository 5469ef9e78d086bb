-- The number of each refusal in document 01's table. Its 11 is taken out (02, W8): "leave its number unused".
use Rattle.std.specs.Prelude.{ℕ}
use Rattle.distribution.specs.declared.Refusal.{Refusal}
use Rattle.distribution.specs.declared.Refusal.TheVariants.{StateNotSound, MutationFactor, CrossoverRate, PopulationSize, Bounds, LogScale, Step, Choices, HistoryNan, Dimensions, ExtraTrials}

abbrev pub refusal_number : Refusal → ℕ
refusal_number StateNotSound = 0
refusal_number MutationFactor = 1
refusal_number CrossoverRate = 2
refusal_number PopulationSize = 3
refusal_number Bounds = 4
refusal_number LogScale = 5
refusal_number Step = 6
refusal_number Choices = 7
refusal_number HistoryNan = 8
refusal_number Dimensions = 9
refusal_number ExtraTrials = 10
