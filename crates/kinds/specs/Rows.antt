-- The words of each part of a state, and each part from its words. A double is its bit pattern; a whole number has 2^63 added to it.
use Rattle.std.specs.Prelude.{ℕ, ◌^◌, ◌%◌, Bool, true, false, not, cond, List, [], ◌∷◌, ◌++◌, eqb, Float, ℤ, length, drop, get_or, Option, Some, None, is_some, unwrap_or, option_map}
use Rattle.std.specs.Option.{option_map_or}
use Rattle.std.specs.Float.{nan, binary64}
use Rattle.std.specs.Float.Ieee.{to_bits, of_bits}
use Rattle.distribution.specs.Dims.{is_continuous}
use Rattle.distribution.specs.declared.DimensionInfo.{DimensionInfo}
use Rattle.distribution.specs.declared.Distribution.{Distribution}
use Rattle.distribution.specs.declared.FloatDistribution.{FloatDistribution}
use Rattle.distribution.specs.declared.IntDistribution.{IntDistribution}
use Rattle.distribution.specs.declared.Distribution.TheVariants as D
use Rattle.common.specs.Places.{place_of, at_place}
use Rattle.distribution.specs.Dims.{is_ladder}
use Rattle.candidates.specs.Candidate.{packed}
use Rattle.candidates.specs.declared.Candidate.{Candidate}
use Rattle.evolution.specs.Strategy.{strategy_number, strategy_from}
use Rattle.evolution.specs.declared.BoundsRule.{BoundsRule}
use Rattle.evolution.specs.declared.BoundsRule.TheVariants.{Clamp, Midpoint}
use Rattle.evolution.specs.declared.DEStrategy.{DEStrategy}
use Rattle.evolution.specs.declared.DEStrategy.TheVariants.{CurrentToBest1}
use Rattle.evolution.specs.declared.Member.{Member}
use Rattle.evolution.specs.declared.Setup.{Setup}
use Rattle.state.specs.declared.TrialProgress.{TrialProgress}

abbrev pub double_word : Float → ℕ
double_word x = to_bits binary64 x

abbrev pub word_double : ℕ → Float
word_double w = of_bits binary64 w

abbrev pub whole_word : ℤ → ℕ
whole_word z = place_of z

abbrev pub word_whole : ℕ → ℤ
word_whole w = at_place w

abbrev pub flag : Bool → ℕ
flag true = 1
flag false = 0

-- a value that there may be, as a flag and a word: `flag (is_some o)`, and its own word, 0 where there is none
abbrev pub word_option : ℕ → ℕ → Option ℕ
word_option set w = cond (eqb set 0) None (Some w)

-- ---- the set-up: F, CR, strategy (0 rand1, 1 best1, 2 current-to-best1), whether a size is set, the size, the seed

abbrev pub word_strategy : ℕ → DEStrategy
word_strategy w = unwrap_or (strategy_from w) CurrentToBest1

unfoldable pub setup_words : Setup → List ℕ
setup_words S =
    double_word S.mutation_factor
    ∷ double_word S.crossover_rate
    ∷ strategy_number S.strategy
    ∷ flag (is_some S.population_size)
    ∷ unwrap_or S.population_size 0
    ∷ S.seed
    ∷ []

-- "The saved file has no place for midpoint yet" (document 02, W7): no word holds the bounds rule, and what is read has clamp
abbrev pub rule_has_place : BoundsRule → Bool
rule_has_place Clamp = true
rule_has_place Midpoint = false

abbrev pub setup_has_place : Setup → Bool
setup_has_place S = rule_has_place S.bounds_rule

unfoldable pub setup_in : List ℕ → Setup
setup_in ws =
    record {
      mutation_factor = word_double (get_or ws 0 0);
      crossover_rate = word_double (get_or ws 1 0);
      strategy = word_strategy (get_or ws 2 0);
      population_size = word_option (get_or ws 3 0) (get_or ws 4 0);
      seed = get_or ws 5 0;
      bounds_rule = Clamp;
    }

-- ---- a dimension: 1 float, low, high, whether it has a step, the step; 2 int, likewise; 3 categorical, its number of choices. Unused words are 0.

-- "The saved file's writer and reader give 13 for a ladder" (document 02, W9): no word holds the log flag, and what is read has none
abbrev pub dim_has_place : DimensionInfo → Bool
dim_has_place d = not (is_ladder d.distribution)

abbrev pub float_words : Float → Float → Option Float → List ℕ
float_words low high step = 1 ∷ double_word low ∷ double_word high ∷ flag (is_some step) ∷ option_map_or double_word step 0 ∷ []

abbrev pub int_words : ℤ → ℤ → Option ℤ → List ℕ
int_words low high step = 2 ∷ whole_word low ∷ whole_word high ∷ flag (is_some step) ∷ option_map_or whole_word step 0 ∷ []

abbrev pub distribution_words : Distribution → List ℕ
distribution_words (D.Float d) = float_words d.low d.high d.step
distribution_words (D.Int d) = int_words d.low d.high d.step
distribution_words (D.Categorical d) = 3 ∷ d.n_choices ∷ 0 ∷ 0 ∷ 0 ∷ []

unfoldable pub dim_words : DimensionInfo → List ℕ
dim_words d = distribution_words d.distribution

abbrev pub float_in : ℕ → ℕ → ℕ → ℕ → FloatDistribution
float_in low high stepped by =
    record {
      low = word_double low;
      high = word_double high;
      log_scale = false;
      step = option_map word_double (word_option stepped by);
    }

abbrev pub int_in : ℕ → ℕ → ℕ → ℕ → IntDistribution
int_in low high stepped by =
    record {
      low = word_whole low;
      high = word_whole high;
      log_scale = false;
      step = option_map word_whole (word_option stepped by);
    }

abbrev pub distribution_in : ℕ → ℕ → ℕ → ℕ → ℕ → Distribution
distribution_in case low high stepped by =
    cond (eqb case 1) (D.Float (float_in low high stepped by))
    (cond (eqb case 2) (D.Int (int_in low high stepped by)) (D.Categorical (record { n_choices = low })))

unfoldable pub dim_in : List ℕ → DimensionInfo
dim_in ws = record { distribution = distribution_in (get_or ws 0 0) (get_or ws 1 0) (get_or ws 2 0) (get_or ws 3 0) (get_or ws 4 0) }

-- ---- an open trial: its number and its next place

unfoldable pub trial_words : TrialProgress → List ℕ
trial_words t = t.number ∷ t.next_dim ∷ []

unfoldable pub trial_in : List ℕ → TrialProgress
trial_in ws = record { number = get_or ws 0 0; next_dim = get_or ws 1 0 }

-- ---- a candidate: a word for each dimension in order, its entry where it is continuous, its choice where it is not

unfoldable pub vector_words : List DimensionInfo → List Float → List ℕ → List ℕ
vector_words [] xs cs = []
vector_words (d ∷ ds) xs cs =
    cond (is_continuous d) (double_word (get_or xs 0 nan) ∷ vector_words ds (drop 1 xs) (drop 1 cs)) (get_or cs 0 0 ∷ vector_words ds xs (drop 1 cs))

abbrev pub candidate_words : List DimensionInfo → Candidate → List ℕ
candidate_words ds c = vector_words ds c.x c.choices

-- the entries, and the choices with 0 where a dimension is continuous; a choice that is cut to its type here is found when the words are compared
unfoldable pub entries_in : List DimensionInfo → List ℕ → List Float
entries_in [] ws = []
entries_in (d ∷ ds) [] = []
entries_in (d ∷ ds) (w ∷ ws) = cond (is_continuous d) (word_double w ∷ entries_in ds ws) (entries_in ds ws)

unfoldable pub choices_in : List DimensionInfo → List ℕ → List ℕ
choices_in [] ws = []
choices_in (d ∷ ds) [] = []
choices_in (d ∷ ds) (w ∷ ws) = cond (is_continuous d) 0 (w % 2 ^ 16) ∷ choices_in ds ws

abbrev pub candidate_in : List DimensionInfo → List ℕ → Candidate
candidate_in ds ws = packed (entries_in ds ws) (choices_in ds ws)

-- ---- a parent: its candidate, then its value

abbrev pub member_words : List DimensionInfo → Member → List ℕ
member_words ds m = candidate_words ds m.candidate ++ (double_word m.value ∷ [])

abbrev pub member_in : List DimensionInfo → List ℕ → Member
member_in ds ws = record { candidate = candidate_in ds ws; value = word_double (get_or ws (length ds) 0) }
