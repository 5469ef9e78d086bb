-- What the types say: arrays of their length, doubles, numbers of so many bits. The mathematics' numbers have no bounds and its doubles more values; of each
-- state, set-up and call that the code is handed this holds.
use Rattle.std.specs.Prelude.{ℕ, ◌<◌, ◌^◌, ◌≡◌, length, Float, ℤ, T, unwrap_or, IfSome}
use Rattle.std.specs.Float.{binary64}
use Rattle.std.specs.Float.Ieee.{fits as fits_f}
use Rattle.std.specs.Int.Signed.{mag}
use Rattle.distribution.specs.declared.DimensionInfo.{DimensionInfo}
use Rattle.distribution.specs.declared.Distribution.{Distribution}
use Rattle.distribution.specs.declared.Distribution.TheVariants as D
use Rattle.ledger.specs.Words.{All}
use Rattle.candidates.specs.declared.Candidate.{Candidate}
use Rattle.evolution.specs.declared.Member.{Member}
use Rattle.evolution.specs.declared.Setup.{Setup}
use Rattle.state.specs.declared.TrialProgress.{TrialProgress}
use Rattle.state.specs.declared.State.{State}

-- a double, not only a value of the mathematics
abbrev pub Double : Float → Type 0
Double x = T (fits_f binary64 x)

-- a whole number of 64 bits
abbrev pub Whole : ℤ → Type 0
Whole z = mag z < 2 ^ 63

abbrev pub Word : ℕ → Type 0
Word w = w < 2 ^ 64

-- ---- a distribution

abbrev pub TypedDistribution : Distribution → Type 0
TypedDistribution (D.Float d) = Double d.low × Double d.high × IfSome d.step Double
TypedDistribution (D.Int d) = Whole d.low × Whole d.high × IfSome d.step Whole
TypedDistribution (D.Categorical d) = Unit {0}

-- and its number of choices
abbrev pub Choices : Distribution → Type 0
Choices (D.Float d) = Unit {0}
Choices (D.Int d) = Unit {0}
Choices (D.Categorical d) = d.n_choices < 2 ^ 64

-- ---- a set-up

pub record TypedSetup (S : Setup) : Type 0 where
  pub factor : Double S.mutation_factor
  pub rate : Double S.crossover_rate
  pub size : Word (unwrap_or S.population_size 0)
  pub seed : Word S.seed

-- ---- a state

pub record TypedCandidate (c : Candidate) : Type 0 where
  pub x : length c.x ≡ 16
  pub choices : length c.choices ≡ 16
  pub doubles : All Double c.x
  pub small : All (λ (n : ℕ). n < 2 ^ 16) c.choices

abbrev pub TypedMember : Member → Type 0
TypedMember m = TypedCandidate m.candidate × Double m.value

-- its arrays, its doubles and its signed numbers; its two counters
pub record TypedState (s : State) : Type 0 where
  pub dims_length : length s.dims ≡ 16
  pub candidates_length : length s.candidates ≡ 224
  pub parents_length : length s.parents ≡ 160
  pub trials_length : length s.trials ≡ 224
  pub closed : s.closed < 2 ^ 32
  pub idle : s.idle < 2 ^ 32
  pub factor : Double s.setup.mutation_factor
  pub rate : Double s.setup.crossover_rate
  pub dims : All (λ (d : DimensionInfo). TypedDistribution d.distribution) s.dims
  pub candidates : All TypedCandidate s.candidates
  pub parents : All TypedMember s.parents

-- its other numbers
pub record TypedNumbers (s : State) : Type 0 where
  pub size : Word (unwrap_or s.setup.population_size 0)
  pub seed : Word s.setup.seed
  pub first : Word (unwrap_or s.first 0)
  pub n : Word s.n
  pub dims : Word s.n_dims
  pub trials : Word s.n_trials
  pub best : Word s.best
  pub word : Word s.word
  pub choices : All (λ (d : DimensionInfo). Choices d.distribution) s.dims
  pub numbers : All (λ (t : TrialProgress). Word t.number × Word t.next_dim) s.trials
