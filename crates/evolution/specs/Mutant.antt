-- Step 3: mutation. `x r j` is entry j of the vector of slot r, the paper's x_r; every operation is one of doubles, rounded once.
use Rattle.std.specs.Prelude.{ℕ, List, [], Float, get_or}
use Rattle.std.specs.Float.{nan, binary64}
use Rattle.std.specs.Float.Ieee.{add, sub, mul}
use Rattle.rng_util.specs.Gen.{Made, made}
use Rattle.rng_util.specs.Many.{listed}
use Rattle.rng_util.specs.declared.Gen.{Gen}
use Rattle.evolution.specs.Select.{index_count, indices_of}
use Rattle.evolution.specs.declared.Indices.{Indices}
use Rattle.evolution.specs.declared.Member.{Member}
use Rattle.evolution.specs.declared.Setup.{Setup}
use Rattle.evolution.specs.declared.DEStrategy.{DEStrategy}
use Rattle.evolution.specs.declared.DEStrategy.TheVariants.{Rand1, Best1, CurrentToBest1}

-- what a read past the end of an array of members gives
abbrev pub no_member : Member
no_member = record { candidate = record { x = []; choices = [] }; value = nan }

-- entry j of a vector that is in an array
abbrev pub in_row : List Float → ℕ → Float
in_row row j = get_or row j nan

-- the parents' entries
abbrev pub entries : List Member → ℕ → ℕ → Float
entries ps r j = get_or (get_or ps r no_member).candidate.x j nan

-- "With F: Rand1 x1 + F(x2 - x3); Best1 b + F(x1 - x2); CurrentToBest1 (x + F(b - x)) + F(x1 - x2)." The paper's (2) is Rand1.
unfoldable pub mutant_entry : DEStrategy → Float → Float → Float → Float → Float → Float → Float
unfolding add sub mul
mutant_entry Rand1 F x b x1 x2 x3 = add binary64 x1 (mul binary64 F (sub binary64 x2 x3))
mutant_entry Best1 F x b x1 x2 x3 = add binary64 b (mul binary64 F (sub binary64 x1 x2))
mutant_entry CurrentToBest1 F x b x1 x2 x3 = add binary64 (add binary64 x (mul binary64 F (sub binary64 b x))) (mul binary64 F (sub binary64 x1 x2))

-- entry j of the mutant of slot i, with the indices t
abbrev pub mutant_at : Setup → (ℕ → ℕ → Float) → ℕ → ℕ → Indices → ℕ → Float
mutant_at S x best i t j = mutant_entry S.strategy S.mutation_factor (x i j) (x best j) (x t.r1 j) (x t.r2 j) (x t.r3 j)

-- the indices of slot i, of N slots: as many as the strategy asks for
abbrev pub indices_for : Setup → ℕ → ℕ → Gen → Made Indices
indices_for S N i g = indices_of (index_count S.strategy) N i g

-- the n entries of the mutant
unfoldable pub mutant_of : Setup → (ℕ → ℕ → Float) → ℕ → ℕ → ℕ → Indices → List Float
mutant_of S x best i n t = listed (mutant_at S x best i t) n 0

-- "Mutation per slot i": the indices are drawn, and the mutant is made of the vectors that they name
unfoldable pub mutated : Setup → (ℕ → ℕ → Float) → ℕ → ℕ → ℕ → ℕ → Gen → Made (List Float)
mutated S x N best i n g = made (mutant_of S x best i n (indices_for S N i g).out) (indices_for S N i g).after
