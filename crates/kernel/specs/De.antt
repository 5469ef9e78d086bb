-- The kernel of document 01: what the ledger does not look into, made of the leaves' definitions. Demand 2's definition is the ledger's `sample` over it.
use Rattle.std.specs.Prelude.{ℕ, cond, List, map, T, get_or, is_ok}
use Rattle.rng_util.specs.Gen.{Made}
use Rattle.rng_util.specs.declared.Gen.{Gen}
use Rattle.distribution.specs.Dims.{is_continuous, no_dim}
use Rattle.distribution.specs.Validate.{judged}
use Rattle.distribution.specs.declared.DimensionInfo.{DimensionInfo}
use Rattle.distribution.specs.declared.DimIdx.{DimIdx}
use Rattle.distribution.specs.declared.ParamValue.{ParamValue}
use Rattle.distribution.specs.declared.ParamValue.TheVariants.{Categorical}
use Rattle.common.specs.FromInternal.{from_internal}
use Rattle.common.specs.Random.{random_setting}
use Rattle.history.specs.Entry.{is_bad, counted_value}
use Rattle.history.specs.declared.CompletedTrial.{CompletedTrial}
use Rattle.candidates.specs.Space.{continuous_count, space_of}
use Rattle.candidates.specs.Candidate.{entry_of, choice_of, continuous_place}
use Rattle.candidates.specs.Random.{random_candidate, random_candidates}
use Rattle.candidates.specs.declared.Candidate.{Candidate}
use Rattle.evolution.specs.Trial.{next_candidates}
use Rattle.evolution.specs.declared.Member.{Member}
use Rattle.evolution.specs.declared.Setup.{Setup}
use Rattle.selection.specs.Size.{size_of}
use Rattle.ledger.specs.Kernel as L
use Rattle.kernel.specs.Setup.{setup_verdict}
use Rattle.kernel.specs.Fits.{fits}

-- ---- the ledger's records and the code's, which hold the same

abbrev pub code_gen : L.Gen ℕ → Gen
code_gen g = record { word = g.word; draws = g.draws }

abbrev pub made : {A : Type 0} → Made A → L.Made ℕ A
made m = record { out = m.out; gen = record { word = m.after.word; draws = m.after.draws } }

abbrev pub member_of : L.Parent Candidate → Member
member_of p = record { candidate = p.candidate; value = p.value }

abbrev pub dim_idx : ℕ → DimIdx
dim_idx k = record { 0 = k }

-- ---- sizes and settings

-- "n counting continuous dimensions"
abbrev pub population_size_of : Setup → List DimensionInfo → ℕ
population_size_of S ds = size_of S.population_size (continuous_count ds)

abbrev pub random_of : DimensionInfo → L.Gen ℕ → L.Made ℕ ParamValue
random_of d g = made (random_setting d.distribution (code_gen g))

-- "Each call of a trial .. gives its next dimension, decoded by the stored distribution": an entry of a continuous dimension by `from_internal`, a choice as it is
unfoldable pub decode_of : List DimensionInfo → ℕ → Candidate → ParamValue
decode_of ds k y =
    let d = get_or ds k no_dim in
    cond (is_continuous d)
    (from_internal (entry_of y (continuous_place ds (dim_idx k))) d.distribution)
    (Categorical (choice_of y (dim_idx k)))

-- ---- candidates

-- "fills N random candidates"
unfoldable pub firsts_of : List DimensionInfo → ℕ → L.Gen ℕ → L.Made ℕ (List Candidate)
firsts_of ds N g = made (random_candidates (space_of ds) N (code_gen g))

-- "each extra gets a random candidate"
unfoldable pub extra_of : List DimensionInfo → L.Gen ℕ → L.Made ℕ Candidate
extra_of ds g = made (random_candidate (space_of ds) (code_gen g))

-- "New candidates: steps 3 and 4 if n > 0, else step 2"
unfoldable pub nexts_of : Setup → List DimensionInfo → List (L.Parent Candidate) → ℕ → L.Gen ℕ → L.Made ℕ (List Candidate)
nexts_of S ds ps best g = made (next_candidates S (map member_of ps) best (space_of ds) (code_gen g))

-- ---- the kernel

abbrev pub de : L.Kernel
de =
    record {
      Setup = Setup;
      Distribution = DimensionInfo;
      Setting = ParamValue;
      Candidate = Candidate;
      Word = ℕ;
      Entry = CompletedTrial;
      accepts = λ S. is_ok (setup_verdict S);
      seed = λ S. S.seed;
      judged = λ d. judged d.distribution;
      size_of = population_size_of;
      random = random_of;
      firsts = λ S. firsts_of;
      extra = λ S. extra_of;
      nexts = nexts_of;
      decode = decode_of;
      number_of = λ e. e.number;
      -- "The result counted for a slot is the value after this rule" (02, W6)
      value_of = counted_value;
      is_bad = is_bad;
      fits = fits;
      Fits = λ ds y. T (fits ds y);
    }
