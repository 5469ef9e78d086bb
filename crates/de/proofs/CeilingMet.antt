-- THE CEILING IS MET where a small state can show it, by computation: 4 slots under Rand1, a double and a choice. The first call of all draws 1 and its ceiling is 1; a call past the last dimension the
-- same; an extra draws 2, its ceiling. The call that ends discovery draws N × D, 8. Each is a call of the code, on the small state laid out in its arrays.
use Rattle.std.specs.Prelude.{Some, None, is_ok}
use Prim.Native.Nat.{ℕ}
use mathlib.Core.Path.{◌≡◌, refl, sym, ap, subst, ◌∙◌}
use mathlib.Core.Bool.{true, false}
use mathlib.Core.List.{List, [], ◌∷◌, map}
use lib.Dec.{T}
use lib.ListN.{replicate}
use lib.Ieee.{is_nan, lt, add, mul, of_int}
use Rattle.rng_util.specs.SplitMix.{drawn}
use Rattle.rng_util.specs.Draws.{unit_of}
use Rattle.rng_util.specs.Gen.{draw_of}
use Rattle.rng_util.specs.Many.{many}
use Rattle.distribution.specs.Validate.{verdict_of}
use Rattle.distribution.specs.declared.DimensionInfo.{DimensionInfo}
use Rattle.distribution.specs.declared.Distribution.{Distribution}
use Rattle.distribution.specs.declared.Distribution.TheVariants.{Float as FloatD, Categorical as CategoricalD}
use Rattle.distribution.proofs.Examples.{dec}
use Rattle.common.specs.Random.{random_setting}
use Rattle.candidates.specs.Candidate.{packed}
use Rattle.candidates.specs.Random.{random_entry, random_entries, random_choice, random_choices, random_candidate, random_candidates}
use Rattle.candidates.specs.Space.{continuous_dims, space_of}
use Rattle.history.specs.declared.CompletedTrial.{CompletedTrial}
use Rattle.evolution.specs.declared.BoundsRule.TheVariants.{Clamp}
use Rattle.evolution.specs.declared.DEStrategy.TheVariants.{Rand1}
use Rattle.evolution.specs.declared.Setup.{Setup}
use Rattle.ledger.specs.Words.{all, has, differing}
use Rattle.ledger.specs.Call as C
use Rattle.ledger.specs.State as Plain
use Rattle.ledger.specs.State.{Returned, fresh, no_slots}
use Rattle.ledger.specs.Soundness.{Sound, sound_test}
use Rattle.ledger.specs.Assignment.{place_in, next_in, move, assign}
use Rattle.ledger.specs.Closing.{best_of, scan, results_of, counted, close}
use Rattle.ledger.specs.Sample.{discovery, sampling, state_refusal, accept, step}
use Rattle.ledger.proofs.Sound.{step-sound}
use Rattle.ledger.proofs.SoundTest.{sound-test}
use Rattle.kernel.specs.Ceiling.{step_ceiling}
use Rattle.kernel.specs.De.{de, firsts_of, extra_of}
use Rattle.kernel.specs.Fits.{fits, entry_fits, entries_fit, choices_fit}
use Rattle.kernel.proofs.Kernel.{de-laws}
use Rattle.kernel.specs.Setup.{setup_verdict}
use Rattle.state.specs.View.{view, laid}
use Rattle.state.specs.declared.State.{State}
use Rattle.state.proofs.Laid.{view-laid, laid-sound}
use Rattle.de.specs.Ceiling.{draw_ceiling}
use Rattle.de.specs.Sample.{call_of, laid_result, sample_of}

-- a call's draws, and its ceiling
pub record Draws (s : State) (d : Distribution) (n : ℕ) (h : List CompletedTrial) (drawn most : ℕ) : Type 0 where
  pub draws : (sample_of s d n h).draws ≡ drawn
  pub ceiling : draw_ceiling s (sample_of s d n h).state n ≡ most

-- ---- the set-up, the dimensions and the states

abbrev pub setup : Setup
setup = record { mutation_factor = dec 5 1; crossover_rate = dec 5 1; strategy = Rand1; population_size = Some 4; seed = 0; bounds_rule = Clamp }

abbrev pub unit : Distribution
unit = FloatD (record { low = dec 0 0; high = dec 1 0; log_scale = false; step = None })

abbrev pub one_of_three : Distribution
one_of_three = CategoricalD (record { n_choices = 3 })

abbrev pub dims : List DimensionInfo
dims = record { distribution = unit } ∷ record { distribution = one_of_three } ∷ []

-- trial 1 has asked for both dimensions
abbrev pub found : Plain.State de
found = record { word = 0; first = Some 1; dims = dims; size = None; candidates = []; trials = []; slots = no_slots de }

-- each slot's trial has asked for both
abbrev pub all_open : Plain.State de
all_open =
    record {
      word = 0;
      first = Some 1;
      dims = dims;
      size = Some 4;
      candidates = replicate 4 (packed (dec 5 1 ∷ []) (0 ∷ 2 ∷ []));
      trials = map (λ (n : ℕ). record { number = n; next = 2 }) (2 ∷ 3 ∷ 4 ∷ 5 ∷ []);
      slots = no_slots de;
    }

-- ---- from the small state to the code's

small-valid : is_ok (setup_verdict setup) ≡ true
unfolding setup_verdict dec is_nan lt
small-valid = refl

module _ (m : Plain.State de) (test : sound_test de setup m ≡ true) (d : Distribution) (n : ℕ) (h : List CompletedTrial) where
  v : Sound de setup m
  v = (sound-test de de-laws setup m).0 (subst T (sym test) tt)

  result-is : sample_of (laid setup m) d n h ≡ laid_result setup (step de setup m (call_of n d h))
  unfolding sample_of laid
  result-is = rw (laid-sound setup m v small-valid de-laws, view-laid setup m v)

  shown : (drawn most : ℕ) → (step de setup m (call_of n d h)).draws ≡ drawn → step_ceiling Rand1 m (step de setup m (call_of n d h)).state n ≡ most → Draws (laid setup m) d n h drawn most
  unfolding laid
  shown drawn most x y =
      let after : view (sample_of (laid setup m) d n h).state ≡ (step de setup m (call_of n d h)).state = ap (λ (r : Returned de State). view r.state) result-is ∙ view-laid setup _ (step-sound de de-laws setup small-valid m (call_of n d h) v) in
      record { draws = ap (λ (r : Returned de State). r.draws) result-is ∙ x; ceiling = (λ i. step_ceiling Rand1 (view-laid setup m v i) (after i) n) ∙ y }

-- ---- THE CALLS

pub record CeilingMet : Type 0 where
  -- the first call of all: D, which is 1 after it
  pub first_dimension : Draws (laid setup (fresh de setup)) unit 1 [] 1 1
  -- not met, but counted: the call of another trial, which ends discovery, draws 4 × 2 of 4 × (3,072 + 2)
  pub end_of_discovery : Draws (laid setup found) unit 2 [] 8 12296
  -- a call of a trial that has a candidate, past the last dimension: one
  pub past_the_last : Draws (laid setup all_open) unit 2 [] 1 1
  -- a fifth trial, an extra: D
  pub an_extra : Draws (laid setup all_open) unit 6 [] 2 2

pub ceiling-met : CeilingMet
unfolding dec is_nan lt add mul of_int drawn unit_of draw_of many verdict_of random_setting random_entry random_entries random_choice random_choices random_candidate random_candidates continuous_dims space_of all has differing C.any_bad fresh best_of scan results_of counted close place_in next_in move assign sound_test discovery sampling state_refusal accept step firsts_of extra_of fits entry_fits entries_fit choices_fit step_ceiling
ceiling-met =
    record {
      first_dimension = shown (fresh de setup) refl unit 1 [] 1 1 refl refl;
      end_of_discovery = shown found refl unit 2 [] 8 12296 refl refl;
      past_the_last = shown all_open refl unit 2 [] 1 1 refl refl;
      an_extra = shown all_open refl unit 6 [] 2 2 refl refl;
    }
