-- Nothing is lost at the edge: a state that goes out as numbers is known and comes back as it was. So a call on a state that the library holds is the
-- sampler's own call, and what is proved of the sampler holds of the library.
use Rattle.std.specs.Prelude.{Option, Some, None, is_some, unwrap_or, Result, Err, is_ok}
use mathlib.Core.Path.{◌≡◌, refl, ap, ◌∙◌}
use mathlib.Core.Bool.{Bool, true, false, cond}
use mathlib.Core.List.{List, [], ◌∷◌, map}
use lib.Dec.{eqb, leb}
use lib.Ieee.{Float}
use lib.IntN.{ℤ}
use Rattle.ledger.specs.Words.{all}
use Rattle.ledger.specs.State as Plain
use Rattle.ledger.specs.State.{Returned}
use Rattle.kernel.specs.De.{de}
use Rattle.distribution.specs.declared.DimensionInfo.{DimensionInfo}
use Rattle.distribution.specs.declared.Distribution.{Distribution}
use Rattle.distribution.specs.declared.Distribution.TheVariants as D
use Rattle.evolution.specs.declared.DEStrategy.{DEStrategy}
use Rattle.evolution.specs.declared.DEStrategy.TheVariants.{Rand1, Best1, CurrentToBest1}
use Rattle.evolution.specs.declared.Setup.{Setup}
use Rattle.history.specs.declared.CompletedTrial.{CompletedTrial}
use Rattle.history.specs.declared.TrialState.{TrialState}
use Rattle.history.specs.declared.TrialState.TheVariants.{Complete, Pruned, Failed}
use Rattle.history.specs.Entry.{state_number, state_from}
use Rattle.state.specs.declared.State.{State}
use Rattle.state.proofs.Flags.{and-true}
use Rattle.state.proofs.Laid.{back}
use Rattle.de.specs.Sample.{sample_of}
use Rattle.evolution.specs.BoundsRule.{rule_number}
use Rattle.evolution.specs.Strategy.{strategy_number}
use Rattle.evolution.specs.declared.BoundsRule.{BoundsRule}
use Rattle.evolution.specs.declared.BoundsRule.TheVariants.{Clamp, Midpoint}
use Rattle.edge.specs.declared.answers.DeCall.{DeCall}
use Rattle.edge.specs.declared.flat.DeState.{DeState}
use Rattle.edge.specs.declared.trial.DeCompletedTrial.{DeCompletedTrial}
use Rattle.edge.specs.Trial.{known_history, trial_in, trial_of, flat_trial}
use Rattle.edge.specs.Flat.{bit, strategy_of, rule_of, option_of, setup_of, flat_setup, flat_float, flat_int, distribution_of, flat_distribution, dim_of, flat_dim, open_with, open_of, flat_of}
use Rattle.edge.specs.Known.{known_setup, known_distribution, known_with, known_state}
use Rattle.edge.specs.declared.answers.DeAnswer.{DeAnswer}
use Rattle.edge.specs.Answers.{bare_answer, unknown, answered, settled_of, told}
use Rattle.edge.proofs.Settled.{unknown-stores-nothing}
use Rattle.exports.specs.Calls.{known_call, sampled_from, settled_sample, sample_answer, sample_state}

-- ---- the parts

pub strategy-back : (t : DEStrategy) → strategy_of (strategy_number t) ≡ t
strategy-back Rand1 = refl
strategy-back Best1 = refl
strategy-back CurrentToBest1 = refl

rule-back : (t : BoundsRule) → rule_of (rule_number t) ≡ t
rule-back Clamp = refl
rule-back Midpoint = refl

option-back : {A : Type 0} (z : Option A) (d : A) → option_of (bit (is_some z)) (unwrap_or z d) ≡ z
option-back None d = refl
option-back (Some x) d = refl

pub setup-back : (S : Setup) → setup_of (flat_setup S) ≡ S
unfolding setup_of flat_setup
setup-back S =
    λ i. record {
      mutation_factor = S.mutation_factor;
      crossover_rate = S.crossover_rate;
      strategy = strategy-back S.strategy i;
      population_size = option-back S.population_size 0 i;
      seed = S.seed;
      bounds_rule = rule-back S.bounds_rule i;
    }

float_back : (a b : Float) (l : Bool) (s : Option Float)
    → distribution_of (flat_float (record { low = a; high = b; log_scale = l; step = s })) ≡ D.Float (record { low = a; high = b; log_scale = l; step = s })
unfolding distribution_of
float_back a b true None = refl
float_back a b false None = refl
float_back a b true (Some x) = refl
float_back a b false (Some x) = refl

int-back : (a b : ℤ) (l : Bool) (s : Option ℤ) → distribution_of (flat_int (record { low = a; high = b; log_scale = l; step = s })) ≡ D.Int (record { low = a; high = b; log_scale = l; step = s })
unfolding distribution_of
int-back a b true None = refl
int-back a b false None = refl
int-back a b true (Some x) = refl
int-back a b false (Some x) = refl

pub distribution-back : (d : Distribution) → distribution_of (flat_distribution d) ≡ d
unfolding distribution_of flat_distribution
distribution-back (D.Float f) = float_back f.low f.high f.log_scale f.step
distribution-back (D.Int f) = int-back f.low f.high f.log_scale f.step
distribution-back (D.Categorical f) = refl

dims-back : (ds : List DimensionInfo) → map dim_of (map flat_dim ds) ≡ ds
dims-back ds = back dim_of flat_dim ds (λ d i. record { distribution = distribution-back d.distribution i })

state-back : (t : TrialState) → state_from (state_number t) ≡ Some t
state-back Complete = refl
state-back Pruned = refl
state-back Failed = refl

pub trials-back : (h : List CompletedTrial) → map trial_of (map flat_trial h) ≡ h
trials-back h = back trial_of flat_trial h (λ e. ap (λ (o : Option TrialState). trial_in o (flat_trial e)) (state-back e.state))

bit-back : (b : Bool) → eqb (bit b) 1 ≡ b
bit-back true = refl
bit-back false = refl

-- ---- the same numbers are known

pub strategy-known : (t : DEStrategy) → leb (strategy_number t) 2 ≡ true
strategy-known Rand1 = refl
strategy-known Best1 = refl
strategy-known CurrentToBest1 = refl

rule-known : (t : BoundsRule) → leb (rule_number t) 1 ≡ true
rule-known Clamp = refl
rule-known Midpoint = refl

bit-known : (b : Bool) → leb (bit b) 1 ≡ true
bit-known true = refl
bit-known false = refl

pub setup-known : (S : Setup) → known_setup (flat_setup S) ≡ true
unfolding known_setup flat_setup
setup-known S = and-true (and-true (strategy-known S.strategy) (bit-known (is_some S.population_size))) (rule-known S.bounds_rule)

float_known : (a b : Float) (l : Bool) (s : Option Float) → known_distribution (flat_float (record { low = a; high = b; log_scale = l; step = s })) ≡ true
unfolding known_distribution
float_known a b true None = refl
float_known a b false None = refl
float_known a b true (Some x) = refl
float_known a b false (Some x) = refl

int-known : (a b : ℤ) (l : Bool) (s : Option ℤ) → known_distribution (flat_int (record { low = a; high = b; log_scale = l; step = s })) ≡ true
unfolding known_distribution
int-known a b true None = refl
int-known a b false None = refl
int-known a b true (Some x) = refl
int-known a b false (Some x) = refl

pub distribution-known : (d : Distribution) → known_distribution (flat_distribution d) ≡ true
unfolding known_distribution flat_distribution
distribution-known (D.Float f) = float_known f.low f.high f.log_scale f.step
distribution-known (D.Int f) = int-known f.low f.high f.log_scale f.step
distribution-known (D.Categorical f) = refl

dims-known : (ds : List DimensionInfo) → all known_distribution (map flat_dim ds) ≡ true
unfolding all
dims-known [] = refl
dims-known (d ∷ ds) = and-true (distribution-known d.distribution) (dims-known ds)

pub trials-known : (h : List CompletedTrial) → known_history (map flat_trial h) ≡ true
trials-known [] = refl
trials-known (e ∷ h) = and-true (ap is_some (state-back e.state)) (trials-known h)

-- ---- the state

pub lossless : (s : State) → open_of (flat_of s) ≡ s
unfolding open_with flat_of
lossless s =
    λ i. record {
      setup = setup-back s.setup i;
      first = option-back s.first 0 i;
      discovered = bit-back s.discovered i;
      n = s.n;
      n_dims = s.n_dims;
      dims = dims-back s.dims i;
      candidates = s.candidates;
      parents = s.parents;
      n_trials = s.n_trials;
      trials = s.trials;
      best = s.best;
      word = s.word;
      closed = s.closed;
      idle = s.idle;
    }

pub flat-known : (s : State) → known_state (flat_of s) ≡ true
unfolding known_with flat_of
flat-known s = and-true (and-true (and-true (setup-known s.setup) (bit-known (is_some s.first))) (bit-known s.discovered)) (dims-known s.dims)

-- ---- one call on a state that goes out as numbers: the sampler's own answer, and the memory holds the sampler's own state after a setting

-- what the memory holds after an answer
abbrev pub held_after : Plain.Answer de → State → State → DeState
held_after (Plain.given x) old new = flat_of new
held_after (Plain.refused n) old new = flat_of old

module _ (s : State) (c : DeCall) (h : List DeCompletedTrial) (k : known_call c h ≡ true) where
  abbrev after : State → Returned de State
  after t = sample_of t (distribution_of c.distribution) c.trial (map trial_of h)

  pub one_answer : sample_answer (flat_of s) c h ≡ told (answered (after s).answer (after s).draws)
  unfolding sample_answer settled_of
  one_answer = λ i. told (settled_of (k i) (flat-known s i) (after (lossless s i)).answer (after (lossless s i)).draws)

  pub one_state : sample_state (flat_of s) c h ≡ held_after (after s).answer s (after s).state
  unfolding sample_state settled_of
  one_state = (λ i. cond (is_ok (settled_of (k i) (flat-known s i) (after (lossless s i)).answer (after (lossless s i)).draws)) (flat_of (after (lossless s i)).state) (flat_of s)) ∙ go (after s).answer
    where
      go : (a : Plain.Answer de) → cond (is_ok (answered a (after s).draws)) (flat_of (after s).state) (flat_of s) ≡ held_after a s (after s).state
      go (Plain.given x) = refl
      go (Plain.refused n) = refl

-- ---- what a call's numbers stand for decides all; a number that names no case leaves the memory as it was

module _ (f : DeState) where
  -- two spellings of one call, known alike
  module _ (c c' : DeCall) (h h' : List DeCompletedTrial) (k : known_call c h ≡ known_call c' h') (d : distribution_of c.distribution ≡ distribution_of c'.distribution) (n : c.trial ≡ c'.trial)
      (e : map trial_of h ≡ map trial_of h') where
    settled-alike : settled_sample f c h ≡ settled_sample f c' h'
    settled-alike = λ i. settled_of (k i) (known_state f) (sample_of (open_of f) (d i) (n i) (e i)).answer (sample_of (open_of f) (d i) (n i) (e i)).draws

    pub same_answer : sample_answer f c h ≡ sample_answer f c' h'
    unfolding sample_answer
    same_answer = ap told settled-alike

    pub same_state : sample_state f c h ≡ sample_state f c' h'
    unfolding sample_state
    same_state = λ i. cond (is_ok (settled-alike i)) (flat_of (sample_of (open_of f) (d i) (n i) (e i)).state) f

  module _ (c : DeCall) (h : List DeCompletedTrial) (k : known_call c h ≡ false) where
    settled-unknown : settled_sample f c h ≡ Err unknown
    settled-unknown =
        ap (λ (b : Bool). settled_of b (known_state f) (sampled_from f c h).answer (sampled_from f c h).draws) k
        ∙ unknown-stores-nothing (known_state f) (sampled_from f c h).answer (sampled_from f c h).draws

    pub unknown-answer : sample_answer f c h ≡ bare_answer 4 0
    unfolding sample_answer
    unknown-answer = ap told settled-unknown

    pub unknown-state : sample_state f c h ≡ f
    unfolding sample_state
    unknown-state = ap (λ (z : Result DeAnswer DeAnswer). cond (is_ok z) (flat_of (sampled_from f c h).state) f) settled-unknown
