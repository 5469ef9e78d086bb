-- What the types of a state's fields say: arrays of their length, doubles, numbers of 64 bits. A function knows it of each State that it is handed, so a sound one that it is handed can be saved.
use Rattle.std.specs.Prelude.{Option, Some, None, ℤ, unwrap_or, IfSome}
use Prim.Native.Nat.{ℕ, ◌^◌, ◌<◌}
use native.Mathlib.Omega.{arith}
use mathlib.Core.Path.{◌≡◌, sym, subst}
use mathlib.Core.Bool.{true}
use mathlib.Core.List.Memᴰ
use mathlib.Core.List.{List, [], ◌∷◌}
use mir.Val.{Val}
use denote.Laws.{Is}
use denote.Array.{each}
use denote.Shadow.{shadow}
use denote.Builtin.{f64, i64, u16, u64}
use denote.RattleType.{RattleType}
use lib.Dec.{T}
use lib.Ieee.{Float, binary64, fits as fits_f}
use Rattle.distribution.specs.declared.DimensionInfo.{DimensionInfo}
use Rattle.distribution.specs.declared.Distribution.{Distribution}
use Rattle.distribution.specs.declared.Distribution.TheVariants as D
use Rattle.distribution.specs.contracts.DimensionInfo as DI
use Rattle.distribution.specs.contracts.Distribution as DD
use Rattle.std.specs.contracts.option.Option as O
use Rattle.ledger.specs.Words.{All}
use Rattle.candidates.specs.declared.Candidate.{Candidate}
use Rattle.candidates.specs.contracts.Candidate as C
use Rattle.evolution.specs.declared.Member.{Member}
use Rattle.evolution.specs.declared.Setup.{Setup}
use Rattle.evolution.specs.contracts.Member as M
use Rattle.evolution.specs.contracts.Setup as SU
use Rattle.state.specs.declared.State.{State}
use Rattle.state.specs.declared.TrialProgress.{TrialProgress}
use Rattle.state.proofs.Measured.{Sized, measured}
use Rattle.state.specs.contracts.State as S
use Rattle.state.specs.contracts.TrialProgress as T
use Rattle.kinds.specs.Typed.{Double, Whole, TypedDistribution, Choices, TypedState, TypedNumbers, TypedCandidate, TypedSetup}

pub each-field : (R : RattleType) (P : R.Denot → Type 0) → ((x : R.Denot) (vs : List Val) → Is R x vs → P x)
    → (xs : List R.Denot) (us : List Val) → shadow (each R.Denot R.own_val xs us) → All P xs
each-field R P h [] us p a m = elim m [ ]
each-field R P h (x ∷ xs) [] p a m = absurd p
each-field R P h (x ∷ xs) (u ∷ us) p a (Memᴰ.head e) = subst P (sym e) (h x (u ∷ []) p.0)
each-field R P h (x ∷ xs) (u ∷ us) p a (Memᴰ.tail m) = each-field R P h xs us p.1 a m

option_small : (z : Option ℕ) (vs : List Val) → Is (O.the_field u64).row ((O.the_field u64).into z) vs → unwrap_or z 0 < 2 ^ 64
option_small None vs p = omega arith
option_small (Some n) vs p = let h = p.1.1.0.1 in omega arith

-- a double of the machine
pub double : (x : Float) → fits_f binary64 x ≡ true → Double x
double x e = subst T (sym e) tt

float-step : (s : Option Float) (vs : List Val) → Is (O.the_field f64).row ((O.the_field f64).into s) vs → IfSome s Double
float-step None vs p = tt
float-step (Some x) vs p = double x p.1.1.1.1.0.1

int-step : (s : Option ℤ) (vs : List Val) → Is (O.the_field i64).row ((O.the_field i64).into s) vs → IfSome s Whole
int-step None vs p = tt
int-step (Some x) vs p = p.1.1.1.1.0.1

pub distribution : (d : Distribution) (vs : List Val) → Is (DD.the_field).row ((DD.the_field).into d) vs → TypedDistribution d
distribution (D.Float d) vs p = let q = p.1.1.1.1.0.1.1 in (double d.low q.0.1, double d.high q.1.0.1, float-step d.step _ q.1.1.1.0)
distribution (D.Int d) vs p = let q = p.1.1.1.1.0.1.1 in (q.0.1, q.1.0.1, int-step d.step _ q.1.1.1.0)
distribution (D.Categorical d) vs p = tt

choices-small : (d : Distribution) (vs : List Val) → Is (DD.the_field).row ((DD.the_field).into d) vs → Choices d
choices-small (D.Float d) vs p = tt
choices-small (D.Int d) vs p = tt
choices-small (D.Categorical d) vs p = let h = p.1.1.1.1.0.1.1.0.1 in omega arith

numbers : (c : Candidate) (vs : List Val) → Is C.the_row c vs → All Double c.x × All (λ (k : ℕ). k < 2 ^ 16) c.choices
numbers c vs p = (
  each-field f64 Double (λ x us q. double x q.1) c.x _ p.1.1.0.1.1,
  each-field u16 (λ (k : ℕ). k < 2 ^ 16) (λ k us q. let h = q.1 in omega arith) c.choices _ p.1.1.1.0.1.1,
)

abbrev Numbers : Candidate → Type 0
Numbers c = All Double c.x × All (λ (k : ℕ). k < 2 ^ 16) c.choices

typed : (c : Candidate) → Sized c → Numbers c → TypedCandidate c
typed c z n = record { x = z.x; choices = z.choices; doubles = n.0; small = n.1 }

module _ (s : State) (vs : List Val) (p : Is S.the_row s vs) where
  pub typed-state : TypedState s
  typed-state =
      let m = measured s vs p in
      let setup = p.1.1 in
      let dims = p.1.1.1.1.1.1.1 in
      let candidates = dims.1 in
      let parents = candidates.1 in
      let cs = each-field C.the_row Numbers numbers s.candidates _ candidates.0.1.1 in
      let ps = each-field M.the_row (λ (m : Member). Numbers m.candidate × Double m.value) (λ m us q. (numbers m.candidate _ q.1.1.0, double m.value q.1.1.1.0.1)) s.parents _ parents.0.1.1 in
      record {
        dims_length = m.dims;
        candidates_length = m.candidates;
        parents_length = m.parents;
        trials_length = m.trials;
        closed = let h = m.closed in omega arith;
        idle = let h = m.idle in omega arith;
        factor = double s.setup.mutation_factor setup.0.1.1.0.1;
        rate = double s.setup.crossover_rate setup.0.1.1.1.0.1;
        dims = each-field DI.the_row (λ (d : DimensionInfo). TypedDistribution d.distribution) (λ d us q. distribution d.distribution _ q.1.1.0) s.dims _ dims.0.1.1;
        candidates = λ c k. typed c (m.candidates_sized c k) (cs c k);
        parents = λ y k. (typed y.candidate (m.parents_sized y k) (ps y k).0, (ps y k).1);
      }

  -- the numbers that are neither doubles nor whole numbers
  pub typed-numbers : TypedNumbers s
  typed-numbers =
      let setup = p.1.1 in
      let first = setup.1 in
      let n = first.1.1 in
      let dims = n.1.1 in
      let trials = dims.1.1.1 in
      let best = trials.1.1 in
      record {
        size = option_small s.setup.population_size _ setup.0.1.1.1.1.1.0;
        seed = let h = setup.0.1.1.1.1.1.1.0.1 in omega arith;
        first = option_small s.first _ first.0;
        n = let h = n.0.1 in omega arith;
        dims = let h = n.1.0.1 in omega arith;
        trials = let h = trials.0.1 in omega arith;
        best = let h = best.0.1 in omega arith;
        word = let h = best.1.0.1 in omega arith;
        choices = each-field DI.the_row (λ (d : DimensionInfo). Choices d.distribution) (λ d us q. choices-small d.distribution _ q.1.1.0) s.dims _ dims.0.1.1;
        numbers = each-field T.the_row (λ (t : TrialProgress). (t.number < 2 ^ 64) × (t.next_dim < 2 ^ 64))
            (λ t us q. let h = q.1.1.0.1 in let k = q.1.1.1.0.1 in (omega arith, omega arith)) s.trials _ trials.1.0.1.1;
      }

-- ---- of a set-up

pub typed-setup : (S : Setup) (vs : List Val) → Is SU.the_row S vs → TypedSetup S
typed-setup S vs p =
    let fields = p.1.1 in
    record {
      factor = double S.mutation_factor fields.0.1;
      rate = double S.crossover_rate fields.1.0.1;
      size = option_small S.population_size _ fields.1.1.1.0;
      seed = let h = fields.1.1.1.1.0.1 in omega arith;
    }
