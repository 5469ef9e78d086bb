-- The laws of this crate's functions: what their calls return, put together.
use Rattle.std.proofs.Common.{◌≡◌, refl, ap, ◌∙◌, arith, List, length, ℕ, ◌+◌, ◌≤◌, Bool, true, false, cond, get_or}
use lib.Dec.{ltb}
use lib.ListN.{length-take}
use Rattle.rng_util.specs.Gen.{Made, made}
use Rattle.rng_util.specs.declared.Gen.{Gen}
use Rattle.candidates.specs.Candidate.{continuous_place}
use Rattle.candidates.specs.Random.{random_candidate}
use Rattle.candidates.specs.Space.{space_of}
use Rattle.candidates.specs.declared.Candidate.{Candidate}
use Rattle.candidates.specs.declared.Space.{Space}
use Rattle.candidates.proofs.Count.{candidate-few}
use Rattle.candidates.proofs.Passed.{space-few, space-dims}
use Rattle.distribution.specs.Dims.{no_dim}
use Rattle.distribution.specs.declared.DimensionInfo.{DimensionInfo}
use Rattle.kernel.specs.De.{decode_of, dim_idx}
use Rattle.state.specs.View.{candidate_count}
use Rattle.state.specs.declared.State.{State}
use Rattle.state.specs.View.{dims_of}
use Rattle.assignment.specs.Raw.{no_candidate, candidate_for, assigned_at, decoded_by}

pub cond-true : {A : Type 0} (b : Bool) (x y : A) → b ≡ true → cond b x y ≡ x
cond-true b x y e = rw e

pub cond-false : {A : Type 0} (b : Bool) (x y : A) → b ≡ false → cond b x y ≡ y
cond-false b x y e = rw e

-- the ledger's decoding is by the stored distribution
pub decode_is : (ds : List DimensionInfo) (k : ℕ) (y : Candidate) → decoded_by (get_or ds k no_dim).distribution (dim_idx k) (continuous_place ds (dim_idx k)) y ≡ decode_of ds k y
unfolding decoded_by decode_of
decode_is ds k y = refl

-- a new candidate draws at most once for each dimension
pub assigned-few : (s : State) (place : ℕ) (g g' : Gen) (y : Candidate) → s.n_dims ≤ 16 → made y g' ≡ assigned_at s place g → g'.draws ≤ g.draws + 16
unfolding candidate_for
assigned-few s place g g' y few e = go (ltb place (candidate_count s)) e
  where
    own : Candidate
    own = get_or s.candidates place no_candidate

    new : Made Candidate
    new = random_candidate (space_of (dims_of s)) g

    go : (known : Bool) → made y g' ≡ cond known (made own g) new → g'.draws ≤ g.draws + 16
    go true e = omega (arith, ap (λ (m : Made Candidate). m.after.draws) e)
    go false e = omega (arith, ap (λ (m : Made Candidate). m.after.draws) e, candidate-few (dims_of s) g, length-take s.n_dims s.dims)

-- the space of a state's dimensions, as far as a draw asks
module _ (s : State) (few : s.n_dims ≤ 16) (ds : List DimensionInfo) (is : ds ≡ dims_of s) (space : Space) (made : space ≡ space_of ds) where
  pub space-is : space ≡ space_of (dims_of s)
  space-is = made ∙ ap space_of is

  pub space-fits : (space.n ≤ 16) × (space.n_dims ≤ 16)
  space-fits =
      let h : length (dims_of s) ≤ 16 = omega (arith, length-take s.n_dims s.dims) in
      (space-few (dims_of s) space h space-is, space-dims (dims_of s) space h space-is)

pub ruleset spaces = (space-fits)
