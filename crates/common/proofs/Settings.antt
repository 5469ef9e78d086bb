-- Two facts of every setting that is made here: a random one costs exactly one draw, and a whole number from an entry lies in its bounds, by the clamp's three cases.
use Rattle.std.proofs.Common.{◌≡◌, ◌+◌, Bool, true, false, cond, not, T, ℤ, pos, ◌≤ℤ◌, sym, refl, subst}
use lib.Signed.{lt_z, lt_z_no, ≤ℤ_refl}
use lib.Ieee.{Float}
use Rattle.rng_util.specs.declared.Gen.{Gen}
use Rattle.rng_util.specs.Gen.{draw_of}
use Rattle.distribution.specs.declared.Distribution.{Distribution}
use Rattle.distribution.specs.declared.IntDistribution.{IntDistribution}
use Rattle.common.specs.FromInternal.{clamp_z, on_step_z, from_ladder, from_int}
use Rattle.ladder.specs.Inner.{inner_low, inner_high, position_of}
use Rattle.ladder.specs.Rungs.{rung}
use Rattle.common.specs.Random.{random_setting}

-- `sample_random` makes exactly one draw, whatever the distribution
pub one-draw : (d : Distribution) (g : Gen) → ((random_setting d g).after ≡ (draw_of g).after) × ((random_setting d g).after.draws ≡ g.draws + 1)
unfolding random_setting draw_of
one-draw d g = (refl, refl)

pub clamp_z-within : (z low high : ℤ) → low ≤ℤ high → (low ≤ℤ clamp_z z low high) × (clamp_z z low high ≤ℤ high)
unfolding clamp_z
clamp_z-within z low high o = go (lt_z z low) refl (lt_z high z) refl
  where
    fails : {a b : ℤ} → lt_z a b ≡ false → b ≤ℤ a
    fails e = lt_z_no (subst (λ (t : Bool). T (not t)) (sym e) tt)

    go : (a : Bool) → lt_z z low ≡ a → (b : Bool) → lt_z high z ≡ b → (low ≤ℤ cond a low (cond b high z)) × (cond a low (cond b high z) ≤ℤ high)
    go true e b f = (≤ℤ_refl low, o)
    go false e true f = (o, ≤ℤ_refl high)
    go false e false f = (fails e, fails f)

-- the whole number that `from_internal` gives lies in low..high, for every double
pub int-within : (v : Float) (d : IntDistribution) → d.low ≤ℤ d.high → (d.low ≤ℤ from_int v d) × (from_int v d ≤ℤ d.high)
unfolding from_int from_ladder
int-within v d o = go d.log_scale
  where
    go : (b : Bool) → let z = cond b (from_ladder v d) (clamp_z (on_step_z d.step d.low v) d.low d.high) in (d.low ≤ℤ z) × (z ≤ℤ d.high)
    go true = clamp_z-within (pos (rung (position_of v (inner_low d.low) (inner_high d.high)))) d.low d.high o
    go false = clamp_z-within (on_step_z d.step d.low v) d.low d.high o
