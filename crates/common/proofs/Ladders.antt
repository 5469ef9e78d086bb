-- The inner bounds of a ladder are positions; a drawn one lies between them, so it decodes as itself.
use Rattle.std.specs.Prelude.{Ok}
use Rattle.std.proofs.Common.{◌≡◌, ℕ, ◌+◌, ◌-◌, ◌%◌, ◌≤◌, ◌<◌, true, ℤ, pos, ◌+ℤ◌, unsigned_abs, ◌-ℤ◌, ap, ◌∙◌, mod-lt, le_refl, arith}
use Rattle.std.proofs.lemmas.Int.{ints}
use lib.Ieee.{binary64, of_int}
use Rattle.distribution.specs.declared.IntDistribution.{IntDistribution}
use Rattle.distribution.specs.declared.Distribution.TheVariants as D
use Rattle.distribution.specs.Validate.{verdict_of}
use Rattle.distribution.proofs.Meaning.{valid-good}
use Rattle.rng_util.specs.Draws.{i64_of}
use Rattle.ladder.specs.Inner.{inner_low, inner_high, position_of}
use Rattle.ladder.specs.Rungs.{rung}
use Rattle.common.specs.FromInternal.{clamp_z, from_ladder}
use Rattle.common.specs.Random.{random_ladder}
use Rattle.ladder.proofs.Firsts.{high-bound}
use Rattle.ladder.proofs.Inner.{low-bound, inner-ordered, low-end, high-end}
use Rattle.ladder.proofs.Positions.{own-position}

pub inner-few : (d : IntDistribution) → (inner_low d.low ≤ 7936) × (inner_high d.high ≤ 7936)
inner-few d = (low-bound d.low, high-bound d.high)

-- `i64(a..=b)` is a + output mod (b - a + 1)
pub record Drawn (d : IntDistribution) (output : ℕ) : Type 0 where
  pub position : ℕ
  pub is : i64_of output (pos (inner_low d.low)) (pos (inner_high d.high)) ≡ pos position
  pub from : inner_low d.low ≤ position
  pub to : position ≤ inner_high d.high

pub drawn : (d : IntDistribution) (output : ℕ) → inner_low d.low ≤ inner_high d.high → Drawn d output
drawn d output o =
    let a = inner_low d.low in
    let b = inner_high d.high in
    let r : output % (b - a + 1) < b - a + 1 = mod-lt output (omega arith) in
    let gap : unsigned_abs (pos b -ℤ pos a) ≡ b - a = grind (arith, ints) in
    record {
      position = a + output % (b - a + 1);
      is = ap (λ (n : ℕ). pos a +ℤ pos (output % (n + 1))) gap;
      from = omega arith;
      to = omega (arith, r);
    }

module _ (d : IntDistribution) (v : verdict_of (D.Int d) ≡ Ok tt) (l : d.log_scale ≡ true) where
  pub ladder-ordered : inner_low d.low ≤ inner_high d.high
  ladder-ordered = let g = valid-good (D.Int d) v in inner-ordered d.low d.high g.ordered (g.ladder l).to_limit

  -- the drawn position is that of its own double
  pub drawn-own : (output : ℕ) → let p = drawn d output ladder-ordered in position_of (of_int binary64 (pos p.position)) (inner_low d.low) (inner_high d.high) ≡ p.position
  drawn-own output = let p = drawn d output ladder-ordered in own-position p.position (inner_low d.low) (inner_high d.high) (high-bound d.high) p.from p.to

  -- so the random setting is R there, clamped
  pub random-is : (output : ℕ) → random_ladder d output ≡ clamp_z (pos (rung (drawn d output ladder-ordered).position)) d.low d.high
  unfolding random_ladder from_ladder
  random-is output =
      ap (λ (z : ℤ). clamp_z (pos (rung (position_of (of_int binary64 z) (inner_low d.low) (inner_high d.high)))) d.low d.high) (drawn d output ladder-ordered).is
      ∙ ap (λ (p : ℕ). clamp_z (pos (rung p)) d.low d.high) (drawn-own output)

  -- ---- the ends are reached: the inner bounds decode as low and high

  pub lower-end : from_ladder (of_int binary64 (pos (inner_low d.low))) d ≡ d.low
  unfolding from_ladder clamp_z
  lower-end =
      let g = valid-good (D.Int d) v in
      let o = g.ordered in
      let h = (g.ladder l).to_limit in
      let a = own-position (inner_low d.low) (inner_low d.low) (inner_high d.high) (high-bound d.high) (le_refl (inner_low d.low)) ladder-ordered in
      let e = low-end d.low (g.ladder l).from_1 (grind (arith, ints, o, h)) in
      rw a (grind (arith, ints, e, o))

  pub upper-end : from_ladder (of_int binary64 (pos (inner_high d.high))) d ≡ d.high
  unfolding from_ladder clamp_z
  upper-end =
      let g = valid-good (D.Int d) v in
      let a = own-position (inner_high d.high) (inner_low d.low) (inner_high d.high) (high-bound d.high) ladder-ordered (le_refl (inner_high d.high)) in
      let e = high-end d.high (g.ladder l).to_limit in
      let o = g.ordered in
      rw a (grind (arith, ints, e, o))
