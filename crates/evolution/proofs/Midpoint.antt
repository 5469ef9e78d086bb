-- The two rules in document 02's words (W7): under clamp an entry is what it was before there was a choice; under midpoint the mutant's entry is judged by the
-- parent's; and an entry's draws are the same under both.
use Prim.Native.Nat.{ℕ}
use mathlib.Core.Path.{◌≡◌, refl}
use mathlib.Core.Bool.{Bool, true, false, cond}
use lib.Dec.{eqb}
use lib.Ieee.{Float, lt}
use Rattle.rng_util.specs.Draws.{unit_of}
use Rattle.rng_util.specs.Gen.{draw_of, made}
use Rattle.rng_util.specs.declared.Gen.{Gen}
use Rattle.rounding.specs.Clamp.{clamp_of}
use Rattle.common.specs.declared.Bounds.{Bounds}
use Rattle.evolution.specs.Cross.{clamped, halfway, drawn_in, judged_entry, cross_entry}
use Rattle.evolution.specs.declared.BoundsRule.{BoundsRule}
use Rattle.evolution.specs.declared.BoundsRule.TheVariants.{Clamp, Midpoint}

module _ (CR v x : Float) (b : Bounds) (star j : ℕ) (g : Gen) where
  -- UNDER CLAMP, the choice between the two entries, and then the clamp: "each entry is clamped", bit for bit
  pub clamp-as-before : cross_entry Clamp CR star v x b j g
      ≡ cond (eqb j star) (made (clamped b v) g) (made (clamped b (cond (lt (unit_of (draw_of g).out) CR) v x)) (draw_of g).after)
  unfolding cross_entry drawn_in
  clamp-as-before = go (lt (unit_of (draw_of g).out) CR)
    where
      go : (t : Bool) → cond (eqb j star) (made (clamped b v) g) (made (cond t (clamped b v) (clamped b x)) (draw_of g).after)
          ≡ cond (eqb j star) (made (clamped b v) g) (made (clamped b (cond t v x)) (draw_of g).after)
      go true = refl
      go false = refl

  -- where the parent's own entry is taken it is clamped alone, by either rule
  pub parent-clamped-alone : (rule : BoundsRule) → eqb j star ≡ false → lt (unit_of (draw_of g).out) CR ≡ false → (cross_entry rule CR star v x b j g).out ≡ clamped b x
  unfolding cross_entry
  parent-clamped-alone rule e d = rw (e, d) refl

  -- the rule moves no draw of an entry; of a whole generation: Same
  pub same-draws : (rule other : BoundsRule) → (cross_entry rule CR star v x b j g).after ≡ (cross_entry other CR star v x b j g).after
  unfolding cross_entry
  same-draws rule other = go (eqb j star)
    where
      go : (t : Bool) → (cond t (made (judged_entry rule b x v) g) (made (cond (lt (unit_of (draw_of g).out) CR) (judged_entry rule b x v) (clamped b x)) (draw_of g).after)).after
          ≡ (cond t (made (judged_entry other b x v) g) (made (cond (lt (unit_of (draw_of g).out) CR) (judged_entry other b x v) (clamped b x)) (draw_of g).after)).after
      go true = refl
      go false = refl

-- UNDER MIDPOINT, "a mutant entry beyond a bound becomes half the sum of the parent's entry and that bound, then is clamped"
module _ (b : Bounds) (x v : Float) where
  pub midpoint-below : lt v b.low ≡ true → judged_entry Midpoint b x v ≡ clamped b (halfway x b.low)
  unfolding drawn_in
  midpoint-below e = rw e refl

  pub midpoint-above : lt v b.low ≡ false → lt b.high v ≡ true → judged_entry Midpoint b x v ≡ clamped b (halfway x b.high)
  unfolding drawn_in
  midpoint-above e d = rw (e, d) refl

  -- one that is beyond none stays, one that is exactly a bound too
  pub midpoint-within : lt v b.low ≡ false → lt b.high v ≡ false → judged_entry Midpoint b x v ≡ v
  unfolding drawn_in clamp_of
  midpoint-within e d = rw (e, d, e, d) refl
