-- With F from 0 to 2, bounds of at most 1e300 and entries of at most 4e300, steps 2 to 4 make numbers alone, no NaN and no infinity, and each new entry is at
-- most 4e300 again (02, W8). Sizes are counted in `most`, the double nearest to 1e300. Idea: most times 1, 2, 4, .. 64 is a double, and a rounding never passes a
-- double (Within), so the caps below are all that has to be added up. (They are generous: a drawn entry is within its bounds but for roundings.)
--
--   step   what is made                                     sizes added up     its cap
--   2      drawn    low + u (high - low)                    1 + 1 × (1 + 1)       4
--   3      scaled   F (a - b)                               2 × (4 + 4)          16
--          moved    x + F (a - b): Rand1, Best1             4 + 16               32
--          mutant   CurrentToBest1: moved + scaled          32 + 16              64
--   4      halfway  half of x + bound                       4 + 1                 8
--          clamped  a number, put between two bounds        1                     1
use Rattle.std.specs.Float.{NotNan}
use Rattle.std.proofs.lemmas.Float.{T_from_false}
use mathlib.Core.Path.{◌≡◌, refl, sym, ap, ◌∙◌, subst}
use mathlib.Core.Bool.{Bool, true, false, cond, not}
use Prim.Native.Nat.{ℕ, ◌+◌, ◌*◌, ◌^◌, ◌≤◌, ◌<◌, zero-le}
use native.Mathlib.Nat.{lt_of_lt_of_le, mul_comm, mul_left_comm}
use native.Mathlib.Omega.{arith}
use lib.Dec.{T, eqb, lit<, leb→le}
use lib.IntN.{ℤ, pos, nat_abs}
use lib.Pow.{pow-add, pow_mono, shl_lt}
use lib.Count.{count_trailing_zeros}
use lib.Ieee.{Float, fin, binary64, round, size, span, climb, units, odd, add, sub, mul, lt, of_int, of_bits, of_fields}
use lib.Ieee.Fits.{and_l, and_r}
use lib.Ieee.Exact.{HasValue}
use Rattle.rng_util.specs.SplitMix.{drawn}
use Rattle.rng_util.specs.Draws.{unit_of, range_of}
use Rattle.rng_util.specs.Gen.{draw_of, made}
use Rattle.rng_util.specs.declared.Gen.{Gen}
use Rattle.rounding.specs.Clamp.{clamp_of}
use Rattle.distribution.specs.Validate.{is_finite, float_limit, int_limit}
use Rattle.distribution.specs.Good.{Good, GoodBound}
use Rattle.distribution.specs.declared.Distribution.{Distribution}
use Rattle.distribution.specs.declared.Distribution.TheVariants.{Float as FloatD, Int as IntD, Categorical}
use Rattle.distribution.proofs.Flags.{neither}
use Rattle.common.specs.Bounds.{ladder_bounds, bounds}
use Rattle.common.specs.declared.Bounds.{Bounds}
use Rattle.common.proofs.Ladders.{inner-few}
use Rattle.candidates.specs.Random.{random_entry}
use Rattle.evolution.specs.Mutant.{mutant_entry}
use Rattle.evolution.specs.Cross.{clamped, halfway, drawn_in, judged_entry, cross_entry}
use Rattle.evolution.specs.declared.BoundsRule.{BoundsRule}
use Rattle.evolution.specs.declared.BoundsRule.TheVariants.{Clamp, Midpoint}
use Rattle.evolution.specs.declared.DEStrategy.{DEStrategy}
use Rattle.evolution.specs.declared.DEStrategy.TheVariants.{Rand1, Best1, CurrentToBest1}
use Rattle.kernel.specs.Fits.{entry_limit, entry_fits}
use Rattle.kernel.specs.Setup.{factor_fails}
use Rattle.kernel.proofs.Within.{Within, within-finite, within-number, wider, inside, between-limits, Cap, cap, at-value, up-to, add-within, sub_within, mul-within, half-within, unit-within, int-within}

-- ---- sizes

-- the whole number that the double nearest to 1e300 is
unfoldable pub most : ℕ
most = 1681218273811815 * 2 ^ 946

limit-value : HasValue float_limit false most 1
unfolding float_limit most round size span climb units odd count_trailing_zeros
limit-value = (refl, refl)

-- most times 2, 4, 8, .. is a double
most-cap : (k : ℕ) → k ≤ 20 → Cap (2 ^ k * most)
unfolding most
most-cap k h = scaled-cap 1681218273811815 (lit< tt)
  where
    scaled-cap : (q : ℕ) → q < 2 ^ 51 → Cap (2 ^ k * (q * 2 ^ 946))
    scaled-cap q l =
        subst Cap (sym (mul_left_comm (2 ^ k) q (2 ^ 946) ∙ ap (λ (z : ℕ). q * z) (mul_comm (2 ^ k) (2 ^ 946) ∙ sym (pow-add 2 946 k))))
        (cap q (946 + k) (lt_of_lt_of_le l (pow_mono {i = 51} {j = 53} (omega arith))) (lt_of_lt_of_le (shl_lt {a = q} 51 (946 + k + 1074) l) (pow_mono {i = 51 + (946 + k + 1074)} {j = 2098} (omega arith))))

-- ---- bounds, as refusal 4 leaves them: at most 1e300 in size, or whole and at most 2 ^ 53

abbrev pub SmallBounds : Bounds → Type 0
SmallBounds b = Within most b.low × Within most b.high

bound-small : (x : Float) → GoodBound x → Within most x
bound-small x g = between-limits most float_limit x (at-value most float_limit limit-value) g.at_least g.at_most

int_small : (z : ℤ) → nat_abs z ≤ int_limit → Within most (of_int binary64 z)
int_small z h = wider (1 * 2 ^ 53) most (of_int binary64 z) (unfold most in leb→le (1 * 2 ^ 53) (1681218273811815 * 2 ^ 946) tt) (int-within (1 * 2 ^ 53) z (cap 1 53 (lit< tt) (lit< tt)) h)

position-small : (n : ℕ) → n ≤ 7936 → Within most (of_int binary64 (pos n))
position-small n h = int_small (pos n) (omega arith)

pub bounds-small : (d : Distribution) → Good d → SmallBounds (bounds d)
unfolding of_bits of_fields odd
bounds-small (FloatD d) g = (bound-small d.low g.good_low, bound-small d.high g.good_high)
bounds-small (IntD d) g = go d.log_scale
  where
    go : (b : Bool) → SmallBounds (cond b (ladder_bounds d) (record { low = of_int binary64 d.low; high = of_int binary64 d.high }))
    go true = (position-small _ (inner-few d).0, position-small _ (inner-few d).1)
    go false = (int_small d.low g.small_low, int_small d.high g.small_high)
bounds-small (Categorical d) g = (zero-le, zero-le)

-- ---- entries of a sound state: none is "over 4e300 in size"

abbrev SmallEntry : Float → Type 0
SmallEntry = Within (4 * most)

entry-limit : HasValue entry_limit false (4 * most) 1
unfolding entry_limit most round size span climb units odd count_trailing_zeros
entry-limit = (refl, refl)

small-entry : (x : Float) → T (entry_fits x) → SmallEntry x
unfolding entry_fits
small-entry x t =
    between-limits (4 * most) entry_limit x (at-value (4 * most) entry_limit entry-limit) (and_l _ _ t) (and_r _ _ t)

entry-fits : (x : Float) → SmallEntry x → T (entry_fits x)
unfolding entry_fits
entry-fits x p = up-to (4 * most) entry_limit x entry-limit p

pub small-finite : (x : Float) → T (entry_fits x) → T (is_finite x)
small-finite x t = within-finite (4 * most) x (small-entry x t)

-- ---- step 2: "low + u × (high - low)"

range-small : (low high u : Float) → Within most low → Within most high → Within 1 u → SmallEntry (range_of low high u)
range-small l h u p q r =
    add-within most (2 * most) (4 * most) l (mul binary64 u (sub binary64 h l)) (most-cap 2 (omega arith)) (omega arith) p
    (mul-within 1 (2 * most) (2 * most) u (sub binary64 h l) (most-cap 1 (omega arith)) (omega arith) r
    (sub_within most most (2 * most) h l (most-cap 1 (omega arith)) (omega arith) q p))

-- a drawn entry fits
pub drawn-fits : (b : Bounds) (g : Gen) → SmallBounds b → T (entry_fits (random_entry b g).out)
unfolding random_entry draw_of
drawn-fits b g s =
    let u = unit_of (drawn g.word).output in
    entry-fits (range_of b.low b.high u) (range-small b.low b.high u s.0 s.1 (unit-within g.word))

-- ---- step 3: the three strategies

-- F from 0 to 2, as refusal 1 leaves it
factor-within : (F : Float) → factor_fails F ≡ false → Within 2 F
factor-within F e =
    let p = neither _ _ e in
    let q = neither _ _ p.0 in
    inside 2 (fin false 0 (pos 0)) (fin false 1 (pos 1)) F (omega arith) (omega arith) (T_from_false _ q.0) (T_from_false _ q.1) (T_from_false _ p.1)

-- F(a - b)
scaled : (F a b : Float) → Within 2 F → SmallEntry a → SmallEntry b → Within (16 * most) (mul binary64 F (sub binary64 a b))
scaled F a b f p q =
    mul-within 2 (8 * most) (16 * most) F (sub binary64 a b) (most-cap 4 (omega arith)) (omega arith) f
    (sub_within (4 * most) (4 * most) (8 * most) a b (most-cap 3 (omega arith)) (omega arith) p q)

-- x + F(a - b)
moved : (F x a b : Float) → Within 2 F → SmallEntry x → SmallEntry a → SmallEntry b → Within (32 * most) (add binary64 x (mul binary64 F (sub binary64 a b)))
moved F x a b f o p q = add-within (4 * most) (16 * most) (32 * most) x (mul binary64 F (sub binary64 a b)) (most-cap 5 (omega arith)) (omega arith) o (scaled F a b f p q)

mutant-within : (s : DEStrategy) (F x b x1 x2 x3 : Float) → Within 2 F → SmallEntry x → SmallEntry b → SmallEntry x1 → SmallEntry x2 → SmallEntry x3
    → Within (64 * most) (mutant_entry s F x b x1 x2 x3)
unfolding mutant_entry
mutant-within Rand1 F x b x1 x2 x3 f h k h1 h2 h3 = wider (32 * most) (64 * most) (add binary64 x1 (mul binary64 F (sub binary64 x2 x3))) (omega arith) (moved F x1 x2 x3 f h1 h2 h3)
mutant-within Best1 F x b x1 x2 x3 f h k h1 h2 h3 = wider (32 * most) (64 * most) (add binary64 b (mul binary64 F (sub binary64 x1 x2))) (omega arith) (moved F b x1 x2 f k h1 h2)
mutant-within CurrentToBest1 F x b x1 x2 x3 f h k h1 h2 h3 =
    add-within (32 * most) (16 * most) (64 * most) (add binary64 x (mul binary64 F (sub binary64 b x))) (mul binary64 F (sub binary64 x1 x2)) (most-cap 6 (omega arith)) (omega arith)
    (moved F x b x f h k h) (scaled F x1 x2 f h1 h2)

-- "with F in 0..2 and the bounds of document 01 no sample call .. makes a NaN entry": not by any strategy's mutant
pub mutant-number : (s : DEStrategy) (F x b x1 x2 x3 : Float) → factor_fails F ≡ false → T (entry_fits x) → T (entry_fits b) → T (entry_fits x1) → T (entry_fits x2) → T (entry_fits x3)
    → NotNan (mutant_entry s F x b x1 x2 x3)
mutant-number s F x b x1 x2 x3 f h k h1 h2 h3 =
    within-number (64 * most) (mutant_entry s F x b x1 x2 x3)
    (mutant-within s F x b x1 x2 x3 (factor-within F f) (small-entry x h) (small-entry b k) (small-entry x1 h1) (small-entry x2 h2) (small-entry x3 h3))

-- ---- step 4: nor "with clamp and with midpoint"

-- "half the sum of the parent's entry and that bound"
pub halfway-within : (x b : Float) → SmallEntry x → Within most b → Within (8 * most) (halfway x b)
unfolding halfway
halfway-within x b p q = half-within (8 * most) (add binary64 x b) (most-cap 3 (omega arith)) (add-within (4 * most) most (8 * most) x b (most-cap 3 (omega arith)) (omega arith) p q)

-- what is clamped then is a number, by either rule
pub drawn-number : (rule : BoundsRule) (b : Bounds) (x v : Float) → SmallBounds b → T (entry_fits x) → NotNan v → NotNan (drawn_in rule b x v)
unfolding drawn_in
drawn-number Clamp b x v s p n = n
drawn-number Midpoint b x v s p n = go (lt v b.low) (lt b.high v)
  where
    half : (y : Float) → Within most y → NotNan (halfway x y)
    half y q = within-number (8 * most) (halfway x y) (halfway-within x y (small-entry x p) q)

    go : (t u : Bool) → NotNan (cond t (halfway x b.low) (cond u (halfway x b.high) v))
    go true u = half b.low s.0
    go false true = half b.high s.1
    go false false = n

-- a clamped number is no larger than both bounds may be
clamp-within : (C : ℕ) (v l h : Float) → NotNan v → Within C l → Within C h → Within C (clamp_of v l h)
unfolding clamp_of
clamp-within C v l h n p q = go (lt v l) (lt h v) (λ t. t) (λ t. t)
  where
    go : (a b : Bool) → (T (not a) → T (not (lt v l))) → (T (not b) → T (not (lt h v))) → Within C (cond a l (cond b h v))
    go true b e f = p
    go false true e f = q
    go false false e f = inside C l h v p q n (e tt) (f tt)

clamped-fits : (b : Bounds) (v : Float) → SmallBounds b → NotNan v → T (entry_fits (clamped b v))
clamped-fits b v s n = entry-fits (clamped b v) (wider most (4 * most) (clamped b v) (omega arith) (clamp-within most v b.low b.high n s.0 s.1))

-- so a crossed entry fits, of a mutant's entry v that is a number and a parent's entry x that fits
pub crossed-fits : (rule : BoundsRule) (rate : Float) (star : ℕ) (v x : Float) (b : Bounds) (j : ℕ) (g : Gen) → SmallBounds b → T (entry_fits x) → NotNan v
    → T (entry_fits (cross_entry rule rate star v x b j g).out)
unfolding cross_entry
crossed-fits rule rate star v x b j g s p n = go (eqb j star) (lt (unit_of (draw_of g).out) rate)
  where
    judged : T (entry_fits (judged_entry rule b x v))
    judged = clamped-fits b (drawn_in rule b x v) s (drawn-number rule b x v s p n)

    go : (t u : Bool) → T (entry_fits (cond t (made (judged_entry rule b x v) g) (made (cond u (judged_entry rule b x v) (clamped b x)) (draw_of g).after)).out)
    go true u = judged
    go false true = judged
    go false false = clamped-fits b x s (within-number (4 * most) x (small-entry x p))
