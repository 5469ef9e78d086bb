-- The position of an entry: it is never past the bounds that it was clamped to, and a drawn position, as an entry, is its own.
use Rattle.std.proofs.Common.{◌≡◌, ℕ, zero, suc, ◌+◌, ◌*◌, ◌/◌, ◌^◌, ◌≤◌, ◌<◌, Bool, true, false, cond, T, pos, sym, refl, ap, ◌∙◌, subst, le_trans, lt_trans, lt_of_le_of_lt, zero-le, arith, ltb-false, le-ltb, true≢false, lit<, suc-mul, pow_pos, shl_lt}
use native.Mathlib.Nat.{mul_right_comm, mul_left_comm, mul-one, div-eq_of_lt, div-lt_iff_lt-mul, le_of_mul-le-mul_right, mul-pos}
use lib.Pow.{pow-lt}
use lib.Ieee.{Float, nan, inf, fin, binary64, up, down, lt, of_int}
use lib.Ieee.Exact.{HasValue, round_exact}
use lib.Ieee.Fits.{down_pos}
use lib.Ieee.Order.{transfer}
use Rattle.rounding.specs.Round.{nearest_whole, whole_size}
use Rattle.rounding.specs.Clamp.{clamp_of}
use Rattle.rounding.proofs.Nearest.{size-at, whole_is}
use Rattle.ladder.specs.Inner.{position_of}
use Rattle.ladder.proofs.Firsts.{high-bound}
use Rattle.ladder.proofs.Inner.{low-bound}

-- ---- a small whole number as a double is that number

pub small-value : (n : ℕ) → n ≤ 7936 → HasValue (of_int binary64 (pos n)) false n 1
unfolding of_int
small-value n h =
    let s : n < 2 ^ 53 = lt_of_le_of_lt h (lit< tt) in
    round_exact binary64 false n 1 n 1074 (pow_pos 0) s (lt_trans (shl_lt 53 1074 s) (pow-lt {i = 1127} {j = 2098} (lit< tt))) (sym (mul-one (n * 2 ^ 1074)))

small-size : (n : ℕ) → n ≤ 7936 → whole_size (of_int binary64 (pos n)) ≡ n
small-size n h = size-at (of_int binary64 (pos n)) false n 1 (pow_pos 0) (small-value n h) ∙ whole_is n

-- ---- what is not above a whole number n is not above it when rounded

nearest-most : (a c n : ℕ) → 0 < c → a ≤ n * c → nearest_whole a c ≤ n
nearest-most a c n p h =
    let wide : suc n * (2 * c) ≡ 2 * (n * c) + 2 * c = suc-mul n (2 * c) ∙ ap (λ (x : ℕ). x + 2 * c) (mul_left_comm n 2 c) in
    let below : (2 * a + c) / (2 * c) < suc n = (div-lt_iff_lt-mul {k = 2 * c} {x = 2 * a + c} {y = suc n} (omega arith)).1 (omega (arith, wide)) in
    omega (arith, below)

-- the entry a / c against the bound b / d, which is n
cross : (a c b d n : ℕ) → 0 < d → b * 1 ≡ n * d → a * d ≤ b * c → a ≤ n * c
cross a c b d n p e h =
    le_of_mul-le-mul_right {k = d} (subst (λ (x : ℕ). a * d ≤ x) (ap (λ (x : ℕ). x * c) (sym (mul-one b) ∙ e) ∙ mul_right_comm n d c) h) p

no-part : (a c : ℕ) → 0 < c → a ≡ 0 → nearest_whole a c ≡ 0
no-part a c p e = div-eq_of_lt (omega arith)

none-left : (a d b : ℕ) → 0 < d → a * d + b ≤ 0 → a ≡ 0
none-left zero d b p h = refl
none-left (suc a) d b p h = absurd (omega (arith, mul-pos {m = suc a} {n = d} (omega arith) p))

-- neither below a, which is k, nor above b, which is n
at-most : (v a b : Float) (k n : ℕ) → HasValue a false k 1 → HasValue b false n 1 → lt v a ≡ false → lt b v ≡ false → whole_size v ≤ n
unfolding lt whole_size
at-most nan a b k n wa wb e f = zero-le
at-most (inf false) a (fin t m x) k n wa wb e f = absurd (subst T f tt)
at-most (inf false) a nan k n wa wb e f = elim wb [ ]
at-most (inf false) a (inf _) k n wa wb e f = elim wb [ ]
at-most (inf true) (fin t m x) b k n wa wb e f = absurd (subst T e tt)
at-most (inf true) nan b k n wa wb e f = elim wa [ ]
at-most (inf true) (inf _) b k n wa wb e f = elim wa [ ]
at-most (fin false m x) a (fin false m' x') k n wa wb e f =
    nearest-most (m * up x) (down x) n (down_pos x) (cross (m * up x) (down x) (m' * up x') (down x') n (down_pos x') wb.1 (ltb-false _ _ f))
at-most (fin false m x) a (fin true m' x') k n wa wb e f = absurd (true≢false wb.0)
at-most (fin false m x) a nan k n wa wb e f = elim wb [ ]
at-most (fin false m x) a (inf _) k n wa wb e f = elim wb [ ]
at-most (fin true m x) (fin false m' x') b k n wa wb e f =
    let z = none-left (m * up x) (down x') (m' * up x' * down x) (down_pos x') (ltb-false _ _ e) in
    omega (arith, no-part (m * up x) (down x) (down_pos x) z)
at-most (fin true m x) (fin true m' x') b k n wa wb e f = absurd (true≢false wa.0)
at-most (fin true m x) nan b k n wa wb e f = elim wa [ ]
at-most (fin true m x) (inf _) b k n wa wb e f = elim wa [ ]

-- ---- positions

module _ (v : Float) (low high : ℕ) (l : low ≤ 7936) (h : high ≤ 7936) where
  abbrev a : Float
  a = of_int binary64 (pos low)

  abbrev b : Float
  b = of_int binary64 (pos high)

  pub position-bound : (n : ℕ) → low ≤ n → high ≤ n → position_of v low high ≤ n
  unfolding position_of clamp_of
  position-bound n p q = go (lt v a) refl
    where
      rest : (y : Bool) → lt v a ≡ false → lt b v ≡ y → whole_size (cond y b v) ≤ n
      rest true e f = omega (arith, small-size high h)
      rest false e f = le_trans (at-most v a b low high (small-value low l) (small-value high h) e f) q

      go : (x : Bool) → lt v a ≡ x → whole_size (cond x a (cond (lt b v) b v)) ≤ n
      go true e = omega (arith, small-size low l)
      go false e = rest (lt b v) e refl

pub position-few : (v : Float) (low high : ℕ) → low ≤ 7936 → high ≤ 7936 → position_of v low high ≤ 7936
position-few v low high l h = position-bound v low high l h 7936 l h

pub ruleset positions = (low-bound, high-bound, position-few)

-- two whole numbers as doubles, in order
in-order : (x y : Float) (m n : ℕ) → HasValue x false m 1 → HasValue y false n 1 → n ≤ m → lt x y ≡ false
unfolding lt
in-order (fin false c x) (fin false d y) m n wx wy h =
    le-ltb _ _ (transfer (d * up y) (c * up x) (down y) (down x) n m 1 1 (pow_pos 0) (pow_pos 0) wy.1 wx.1 (omega arith))
in-order (fin true c x) y m n wx wy h = absurd (true≢false wx.0)
in-order (fin false c x) (fin true d y) m n wx wy h = refl
in-order (fin false c x) nan m n wx wy h = elim wy [ ]
in-order (fin false c x) (inf _) m n wx wy h = elim wy [ ]
in-order nan y m n wx wy h = elim wx [ ]
in-order (inf _) y m n wx wy h = elim wx [ ]

pub own-position : (p low high : ℕ) → high ≤ 7936 → low ≤ p → p ≤ high → position_of (of_int binary64 (pos p)) low high ≡ p
unfolding position_of clamp_of
own-position p low high h l u =
    let is = small-value p (omega arith) in
    simp (
      in-order (of_int binary64 (pos p)) (of_int binary64 (pos low)) p low is (small-value low (omega arith)) l,
      in-order (of_int binary64 (pos high)) (of_int binary64 (pos p)) high p (small-value high h) is u,
    )
    (small-size p (omega arith))
