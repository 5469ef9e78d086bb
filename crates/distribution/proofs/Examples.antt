-- Document 01's small inputs and the table's limits, on both sides: all by computation.
use Rattle.std.specs.Prelude.{Option, Some, None}
use mathlib.Core.Path.{◌≡◌, refl}
use mathlib.Core.Bool.{Bool, true, false}
use mathlib.Core.List.{[], ◌∷◌, map}
use Prim.Native.Nat.{ℕ, ◌+◌, ◌^◌}
use lib.IntN.{ℤ, pos, negsuc}
use lib.Ieee.{Float, nan, inf, binary64, round, neg, of_bits, to_bits}
use Rattle.distribution.specs.declared.Distribution.{Distribution}
use Rattle.distribution.specs.declared.Distribution.TheVariants.{Float as FloatD, Int as IntD, Categorical}
use Rattle.distribution.specs.Validate.{float_limit, quotient_limit, verdict_of, judged}

abbrev floats : Float → Float → Bool → Option Float → Distribution
floats low high log step = FloatD (record { low = low; high = high; log_scale = log; step = step })

abbrev ints : ℤ → ℤ → Bool → Option ℤ → Distribution
ints low high log step = IntD (record { low = low; high = high; log_scale = log; step = step })

abbrev choices : ℕ → Distribution
choices n = Categorical (record { n_choices = n })

-- the double that the decimal n / 10 ^ k reads as
unfoldable pub dec : ℕ → ℕ → Float
unfolding round
dec n k = round binary64 false n (10 ^ k)

-- the next double up from a positive one
unfoldable pub next : Float → Float
unfolding to_bits of_bits
next x = of_bits binary64 (to_bits binary64 x + 1)

-- the table's column "Small input"
pub small-inputs :
    map judged
    (ints (pos 3) (pos 2) false None
    ∷ floats (dec 1 0) (dec 10 0) true None
    ∷ ints (pos 1) (pos 9) false (Some (pos 0))
    ∷ choices 0
    ∷ [])
    ≡ Some 4 ∷ Some 5 ∷ Some 6 ∷ Some 7 ∷ []
unfolding verdict_of dec
small-inputs = refl

-- row 4, Float: 1e300 passes either way, the next double does not; low may equal high, zeros of either sign are equal
pub float-bounds :
    map (λ (b : Float × Float). judged (floats b.0 b.1 false None))
    ((neg float_limit, float_limit)
    ∷ (dec 1 0, next float_limit)
    ∷ (neg (next float_limit), dec 1 0)
    ∷ (dec 1 0, dec 1 0)
    ∷ (dec 0 0, neg (dec 0 0))
    ∷ (dec 11 1, dec 1 0)
    ∷ (nan, dec 1 0)
    ∷ (dec 1 0, nan)
    ∷ (inf true, dec 1 0)
    ∷ (dec 1 0, inf false)
    ∷ [])
    ≡ None ∷ Some 4 ∷ Some 4 ∷ None ∷ None ∷ Some 4 ∷ Some 4 ∷ Some 4 ∷ Some 4 ∷ Some 4 ∷ []
unfolding verdict_of float_limit neg dec next
float-bounds = refl

-- row 4, Int: 2^53 passes either way, and no more
pub int-bounds :
    map (λ (b : ℤ × ℤ). judged (ints b.0 b.1 false None))
    ((negsuc 9007199254740991, pos 9007199254740992)
    ∷ (pos 0, pos 9007199254740993)
    ∷ (negsuc 9007199254740992, pos 0)
    ∷ (negsuc 4, negsuc 4)
    ∷ (negsuc 3, negsuc 4)
    ∷ [])
    ≡ None ∷ Some 4 ∷ Some 4 ∷ None ∷ Some 4 ∷ []
unfolding verdict_of
int-bounds = refl

-- row 5 (02, W9), Int with the log flag: 1 to 2,147,483,648 without a step passes, and nothing outside; low above high is 4, over 2^53 too
pub ladders :
    map (λ (b : ℤ × ℤ × Option ℤ). judged (ints b.0 b.1 true b.2))
    ((pos 1, pos 2147483648, None)
    ∷ (pos 7, pos 7, None)
    ∷ (pos 0, pos 9, None)
    ∷ (negsuc 0, pos 9, None)
    ∷ (pos 1, pos 2147483649, None)
    ∷ (pos 1, pos 9, Some (pos 1))
    ∷ (pos 1, pos 9, Some (pos 0))
    ∷ (pos 3, pos 2, None)
    ∷ (pos 1, pos 9007199254740993, None)
    ∷ [])
    ≡ None ∷ None ∷ Some 5 ∷ Some 5 ∷ Some 5 ∷ Some 5 ∷ Some 5 ∷ Some 4 ∷ Some 4 ∷ []
unfolding verdict_of
ladders = refl

-- row 6, Float, 0 .. 1: 0 of either sign, what is below it, NaN and the infinities fail
pub float-steps :
    map (λ (s : Float). judged (floats (dec 0 0) (dec 1 0) false (Some s)))
    (dec 25 2 ∷ dec 0 0 ∷ neg (dec 0 0) ∷ neg (dec 25 2) ∷ nan ∷ inf false ∷ inf true ∷ [])
    ≡ None ∷ Some 6 ∷ Some 6 ∷ Some 6 ∷ Some 6 ∷ Some 6 ∷ Some 6 ∷ []
unfolding verdict_of neg dec
float-steps = refl

-- row 6, Float: 4,294,967,295 steps pass, the next double does not. 1288490188.5 / 0.3 is more than that, and passes since the double
-- nearest to it is not
pub quotients :
    map (λ (b : Float × Float). judged (floats (dec 0 0) b.0 false (Some b.1)))
    ((quotient_limit, dec 1 0) ∷ (next quotient_limit, dec 1 0) ∷ (dec 12884901885 1, dec 3 1) ∷ [])
    ≡ None ∷ Some 6 ∷ None ∷ []
unfolding verdict_of quotient_limit dec next
quotients = refl

-- row 6, Int: from 1 to 2^53
pub int-steps :
    map (λ (s : ℤ). judged (ints (pos 1) (pos 9) false (Some s)))
    (pos 1 ∷ pos 9007199254740992 ∷ pos 9007199254740993 ∷ pos 0 ∷ negsuc 0 ∷ [])
    ≡ None ∷ None ∷ Some 6 ∷ Some 6 ∷ Some 6 ∷ []
unfolding verdict_of
int-steps = refl

-- row 7: from 1 to 65,535
pub choice-counts : map (λ (n : ℕ). judged (choices n)) (1 ∷ 65535 ∷ 65536 ∷ []) ≡ None ∷ None ∷ Some 7 ∷ []
unfolding verdict_of
choice-counts = refl

-- "The first that applies, in this order": 4 before 5 and 6, 5 before 6
pub first-applies :
    map judged
    (floats (dec 2 0) (dec 1 0) true (Some nan)
    ∷ floats (dec 1 0) (dec 2 0) true (Some nan)
    ∷ floats (dec 1 0) (dec 2 0) false (Some nan)
    ∷ ints (pos 3) (pos 2) true (Some (pos 0))
    ∷ ints (pos 2) (pos 3) true (Some (pos 0))
    ∷ ints (pos 2) (pos 3) false (Some (pos 0))
    ∷ [])
    ≡ Some 4 ∷ Some 5 ∷ Some 6 ∷ Some 4 ∷ Some 5 ∷ Some 6 ∷ []
unfolding verdict_of dec
first-applies = refl
