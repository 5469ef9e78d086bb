-- The figures of request W9 hold, jointly. R and the inner bounds are found by their rule (ladder/proofs/Found), all else by computation.
use Rattle.std.specs.Prelude.{Float}
use mathlib.Core.Path.{◌≡◌, refl, ap, ◌∙◌}
use mathlib.Core.List.{[], ◌∷◌}
use Prim.Native.Nat.{ℕ}
use lib.IntN.{ℤ, pos}
use lib.Dec.{lit<, lit≤}
use lib.Ieee.{binary64, lt, of_int}
use Rattle.rng_util.specs.Draws.{i64_of}
use Rattle.rounding.specs.Clamp.{clamp_of}
use Rattle.rounding.specs.Round.{whole_size}
use Rattle.ladder.specs.Inner.{inner_low, inner_high, position_of}
use Rattle.ladder.specs.Rungs.{rung}
use Rattle.ladder.proofs.Found.{is, between}
use Rattle.ladder.proofs.Inner.{low-1, high-1}
use Rattle.common.specs.FromInternal.{clamp_z, from_ladder, from_int}
use Rattle.common.specs.Random.{random_ladder, random_int}
use Rattle.figures.specs.Leaves.{dec, minus}
use Rattle.figures.specs.Ladder.{ladder, Rungs, InnerBounds, Rounded, Clamped, Drawn}

-- an entry's setting, by the inner bounds, its position between them and R there
setting : (low high a b p r : ℕ) (v : Float) → inner_low (pos low) ≡ a → inner_high (pos high) ≡ b → position_of v a b ≡ p → rung p ≡ r
    → from_int v (ladder low high) ≡ clamp_z (pos r) (pos low) (pos high)
unfolding ladder from_int from_ladder
setting low high a b p r v e f g h =
    ap (λ (k : ℕ). clamp_z (pos (rung k)) (pos low) (pos high)) ((λ i. position_of v (e i) (f i)) ∙ g) ∙ ap (λ (k : ℕ). clamp_z (pos k) (pos low) (pos high)) h

-- ---- R, and the inner bounds

rungs : Rungs
rungs = λ i. is 0 1 tt tt i ∷ is 255 1 tt tt i ∷ is 256 2 tt tt i ∷ is 405 2 tt tt i ∷ is 406 3 tt tt i ∷ is 511 3 tt tt i ∷ is 512 4 tt tt i ∷ is 7936 2147483648 tt tt i ∷ []

low-of-1 : inner_low (pos 1) ≡ 0
low-of-1 = low-1 (pos 1) (record { le = tt })

high-of-1 : inner_high (pos 1) ≡ 0
high-of-1 = high-1 (pos 1) (record { le = tt })

of-2 : (inner_low (pos 2) ≡ 255) × (inner_high (pos 2) ≡ 256)
of-2 = between 2 255 1 2 (is 255 1 tt tt) (is 256 2 tt tt) (lit≤ tt) (lit< tt) (lit≤ tt) (lit< tt) (lit≤ tt)

of-5 : (inner_low (pos 5) ≡ 594) × (inner_high (pos 5) ≡ 595)
of-5 = between 5 594 4 5 (is 594 4 tt tt) (is 595 5 tt tt) (lit≤ tt) (lit< tt) (lit≤ tt) (lit< tt) (lit≤ tt)

of-60 : (inner_low (pos 60) ≡ 1512) × (inner_high (pos 60) ≡ 1513)
of-60 = between 60 1512 59 60 (is 1512 59 tt tt) (is 1513 60 tt tt) (lit≤ tt) (lit< tt) (lit≤ tt) (lit< tt) (lit≤ tt)

of-64 : (inner_low (pos 64) ≡ 1535) × (inner_high (pos 64) ≡ 1536)
of-64 = between 64 1535 63 64 (is 1535 63 tt tt) (is 1536 64 tt tt) (lit≤ tt) (lit< tt) (lit≤ tt) (lit< tt) (lit≤ tt)

inner_bounds : InnerBounds
inner_bounds = (λ i. low-of-1 i ∷ of-2.0 i ∷ of-5.0 i ∷ [], λ i. high-of-1 i ∷ of-2.1 i ∷ of-60.1 i ∷ of-64.1 i ∷ [])

-- ---- settings

-- of 1 .. 64
wide : (p r : ℕ) (v : Float) → position_of v 0 1536 ≡ p → rung p ≡ r → from_int v (ladder 1 64) ≡ clamp_z (pos r) (pos 1) (pos 64)
wide p r v g h = setting 1 64 0 1536 p r v low-of-1 of-64.1 g h

rounded : Rounded
unfolding position_of clamp_of whole_size of_int lt dec clamp_z
rounded = λ i. wide 0 1 (dec 0 0) refl (is 0 1 tt tt) i ∷ wide 405 2 (dec 40549 2) refl (is 405 2 tt tt) i ∷ wide 406 3 (dec 4055 1) refl (is 406 3 tt tt) i ∷ wide 595 5 (dec 5945 1) refl (is 595 5 tt tt) i ∷ wide 1536 64 (dec 1536 0) refl (is 1536 64 tt tt) i ∷ []

-- of 5 .. 60
narrow : (p r : ℕ) (v : Float) → position_of v 594 1513 ≡ p → rung p ≡ r → from_int v (ladder 5 60) ≡ clamp_z (pos r) (pos 5) (pos 60)
narrow p r v g h = setting 5 60 594 1513 p r v of-5.0 of-60.1 g h

clamped : Clamped
unfolding position_of clamp_of whole_size of_int lt dec minus clamp_z
clamped =
    λ i. narrow 594 4 (minus 700 0) refl (is 594 4 tt tt) i ∷ narrow 594 4 (dec 594 0) refl (is 594 4 tt tt) i ∷ narrow 595 5 (dec 595 0) refl (is 595 5 tt tt) i
    ∷ narrow 1513 60 (dec 1513 0) refl (is 1513 60 tt tt) i ∷ narrow 1513 60 (dec 9999 0) refl (is 1513 60 tt tt) i ∷ []

-- ---- draws of 1 .. 64

drawn-at : (output p r : ℕ) → i64_of output (pos 0) (pos 1536) ≡ pos p → position_of (of_int binary64 (pos p)) 0 1536 ≡ p → rung p ≡ r
    → random_int (ladder 1 64) output ≡ clamp_z (pos r) (pos 1) (pos 64)
unfolding ladder random_int random_ladder from_int
drawn-at output p r e g h =
    let v : ℤ → Float = λ z. of_int binary64 z in
    (λ i. from_int (v (i64_of output (pos (low-of-1 i)) (pos (of-64.1 i)))) (ladder 1 64)) ∙ ap (λ (z : ℤ). from_int (v z) (ladder 1 64)) e ∙ wide p r (v (pos p)) g h

drawn : Drawn
unfolding position_of clamp_of whole_size of_int lt clamp_z
drawn =
    λ i. drawn-at 0 0 1 refl refl (is 0 1 tt tt) i ∷ drawn-at 405 405 2 refl refl (is 405 2 tt tt) i ∷ drawn-at 406 406 3 refl refl (is 406 3 tt tt) i
    ∷ drawn-at 1536 1536 64 refl refl (is 1536 64 tt tt) i ∷ drawn-at 1537 0 1 refl refl (is 0 1 tt tt) i ∷ []

pub ladders : Rungs × InnerBounds × Rounded × Clamped × Drawn
ladders = (rungs, inner_bounds, rounded, clamped, drawn)
