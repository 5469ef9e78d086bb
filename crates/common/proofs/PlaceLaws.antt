-- Places of numbers in the range of an i64: the number at its place, and the last place.
use Rattle.std.proofs.Common.{◌≡◌, ◌+◌, ◌-◌, ◌^◌, ◌<◌, ◌≤◌, suc, ℤ, pos, negsuc, ap, arith, le-leb}
use lib.Signed.{mag}
use borrow.Author.Tests.{lt-leb}
use Rattle.common.specs.Places.{place_of, at_place}

-- the number at its place
pub at-place : (z : ℤ) → mag z < 2 ^ 63 → at_place (place_of z) ≡ z
at-place (pos n) h = simp (le-leb (2 ^ 63) (2 ^ 63 + n) (omega arith)) (ap pos (omega arith))
at-place (negsuc n) h = simp (lt-leb (2 ^ 63) (2 ^ 63 - suc n) (omega arith)) (ap negsuc (omega arith))

pub place-le : (z : ℤ) → mag z < 2 ^ 63 → place_of z ≤ 2 ^ 64 - 1
place-le (pos n) h = omega arith
place-le (negsuc n) h = omega arith
