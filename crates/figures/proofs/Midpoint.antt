-- The table of request W7's figures holds, jointly: each by computation.
use mathlib.Core.Path.{refl}
use lib.Ieee.{add, mul, div, lt, of_int}
use Rattle.rng_util.specs.Draws.{unit_of}
use Rattle.rng_util.specs.Gen.{draw_of}
use Rattle.rng_util.specs.SplitMix.{drawn}
use Rattle.rounding.specs.Clamp.{clamp_of}
use Rattle.evolution.specs.Cross.{halfway, drawn_in, cross_entry}
use Rattle.figures.specs.Leaves.{dec, minus}
use Rattle.figures.specs.Midpoint.{tiny, Half, Beyond, Within, Clamped, Subnormal, Large, UnderClamp, Crossed}

pub midpoint : Half × Beyond × Within × Clamped × Subnormal × Large × UnderClamp × Crossed
unfolding unit_of draw_of drawn add mul div lt of_int clamp_of halfway drawn_in cross_entry dec minus tiny
midpoint = (refl, (refl, refl), λ x. (refl, refl), (refl, refl), (refl, refl), (refl, refl, refl), λ x. refl, λ v g. (refl, refl))
