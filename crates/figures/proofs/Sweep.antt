-- The figures of request W10 hold, jointly: each by computation.
use mathlib.Core.Path.{refl}
use lib.Ieee.{lt}
use Rattle.distribution.specs.Validate.{verdict_of}
use Rattle.sweep.specs.Sweep.{values_of, combinations, first_verdict, is_unsweepable, is_too_many, counted, sweep_of, numbers_of, swept_in}
use Rattle.common.specs.FromInternal.{from_int}
use Rattle.figures.specs.Leaves.{dec}
use Rattle.figures.specs.Ladder.{ladder}
use Rattle.figures.specs.Sweep.{by_two, choice, pair, sevens, up_to, unit, reversed, log_with_step, still, Listed, HighLeftOut, InMemory, Unheld, AtMost, Unsweepables, DimensionsFirst}

pub sweeps : Listed × HighLeftOut × InMemory × Unheld × AtMost × Unsweepables × DimensionsFirst
unfolding values_of combinations first_verdict is_unsweepable is_too_many counted sweep_of numbers_of swept_in verdict_of from_int lt dec ladder by_two choice pair sevens up_to unit reversed log_with_step still
sweeps = (refl, (refl, refl), (refl, refl), (refl, refl), refl, refl, refl)
