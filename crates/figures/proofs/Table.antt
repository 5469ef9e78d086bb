-- The table of the starred bench figures holds, jointly: each by computation.
use mathlib.Core.Path.{refl}
use lib.Ieee.{add, sub, mul, le, lt}
use Rattle.rng_util.specs.Draws.{unit_of}
use Rattle.rounding.specs.Round.{round_away}
use Rattle.common.specs.FromInternal.{from_internal}
use Rattle.history.specs.Entry.{counted_value}
use Rattle.history.specs.History.{latest}
use Rattle.ledger.specs.Closing.{at_most, best_of, scan, store, select}
use Rattle.evolution.specs.Mutant.{mutant_entry}
use Rattle.selection.specs.Select.{survivor_of}
use Rattle.selection.specs.Best.{best_from, best_slot}
use Rattle.figures.specs.Leaves.{dec, minus, quarters, fours, twice, Units, Usize, Rounds, Range, Steps, History}
use Rattle.figures.specs.Evolution.{two_rows, Mutants, Stays, Closings, Bests, Sizes}

pub figures : Units × Usize × Rounds × Range × Steps × Mutants × Stays × Closings × Bests × Sizes × History
unfolding unit_of round_away add sub mul le lt from_internal latest counted_value mutant_entry survivor_of best_slot best_from best_of at_most scan store select dec minus quarters fours twice two_rows
figures =
    (refl, refl, refl, refl, (refl, refl), λ x b x3. (refl, refl), λ a b c d. (refl, refl), λ a b c d. (refl, refl), (refl, refl), (refl, λ n. refl), (refl, refl))
