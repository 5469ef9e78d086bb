-- `choices_fit` meets its contract: f says whether all choices so far are below their limits, and what is left of both lists decides with it.
use Rattle.std.proofs.Common.{◌≡◌, ◌&&◌, length}
use Rattle.std.specs.Iterator.Adapters.{zip_first, zip_second}
use Rattle.std.specs.Slice.Iter.{iter_rest}
use Rattle.state.specs.Places.{choices_below}
use Rattle.state.proofs.places.choices_fit.Given as goal

abbrev pub invariant-loop-choice : goal.invariant-loop-choice
invariant-loop-choice l =
    let cs = iter_rest (zip_first l.choice-iterator) in
    let ls = iter_rest (zip_second l.choice-iterator) in
    (length cs ≡ length ls) × (choices_below l.choices l.limits ≡ (l.fit && choices_below cs ls))
