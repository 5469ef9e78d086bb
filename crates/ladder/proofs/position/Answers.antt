-- `position` meets its contract: the clamped entry is no number past a u64.
use Rattle.std.proofs.Common.{◌≡◌, ap, ap₂, ◌∙◌, arith}
use Rattle.std.specs.Float.Ieee.{of_int}
use Rattle.rounding.specs.Clamp.{clamp_of}
use Rattle.rounding.specs.Round.{whole_size}
use Rattle.ladder.specs.Inner.{position_of}
use Rattle.ladder.proofs.Positions.{position-few}
use Rattle.ladder.proofs.position.Goals as goal

pub returns : goal.returns
unfolding position_of of_int
returns c =
    let a = c.args in
    let size = whole_size c.clamp.result in
    let is : size ≡ position_of a.value a.from a.to = ap whole_size (c.clamp.ensures ∙ ap₂ (clamp_of a.value) c.nearest_u64_to_f64-low.ensures c.nearest_u64_to_f64-high.ensures) in
    let few = position-few a.value a.from a.to c.requires.0 c.requires.1 in
    c.whole_size.ensures ∙ omega (arith, is, few)
