-- `places_fit` meets its contract: two sweeps, of the first `count` items and of the rest.
use Rattle.std.proofs.Common.{ap₂, Bool, ◌&&◌}
use Rattle.std.proofs.lemmas.List.{take_min, take_rest, drop_min}
use Rattle.state.specs.Places.{places_fit}
use Rattle.state.proofs.places.places_fit.Goals as goal

pub returns : goal.returns
unfolding places_fit
returns g c = λ p q h k.
    ap₂ (λ (a b : Bool). a && b)
    (simp (c.min-count.ensures, take_min) at (c.all_pass.ensures p h))
    (simp (c.min-count.ensures, drop_min) at (rw take_rest at (c.all_pass-2.ensures q k)))
