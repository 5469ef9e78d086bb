-- `finalize_discovery` meets its contract: the calls' results put together. Assumes nothing.
use Rattle.std.proofs.Common.{ap, ◌∙◌, arith}
use Rattle.rng_util.specs.declared.Gen.{Gen}
use Rattle.assignment.specs.Raw.{raw_begin}
use Rattle.assignment.proofs.Laws.{space-is, space-fits}
use Rattle.assignment.proofs.BeginLaws.{size_few, begun-so}
use Rattle.assignment.proofs.discovery.finalize_discovery.Goals as goal

pub population_size-n-requires : goal.population_size-n-requires
population_size-n-requires c = (space-fits c.args.state.now c.requires.few_dims _ c.dims.ensures _ c.search_space-space.ensures).0

pub generate_initial_population-state-requires : goal.generate_initial_population-state-requires
generate_initial_population-state-requires c =
    let p = c.requires in
    let is = space-is c.args.state.now p.few_dims _ c.dims.ensures _ c.search_space-space.ensures in
    let h = space-fits c.args.state.now p.few_dims _ c.dims.ensures _ c.search_space-space.ensures in
    (size_few c.args.state.now _ _ is c.population_size-n.ensures p.few_slots, h.0, h.1, omega (arith, ap (λ (g : Gen). g.draws) c.new-rng.ensures))

pub returns : goal.returns
returns c =
    let p = c.requires in
    let is = space-is c.args.state.now p.few_dims _ c.dims.ensures _ c.search_space-space.ensures in
    begun-so c.args.state.now _ _ is c.population_size-n.ensures _ _ _ c.generate_initial_population-state.ensures
    ∙ ap (raw_begin c.args.state.now) c.new-rng.ensures
