-- `close` meets its contract: the results of its calls, put together (`closed-so`). Assumes nothing.
use Rattle.std.proofs.Common.{◌≡◌, ◌≤◌, ap, ◌∙◌, arith, rules, List, length, take, length-take, length-take-le}
use Rattle.distribution.specs.declared.DimensionInfo.{DimensionInfo}
use Rattle.rng_util.specs.declared.Gen.{Gen}
use Rattle.candidates.specs.Space.{space_of}
use Rattle.candidates.proofs.Passed.{space-few, space-dims}
use Rattle.closing.specs.Raw.{raw_close}
use Rattle.closing.proofs.Made.{best-fits, closed-so}
use Rattle.closing.proofs.close.Goals as goal

pub next_candidates-state-requires : goal.next_candidates-state-requires
next_candidates-state-requires c =
    let s = c.args.state.now in
    let p = c.requires.0 in
    let b = c.settle-best.ensures in
    let long : s.n ≤ length c.settle-best.result.parents = search rules in
    let many : length (take s.n c.settle-best.result.parents) ≡ s.n = length-take-le _ _ long in
    let few : length c.dims.result.now ≤ 16 = omega (arith, ap (λ (l : List DimensionInfo). length l) c.dims.ensures, length-take s.n_dims s.dims) in
    record {
      slots = (omega arith, omega arith, omega (arith, best-fits s c.args.results.now _ b.whole b.first p.enough long));
      dims = (space-few _ _ few c.search_space-space.ensures, space-dims _ _ few c.search_space-space.ensures);
      draws = omega (arith, ap (λ (g : Gen). g.draws) c.new-rng.ensures);
    }

pub returns : goal.returns
returns c =
    let b = c.settle-best.ensures in
    rw c.blank-state.ensures
    (closed-so c.args.state.now c.args.results.now _ b.whole b.first _ (c.search_space-space.ensures ∙ ap space_of c.dims.ensures) _ _ _ c.next_candidates-state.ensures
    ∙ ap (raw_close c.args.state.now c.args.results.now) c.new-rng.ensures)
