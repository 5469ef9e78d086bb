-- `results_of` meets its contract: the two lists are the same place by place.
use Rattle.std.proofs.Common.{rules, ◌≡◌, sym, ◌∙◌, arith, length, get_or}
use Rattle.std.specs.Prelude.{None, unwrap_or, Option, Float}
use Rattle.std.proofs.lemmas.List.{ext_get_or, length-map, get_or-map}
use Rattle.common.specs.Bounds.{zero_f}
use Rattle.de.proofs.sample.results_of.Goals as goal

pub returns : goal.returns
returns c =
    let vs = c.args.values.now in
    let each = c.map.ensures.items in
    let long : length vs ≡ 160 = search rules in
    ext_get_or zero_f _ _ (each.long ∙ sym long ∙ sym (length-map vs (λ (v : Option Float). unwrap_or v zero_f))) (λ i h.
    let called = (each.at i None zero_f (omega (arith, each.long))).2 in
    let is : get_or c.map.result i zero_f ≡ unwrap_or (get_or vs i None) zero_f = search rules in
    is ∙ sym (get_or-map (λ (v : Option Float). unwrap_or v zero_f) vs i None zero_f (omega (arith, each.long))))
