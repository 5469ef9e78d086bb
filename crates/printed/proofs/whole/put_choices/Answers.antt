use Rattle.std.proofs.Common.{ap}
use Rattle.std.specs.List.{flat_map}
use Rattle.std.proofs.Output.{has_written_of_eq}
use Rattle.std.proofs.lemmas.Iterator.{YieldsList-from_slice, YieldsList-from_zip}
use Rattle.std.proofs.lemmas.Iterator.Consumers.{YieldsList-from_enumerate, YieldsList-end}
use Rattle.printed.specs.Whole.{choice_text}
use Rattle.printed.proofs.whole.put_choices.Goals as goal

pub returns : goal.returns
returns g c = λ p o.
    let it = c.into_iter-i-iterator.result in
    let road = YieldsList-from_enumerate {s = it} (YieldsList-from_zip {s = it.iter} (YieldsList-from_slice c.args.dims.now cc) (YieldsList-from_slice c.args.choices.now cc)) cc in
    let all = YieldsList-end road c.loop-i.yielded c.loop-i.i-iterator c.loop-i.yielded_by c.next.result c.next.new.self c.in-None.is c.next.ensures.steps in
    has_written_of_eq _ _ _ _ _ (ap (flat_map choice_text) all.0) (c.loop-i.invariant p)
