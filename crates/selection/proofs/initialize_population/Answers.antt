use Rattle.std.proofs.Common.{ap, ◌∙◌, length-append, arith}
use Rattle.std.proofs.lemmas.Slice.Zip.{length-zip}
use Rattle.std.proofs.lemmas.Iterator.{YieldsList-from_slice, YieldsList-from_zip}
use Rattle.std.proofs.lemmas.Iterator.Consumers.{YieldsList-from_enumerate, YieldsList-turn, YieldsList-end}
use Rattle.selection.specs.Records.{members_rec}
use Rattle.selection.proofs.Slots.{stored_one, slots-turn, slots-end, stored-zip}
use Rattle.selection.proofs.initialize_population.Goals as goal

pub bounds-population-i : goal.bounds-population-i
bounds-population-i c =
    let it = c.into_iter-i-iterator.result in
    let road = YieldsList-from_enumerate {s = it} (YieldsList-from_zip {s = it.iter} (YieldsList-from_slice c.args.candidates.now cc) (YieldsList-from_slice c.args.results.now cc)) cc in
    let turn = YieldsList-turn road c.loop-i.yielded c.loop-i.i-iterator c.loop-i.yielded_by c.next.result c.next.new.self (c.in-Some.i, (c.in-Some.candidate, c.in-Some.value)) c.in-Some.is c.next.ensures.steps in
    (slots-turn stored_one _ _ _ _ (omega (arith, length-zip c.args.candidates.now c.args.results.now)) turn c.loop-i.invariant).0

pub loop-i-preserved : goal.loop-i-preserved
loop-i-preserved c =
    let it = c.into_iter-i-iterator.result in
    let road = YieldsList-from_enumerate {s = it} (YieldsList-from_zip {s = it.iter} (YieldsList-from_slice c.args.candidates.now cc) (YieldsList-from_slice c.args.results.now cc)) cc in
    let turn = YieldsList-turn road c.loop-i.yielded c.loop-i.i-iterator c.loop-i.yielded_by c.next.result c.next.new.self (c.in-Some.i, (c.in-Some.candidate, c.in-Some.value)) c.in-Some.is c.next.ensures.steps in
    rw length-append ((slots-turn stored_one _ _ _ _ (omega (arith, length-zip c.args.candidates.now c.args.results.now)) turn c.loop-i.invariant).1)

pub returns : goal.returns
returns c =
    let it = c.into_iter-i-iterator.result in
    let road = YieldsList-from_enumerate {s = it} (YieldsList-from_zip {s = it.iter} (YieldsList-from_slice c.args.candidates.now cc) (YieldsList-from_slice c.args.results.now cc)) cc in
    let all = YieldsList-end road c.loop-i.yielded c.loop-i.i-iterator c.loop-i.yielded_by c.next.result c.next.new.self c.in-None.is c.next.ensures.steps in
    slots-end stored_one _ _ _ all.1 c.loop-i.invariant ∙ ap members_rec (stored-zip c.args.candidates.now c.args.results.now)
