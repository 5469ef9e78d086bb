use Rattle.std.proofs.Common.{sym, ◌∙◌, arith}
use Rattle.rng_util.proofs.Parts.{drew-one}
use Rattle.evolution.proofs.Free.{select_yes, select_no, select-end}
use Rattle.evolution.proofs.select.select_random_index.Goals as goal

pub returns-then-is_free : goal.returns-then-is_free
returns-then-is_free c =
    let l = c.loop in
    sym (l.invariant.rest_decides ∙ select_yes c.args.n c.args.taken.now l.counter l.rng _ _ _ _ (omega arith) c.draw.ensures c.usize_below-i.ensures c.is_free.ensures c.if-is_free.true)

pub loop-preserved : goal.loop-preserved
loop-preserved c =
    let l = c.loop in
    record {
      drawn = omega (arith, drew-one _ _ _ c.draw.ensures);
      rest_decides = l.invariant.rest_decides ∙ select_no c.args.n c.args.taken.now l.counter l.rng _ _ _ _ (omega arith) c.draw.ensures c.usize_below-i.ensures c.is_free.ensures c.if-is_free.false;
    }

pub returns : goal.returns
returns c =
    let l = c.loop in
    sym (l.invariant.rest_decides ∙ select-end c.args.n c.args.taken.now l.counter l.rng _ (omega arith) c.lowest_free.ensures)
