-- Two limbs that are the same leave the answer as it is.
use Rattle.std.proofs.Common.{◌∙◌, sym, ap, length, arith, rules}
use Rattle.ladder_table.proofs.Order.{lowest-same}
use Rattle.ladder_table.proofs.number.at_most.Goals as goal

pub loop-x-preserved : goal.loop-x-preserved
loop-x-preserved c =
    let s = c.in-Some.ensures.steps in
    record {
      as_many = omega (arith, ap length s.0, ap length s.1);
      told = sym (lowest-same c.loop-x.answer _ _ _ _ _ _ s.0 s.1 (search rules) (search rules) c.if-x-y.false) ∙ c.loop-x.invariant.told;
    }
