use Rattle.std.proofs.Common.{refl, sym, ◌∙◌, arith}
use Rattle.records.proofs.Following.{past, ends, goes, spent}
use Rattle.records.proofs.chain.chain_length.Goals as goal

pub returns-then-count-k : goal.returns-then-count-k
returns-then-count-k c = sym (c.loop-met.invariant.1 ∙ past _ _ _ _ (omega arith))

pub returns-then-k-eq0 : goal.returns-then-k-eq0
returns-then-k-eq0 c = sym (c.loop-met.invariant.1 ∙ ends _ _ c.loop-met.k c.loop-met.met (omega arith) (omega arith) (sym c.next_at-k.ensures ∙ c.if-k-eq0.true))

pub loop-met-preserved : goal.loop-met-preserved
loop-met-preserved c = (refl, c.loop-met.invariant.1 ∙ goes _ _ c.loop-met.k c.loop-met.met (omega arith) (omega arith) _ c.next_at-k.ensures c.if-k-eq0.false)

pub returns : goal.returns
returns c = sym (c.loop-met.invariant.1 ∙ spent _ _ c.loop-met.k c.loop-met.met (omega arith))
