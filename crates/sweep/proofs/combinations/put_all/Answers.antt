use Rattle.std.proofs.Common.{◌≡◌, refl, arith}
use Rattle.sweep.proofs.Rows.{rows_to, rows-next}
use Rattle.sweep.proofs.combinations.put_all.Goals as goal

pub loop-i-preserved : goal.loop-i-preserved
loop-i-preserved c = rows-next c.args.axes.now c.args.out.now c.loop-i.out c.put.new.row c.loop-i.i _ c.loop-i.invariant refl c.put.ensures

pub returns : goal.returns
unfolding rows_to
returns c = let all : c.loop-i.i ≡ c.args.count = omega (arith, c.loop-i-test.false, c.loop-i.auto.i-end) in rw (c.loop-i.invariant, all) refl
