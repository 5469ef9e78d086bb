use Rattle.std.proofs.Common.{refl, arith}
use borrow.Author.Rules.{rules}
use Rattle.candidates.specs.Space.{continuous_dims}
use Rattle.candidates.proofs.Passed.{count_fits, passed-few, passed-yes, passed-no, passed-all}
use Rattle.candidates.proofs.search_space.Goals as goal
use Rattle.candidates.proofs.search_space.Goals.{then-is_continuous, else-is_continuous}

pub loop-i-init : goal.loop-i-init
unfolding continuous_dims
loop-i-init c = record { counted = refl; kept = rw c.none-bounds.ensures refl; continuous = refl }

pub overflow_cast-counts : goal.overflow_cast-counts
overflow_cast-counts c = omega (arith, count_fits c.args.dims.now c.loop-i.i _ _ c.requires.1 (search rules) c.choices.ensures)

pub offset_bounds-bounds-n : goal.offset_bounds-bounds-n
offset_bounds-bounds-n c = omega (arith, passed-few _ _ _ _ _ (search rules) c.loop-i.invariant)

pub bounds-bounds-n : goal.bounds-bounds-n
bounds-bounds-n c = omega (arith, passed-few _ _ _ _ _ (search rules) c.loop-i.invariant)

pub overflow_add-n : goal.overflow_add-n
overflow_add-n c = omega (arith, passed-few _ _ _ _ _ (search rules) c.loop-i.invariant)

pub loop-i-preserved : goal.loop-i-preserved
loop-i-preserved c =
    elim c.if-is_continuous.branch [
      | then-is_continuous w ↦ rw (w.bounds-is, w.n-is) (passed-yes _ c.requires.0 _ _ (search rules) _ _ _ c.loop-i.invariant _ c.choices.ensures _ _ c.is_continuous.ensures w.if-is_continuous.true w.internal_bounds.ensures)
      | else-is_continuous w ↦ rw (w.bounds-is, w.n-is) (passed-no _ c.requires.0 _ _ (search rules) _ _ _ c.loop-i.invariant _ c.choices.ensures _ c.is_continuous.ensures w.if-is_continuous.false)
    ]

pub returns : goal.returns
returns c = passed-all _ _ _ _ _ (search rules) c.loop-i.invariant
