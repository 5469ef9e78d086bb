-- `random_step` meets its contract: no number leaves the range, so the machine's numbers are the exact ones.
use Rattle.std.proofs.Common.{arith}
use Rattle.std.proofs.lemmas.Int.{ints, to_z-of_z}
use Rattle.common.specs.Random.{random_on_step}
use Rattle.common.proofs.Strides.{strides}
use Rattle.common.proofs.int.random_step.Goals as goal

pub i64_between-k-requires : goal.i64_between-k-requires
i64_between-k-requires c =
    let s = strides c.args.d.low c.args.d.high c.args.step c.args.output c.ranges.step c.requires.low_le_high c.requires.pos_bound in
    grind (arith, ints, to_z-of_z)

pub overflow_mul-result : goal.overflow_mul-result
overflow_mul-result c =
    let s = strides c.args.d.low c.args.d.high c.args.step c.args.output c.ranges.step c.requires.low_le_high c.requires.pos_bound in
    grind (arith, ints, to_z-of_z)

pub overflow_add-result : goal.overflow_add-result
overflow_add-result c =
    let s = strides c.args.d.low c.args.d.high c.args.step c.args.output c.ranges.step c.requires.low_le_high c.requires.pos_bound in
    grind (arith, ints, to_z-of_z)

pub returns : goal.returns
unfolding random_on_step
returns c =
    let s = strides c.args.d.low c.args.d.high c.args.step c.args.output c.ranges.step c.requires.low_le_high c.requires.pos_bound in
    grind (arith, ints, to_z-of_z)
