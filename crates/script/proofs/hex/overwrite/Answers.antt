use Rattle.std.proofs.Common.{get_or, ◌∙◌, arith}
use Rattle.script.proofs.Digits.{small, stored-none, stored-room, stored-more, stored-all}
use Rattle.script.proofs.hex.overwrite.Goals as goal

pub loop-k-init : goal.loop-k-init
loop-k-init c =
    let a = c.args in
    (stored-none a.hex.now a.file.now a.at _ _ c.requires (cc) (cc), cc)

pub overflow_add-file : goal.overflow_add-file
overflow_add-file c =
    let s = c.in-Some.pair.now in
    omega (arith, c.hex_digit.ensures, small (get_or s 0 0), c.hex_digit-in-loop-k.ensures, small (get_or s 1 0))

pub bounds-file-at : goal.bounds-file-at
bounds-file-at c =
    let a = c.args in
    let l = c.loop-k in
    let (read, same, more, fits) = c.in-Some.ensures.steps in
    omega (arith, same, stored-room a.hex.now a.file.now a.at _ _ _ l.invariant.0 c.in-Some.pair.now _ (read.1.1 ∙ l.invariant.1) read.1.0)

pub loop-k-preserved : goal.loop-k-preserved
loop-k-preserved c =
    let a = c.args in
    let l = c.loop-k in
    let (read, same, more, fits) = c.in-Some.ensures.steps in (
      stored-more a.hex.now a.file.now a.at _ _ _ l.invariant.0 c.in-Some.pair.now _ (read.1.1 ∙ l.invariant.1) read.1.0 _ _ _ _ c.hex_digit.ensures c.hex_digit-in-loop-k.ensures same more,
      read.0 ∙ l.invariant.1,
    )

pub returns : goal.returns
returns c =
    let a = c.args in
    let l = c.loop-k in
    stored-all a.hex.now a.file.now a.at _ _ _ l.invariant.0 (omega (arith, c.in-None.ensures.steps.0.1.0))
