-- The laws of `Saving`, the array having room for 81,920 bytes.
use Rattle.std.proofs.Common.{◌≡◌, Ok, Err, length, sym, ap, ◌∙◌, arith}
use Rattle.saved.specs.Save.{save_of}
use Rattle.asked.proofs.Saving.{saved, unsaved}
use Rattle.asked.proofs.session.save_to.Goals as goal

pub returns-in_err-length-clause-after : goal.returns-in_err-length-clause-after
returns-in_err-length-clause-after c =
    let s = c.args.state.now in
    let f = c.file.inside.items in
    let why = c.in_err-length.field-0.0 in
    let e : save_of s (length f) ≡ Err why = sym c.save.ensures.0 ∙ c.in_err-length.was in
    let k : save_of s 81920 ≡ Err why = sym (ap (save_of s) c.file.told) ∙ e in
    rw (k, c.save.ensures.1, unsaved s f why e) c.file.view_is

pub invariant_of-file-2 : goal.invariant_of-file-2
invariant_of-file-2 c =
    let s = c.args.state.now in
    let f = c.file.inside.items in
    omega (arith, saved s f c.in_ok-length.length (sym c.save.ensures.0 ∙ c.in_ok-length.was), c.file.told)

pub returns-clause-after : goal.returns-clause-after
returns-clause-after c =
    let s = c.args.state.now in
    let f = c.file.inside.items in
    let n = c.in_ok-length.length in
    let e : save_of s (length f) ≡ Ok n = sym c.save.ensures.0 ∙ c.in_ok-length.was in
    let k : save_of s 81920 ≡ Ok n = sym (ap (save_of s) c.file.told) ∙ e in
    rw (k, c.save.ensures.1) (saved s f n e).1
