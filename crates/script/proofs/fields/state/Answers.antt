-- The keywords, whose bytes are compared one by one.
use Rattle.std.proofs.Common.{◌≡◌, codes, arith, rules}
use Rattle.std.proofs.lemmas.Slice.Eq.{text_from_reads}
use Rattle.script.specs.Fields.{state_of}
use Rattle.script.proofs.fields.state.Goals as goal

pub returns-in-complete : goal.returns-in-complete
unfolding state_of
returns-in-complete c =
    let e : c.args.word.now ≡ codes "complete" = text_from_reads _ _ (omega arith) (search rules) in
    rw e

pub returns-in-pruned : goal.returns-in-pruned
unfolding state_of
returns-in-pruned c =
    let e : c.args.word.now ≡ codes "pruned" = text_from_reads _ _ (omega arith) (search rules) in
    rw e

pub returns-in-failed : goal.returns-in-failed
unfolding state_of
returns-in-failed c =
    let e : c.args.word.now ≡ codes "failed" = text_from_reads _ _ (omega arith) (search rules) in
    rw e
