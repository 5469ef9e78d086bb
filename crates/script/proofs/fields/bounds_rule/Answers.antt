-- The longer keyword, whose bytes are compared one by one.
use Rattle.std.proofs.Common.{◌≡◌, codes, arith, rules}
use Rattle.std.proofs.lemmas.Slice.Eq.{text_from_reads}
use Rattle.script.specs.Fields.{rule_of}
use Rattle.script.proofs.fields.bounds_rule.Goals as goal

pub returns-in-midpoint : goal.returns-in-midpoint
unfolding rule_of
returns-in-midpoint c =
    let e : c.args.word.now ≡ codes "midpoint" = text_from_reads _ _ (omega arith) (search rules) in
    rw e
