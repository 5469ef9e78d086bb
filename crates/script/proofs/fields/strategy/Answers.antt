-- The longest keyword, whose bytes are compared one by one.
use Rattle.std.proofs.Common.{◌≡◌, codes, arith, rules}
use Rattle.std.proofs.lemmas.Slice.Eq.{text_from_reads}
use Rattle.script.specs.Fields.{strategy_of}
use Rattle.script.proofs.fields.strategy.Goals as goal

pub returns-in-99 : goal.returns-in-99
unfolding strategy_of
returns-in-99 c =
    let e : c.args.word.now ≡ codes "current-to-best1" = text_from_reads _ _ (omega arith) (search rules) in
    rw e
