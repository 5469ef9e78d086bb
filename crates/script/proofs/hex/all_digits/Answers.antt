use Rattle.std.proofs.Common.{is_some, ◌∙◌, rules, tests}
use Rattle.std.proofs.lemmas.Iterator.{YieldsList-from_slice}
use Rattle.std.proofs.lemmas.Iterator.Search.{all_from_yields_List}
use Rattle.numbers.specs.Numbers.{digit_of}
use Rattle.script.proofs.Digits.{all_are}
use Rattle.script.proofs.hex.all_digits.Goals as goal

pub returns : goal.returns
returns c =
    all_from_yields_List (λ b. is_some (digit_of b)) _ _ c.all.result c.all.ensures.ran (YieldsList-from_slice c.args.s.now cc) (λ x b q k. search (rules, tests))
    ∙ all_are c.args.s.now
