-- `has_words` meets its contract: the front and the rest decide.
use Rattle.std.proofs.Common.{refl, sym, ◌∙◌, eqb, rules, tests}
use Rattle.std.proofs.lemmas.Iterator.{YieldsList-from_slice}
use Rattle.std.proofs.lemmas.Iterator.Search.{all_from_yields_List}
use Rattle.records.proofs.Comparing.{words_are}
use Rattle.records.proofs.Table.has_words.Goals as goal

pub returns-then-eq : goal.returns-then-eq
returns-then-eq c =
    let zeros = all_from_yields_List (λ w. eqb w 0) _ _ c.all.result c.all.ensures.ran (YieldsList-from_slice c.split_at.result.1.now cc) (λ x b q k. search (rules, tests)) in
    words_are _ _ _ _ _ _ (search rules) c.requires c.split_at.ensures.front c.split_at.ensures.back (sym c.if-eq.true ∙ c.eq.ensures) zeros

pub returns-else-eq : goal.returns-else-eq
returns-else-eq c = c.if-eq.false ∙ words_are _ _ _ _ _ _ (search rules) c.requires c.split_at.ensures.front c.split_at.ensures.back (sym c.if-eq.false ∙ c.eq.ensures) refl
