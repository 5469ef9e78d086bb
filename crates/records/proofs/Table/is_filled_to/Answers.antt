-- `is_filled_to` meets its contract: the front and the rest decide.
use Rattle.std.proofs.Common.{refl, sym, ◌∙◌, not, rules, tests}
use Rattle.std.proofs.lemmas.Iterator.{YieldsList-from_slice}
use Rattle.std.proofs.lemmas.Iterator.Search.{all_from_yields_List}
use Rattle.records.proofs.Comparing.{flags_are}
use Rattle.records.proofs.Table.is_filled_to.Goals as goal

pub returns-then-all : goal.returns-then-all
returns-then-all c =
    let front = all_from_yields_List (λ b. b) _ _ c.all.result c.all.ensures.ran (YieldsList-from_slice c.split_at.result.0.now cc) (λ x b q k. search (rules, tests)) in
    let rest = all_from_yields_List not _ _ c.all-then-all.result c.all-then-all.ensures.ran (YieldsList-from_slice c.split_at.result.1.now cc) (λ x b q k. search (rules, tests)) in
    flags_are _ _ _ _ _ _ (search rules) c.requires c.split_at.ensures.front c.split_at.ensures.back (sym c.if-all.true ∙ front) rest

pub returns-else-all : goal.returns-else-all
returns-else-all c =
    let front = all_from_yields_List (λ b. b) _ _ c.all.result c.all.ensures.ran (YieldsList-from_slice c.split_at.result.0.now cc) (λ x b q k. search (rules, tests)) in
    c.if-all.false ∙ flags_are _ _ _ _ _ _ (search rules) c.requires c.split_at.ensures.front c.split_at.ensures.back (sym c.if-all.false ∙ front) refl
