use Rattle.std.proofs.Common.{◌≡◌, ℕ, List, [], Option, Some, None, option_map, unwrap_or, refl, ap, ◌∙◌, eqb, rules, tests, Bor}
use Rattle.std.proofs.lemmas.Iterator.Consumers.{nth_from_yields_List}
use Rattle.std.proofs.lemmas.Iterator.Splits.{YieldsList-from_slice_split}
use Rattle.std.proofs.lemmas.Option.{unwrap_or-slice_get}
use Rattle.script.specs.Words.{words_of, word_at}
use Rattle.script.proofs.words.word.Goals as goal

now_or : (r : Option (Bor (List ℕ))) (e : Bor (List ℕ)) → (unwrap_or r e).now ≡ unwrap_or (option_map (λ w. w.now) r) e.now
now_or None e = refl
now_or (Some w) e = refl

pub returns : goal.returns
unfolding words_of word_at
returns c =
    let got = nth_from_yields_List c.nth.result _ c.args.k c.nth.ensures.ran
    (YieldsList-from_slice_split _ (λ b. eqb b 32) c.args.line.now c.split.ensures.rest c.split.ensures.done c.split.ensures.closure (λ x b q k. search (rules, tests))) in
    ap (λ (w : Bor (List ℕ)). w.now) c.unwrap_or.ensures ∙ now_or c.nth.result _ ∙ ap (λ (o : Option (List ℕ)). unwrap_or o []) got ∙ unwrap_or-slice_get _ c.args.k []
