-- One pass over the words: the laws of `Line`.
use Rattle.std.proofs.Common.{◌≡◌, ℕ, ◌<◌, List, [], ◌∷◌, ◌++◌, Option, Some, None, Bor, length, map, eqb, ap, sym, ◌∙◌, length-set, rules, tests, arith}
use Rattle.std.specs.Iterator.{Yields}
use Rattle.std.proofs.lemmas.List.{length_push, take_more_set}
use Rattle.std.proofs.lemmas.Iterator.{YieldsList}
use Rattle.std.proofs.lemmas.Iterator.Consumers.{YieldsList-turn, YieldsList-end}
use Rattle.std.proofs.lemmas.Iterator.Splits.{YieldsList-from_slice_split}
use Rattle.script.specs.Words.{words_of}
use Rattle.script.specs.Commands.{line_of}
use Rattle.script.proofs.Line.{too_many}
use Rattle.script.proofs.command.ruled.Goals as goal

-- `YieldsList-turn` and `YieldsList-end`, with the steps known before the road
one_more : {S : Type 0} {steps : S → Option (Bor (List ℕ)) → S → Type 0} {s : S} {all : List (List ℕ)} (xs : List (Bor (List ℕ)))
    → (t u : S) (x : Bor (List ℕ)) (r : Option (Bor (List ℕ))) → Yields steps s xs t → r ≡ Some x → steps t r u
    → YieldsList steps (λ w. w.now) s all → length xs < length all
one_more xs t u x r y is p road = (YieldsList-turn road xs t y r u x is p).0

no_more : {S : Type 0} {steps : S → Option (Bor (List ℕ)) → S → Type 0} {s : S} {all : List (List ℕ)} (xs : List (Bor (List ℕ)))
    → (t u : S) (r : Option (Bor (List ℕ))) → Yields steps s xs t → r ≡ None → steps t r u
    → YieldsList steps (λ w. w.now) s all → map (λ w. w.now) xs ≡ all
no_more xs t u r y is p road = (YieldsList-end road xs t y r u is p).0

pub returns-then-n-eq7 : goal.returns-then-n-eq7
unfolding words_of
returns-then-n-eq7 c =
    let l = c.loop-word in
    let one = one_more l.yielded _ _ c.in-Some.word _ l.yielded_by c.in-Some.is c.next.ensures.steps
    (YieldsList-from_slice_split _ (λ b. eqb b 32) c.args.line.now (cc) (cc) (cc) (λ x b q k. search (rules, tests))) in
    sym (too_many (words_of c.args.line.now) (omega (arith, one, l.invariant.2, c.if-n-eq7.true)))

pub loop-word-preserved : goal.loop-word-preserved
loop-word-preserved c =
    let l = c.loop-word in
    let room : l.n < 7 = omega (arith, l.invariant.3, c.if-n-eq7.false) in (
      search rules,
      search rules,
      omega (arith, l.invariant.2, length_push l.yielded c.in-Some.word),
      omega (arith, room),
      take_more_set l.words l.n _ (omega (arith, room, l.invariant.5)) ∙ ap (λ xs. xs ++ c.in-Some.word ∷ []) l.invariant.4,
      omega (arith, l.invariant.5, length-set l.words l.n c.in-Some.word),
    )

pub returns : goal.returns
unfolding words_of
returns c =
    let l = c.loop-word in
    let all = no_more l.yielded _ _ _ l.yielded_by c.in-None.is c.next.ensures.steps
    (YieldsList-from_slice_split _ (λ b. eqb b 32) c.args.line.now (cc) (cc) (cc) (λ x b q k. search (rules, tests))) in
    c.rule.ensures ∙ ap line_of (ap (map (λ w. w.now)) l.invariant.4 ∙ all)
