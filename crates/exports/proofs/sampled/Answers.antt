-- `sampled` meets its contract: what was opened is what the call and the memory stand for, so the state that was made is stored as
-- `unjudged_state` says.
use Rattle.std.proofs.Common.{◌≡◌, ◌∙◌, refl, sym, ap, Bool, true, false, cond, map, Result, Ok, Err, is_ok}
use Rattle.std.specs.Result.{result_unwrap_or}
use mathlib.Core.Bool.{true≢false}
use Rattle.distribution.specs.declared.Distribution.{Distribution}
use Rattle.ledger.specs.State.{Returned}
use Rattle.kernel.specs.De.{de}
use Rattle.state.specs.declared.State.{State}
use Rattle.de.specs.Sample.{sample_of}
use Rattle.edge.specs.Answers.{unknown, refused_by, answered, settled_of, question_of}
use Rattle.edge.specs.Flat.{distribution_of, opened_of, open_with, flat_of}
use Rattle.edge.specs.Known.{known_distribution, known_state}
use Rattle.edge.specs.Trial.{trial_of}
use Rattle.edge.specs.declared.answers.DeAnswer.{DeAnswer}
use Rattle.edge.specs.declared.answers.DeCall.{DeCall}
use Rattle.edge.specs.declared.flat.DeState.{DeState}
use Rattle.edge.specs.declared.flat.Opened.{Opened}
use Rattle.exports.specs.Calls.{sampled_from}
use Rattle.exports.proofs.sampled.Goals as goal

record Asked (f : DeState) (c : DeCall) (q : Opened × Distribution) : Type 0 where
  pub call : known_distribution c.distribution ≡ true
  pub state : known_state f ≡ true
  pub is : q ≡ (opened_of f, distribution_of c.distribution)

asked : (f : DeState) (c : DeCall) (q : Opened × Distribution) → Ok q ≡ question_of f c → Asked f c q
unfolding question_of
asked f c q e = go (known_distribution c.distribution) (known_state f) refl refl e
  where
    go : (x y : Bool) → known_distribution c.distribution ≡ x → known_state f ≡ y
        → Ok q ≡ cond x (cond y (Ok (opened_of f, distribution_of c.distribution)) (Err (refused_by 0))) (Err unknown) → Asked f c q
    go true true k s e = record { call = k; state = s; is = ap (λ r. result_unwrap_or r q) e }
    go true false k s e = absurd (true≢false (ap is_ok e))
    go false y k s e = absurd (true≢false (ap is_ok e))

pub returns-clause-after : goal.returns-clause-after
unfolding settled_of
returns-clause-after c =
    let f = c.args.state.now in
    let call = c.args.call in
    let h = c.args.history.now in
    let ys = map trial_of h in
    let a = asked f call _ c.in_ok-opened.ensures in
    let made = c.sample-made.ensures ∙ ap (λ (s : State). sample_of s c.in_ok-opened.distribution call.trial ys) c.open.ensures
    ∙ ap (λ (q : Opened × Distribution). sample_of (open_with f q.0) q.1 call.trial ys) a.is in
    let r = sampled_from f call h in
    let stored = c.in_ok-answer.ensures ∙ (λ i. answered (made i).answer (made i).draws) ∙ sym (λ i. settled_of (a.call i) (a.state i) r.answer r.draws) in
    c.flatten.ensures ∙ ap (λ (z : Returned de State). flat_of z.state) made
    ∙ ap (λ (z : Result DeAnswer DeAnswer). cond (is_ok z) (flat_of r.state) f) stored
