-- `sample_any` meets its contract: the state is judged, then the refusals, then the call is accepted; Sampling has each way out.
use Rattle.std.proofs.Common.{◌≡◌, rules, sym, ◌∙◌, Err}
use Rattle.de.proofs.Sampling as By
use Rattle.de.proofs.sample.sample_any.Goals as goal

pub returns-then-not-is_sound : goal.returns-then-not-is_sound
returns-then-not-is_sound c = By.not-sound _ _ _ _ _ (sym c.is_sound.ensures.sound ∙ c.if-not-is_sound.true)

pub returns-in_err-refusal_of : goal.returns-in_err-refusal_of
returns-in_err-refusal_of c =
    let e : c.from_residual.result ≡ Err c.in_err-refusal_of.field-0.0 = search rules in
    rw e
    (By.refused _ _ c.requires (sym c.is_sound.ensures.sound ∙ c.if-not-is_sound.false) c.args.d c.args.trial
    _ c.closing_results-results.ensures _ c.is_some.ensures c.place_of-place.result (cc) _ c.discovers-of_discovery.ensures _ c.count_refusal-counts.ensures _ c.refusal_of.ensures _ c.in_err-refusal_of.was)

pub accept-requires : goal.accept-requires
accept-requires c =
    By.acceptable _ _ c.requires (sym c.is_sound.ensures.sound ∙ c.if-not-is_sound.false) c.args.d c.args.trial
    _ c.closing_results-results.ensures _ c.is_some.ensures c.place_of-place.result (cc) _ c.discovers-of_discovery.ensures _ c.count_refusal-counts.ensures _ c.refusal_of.ensures c.in_ok-refusal_of.was

pub returns : goal.returns
returns c =
    By.given _ _ c.requires (sym c.is_sound.ensures.sound ∙ c.if-not-is_sound.false) c.args.d c.args.trial
    _ c.closing_results-results.ensures _ c.is_some.ensures c.place_of-place.result (cc) _ c.discovers-of_discovery.ensures _ c.count_refusal-counts.ensures _ c.refusal_of.ensures c.in_ok-refusal_of.was _ _ c.accept.ensures
