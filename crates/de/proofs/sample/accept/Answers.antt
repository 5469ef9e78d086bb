-- `accept` meets its contract: each way is the definition's on the view (Accepting), with the tests that lead there.
use Rattle.std.proofs.Common.{sym, ◌∙◌}
use Rattle.de.proofs.Accepting as By
use Rattle.de.proofs.sample.accept.Goals.{in-Some, in-None}
use Rattle.de.proofs.sample.accept.Goals as goal

pub close-rng-requires : goal.close-rng-requires
close-rng-requires c =
    let q = c.requires in
    (By.close-requires _ _ _ _ q c.if-state.true _ c.in-Some.is, By.many _ _ _ _ q c.if-state.true _ c.in-Some.is)

-- the generation is open, whether one has closed or not
pub sample_active-requires : goal.sample_active-requires
sample_active-requires c =
    let q = c.requires in
    let o : By.Opened _ _ _ _ q c.match-results.state c.match-results.rng =
    elim c.match-results.branch [
      | in-Some w ↦ rw (w.state-is, w.rng-is) (By.closed-opened _ _ _ _ q c.if-state.true _ w.in-Some.is _ _ w.close-rng.ensures)
      | in-None w ↦ rw (w.state-is, w.rng-is, w.new-rng.ensures) (By.plain-opened _ _ _ _ q c.if-state.true w.in-None.is)
    ] in
    o.0

pub returns-then-state : goal.returns-then-state
returns-then-state c =
    let q = c.requires in
    let o : By.Opened _ _ _ _ q c.match-results.state c.match-results.rng =
    elim c.match-results.branch [
      | in-Some w ↦ rw (w.state-is, w.rng-is) (By.closed-opened _ _ _ _ q c.if-state.true _ w.in-Some.is _ _ w.close-rng.ensures)
      | in-None w ↦ rw (w.state-is, w.rng-is, w.new-rng.ensures) (By.plain-opened _ _ _ _ q c.if-state.true w.in-None.is)
    ] in
    c.sample_active.ensures ∙ o.1

pub sample_discovery-requires : goal.sample_discovery-requires
sample_discovery-requires c = By.discovery-requires _ _ _ _ c.requires c.if-state.false (sym c.discovers.ensures ∙ c.if-discovers.true)

pub returns-then-discovers : goal.returns-then-discovers
returns-then-discovers c = c.sample_discovery.ensures ∙ By.discovery-returns _ _ _ _ c.requires c.if-state.false (sym c.discovers.ensures ∙ c.if-discovers.true)

pub finalize_discovery-rng-requires : goal.finalize_discovery-rng-requires
finalize_discovery-rng-requires c = By.begin-requires _ _ _ _ c.requires c.if-state.false (sym c.discovers.ensures ∙ c.if-discovers.false)

pub sample_active-requires-2 : goal.sample_active-requires-2
sample_active-requires-2 c = (By.begun-opened _ _ _ _ c.requires c.if-state.false (sym c.discovers.ensures ∙ c.if-discovers.false) _ _ c.finalize_discovery-rng.ensures).0

pub returns : goal.returns
returns c =
    c.sample_active-2.ensures
    ∙ (By.begun-opened _ _ _ _ c.requires c.if-state.false (sym c.discovers.ensures ∙ c.if-discovers.false) _ _ c.finalize_discovery-rng.ensures).1
