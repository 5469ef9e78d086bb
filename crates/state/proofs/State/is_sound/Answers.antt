-- `is_sound` meets its contract: a test that fails refutes soundness (`refuted`), and where the first ones pass the others decide (`settled`).
use Rattle.std.proofs.Common.{ap, rules, ◌≡◌, ◌∙◌, sym}
use borrow.Author.Tests.{le-leb, lt-leb}
use lib.Dec.{leb}
use Rattle.selection.specs.Best.{values, best_slot}
use Rattle.ledger.specs.Words.{differing}
use Rattle.kernel.specs.Fits.{fits}
use Rattle.state.specs.Blank.{is_blank_dim, is_blank_candidate, is_blank_trial, is_blank_member}
use Rattle.state.specs.Sound.{Few}
use Rattle.state.specs.View.{dims_of, trials_of, members_of, candidate_count, parent_count}
use Rattle.state.specs.Places.{places_fit, limits_of, passes, next_fits, member_fits, numbers_of}
use Rattle.state.proofs.Measured.{Arrays}
use Rattle.state.proofs.Told.{dims-fit, continuous-few, counts-told, few-told, fits-told, member-told, all-pass, pass-all}
use Rattle.state.proofs.Whole.{count_test, refuted, settled}
use Rattle.state.proofs.State.is_sound.Goals as goal
use Rattle.state.proofs.State.is_sound.Goals.{then-self-gt-DIM_LIMIT-via-then-self-gt-DIM_LIMIT, then-self-gt-DIM_LIMIT-via-else-self-gt-DIM_LIMIT+then-not-places_fit}

pub returns-then-self-gt-DIM_LIMIT-clause-sound : goal.returns-then-self-gt-DIM_LIMIT-clause-sound
returns-then-self-gt-DIM_LIMIT-clause-sound c =
    let s = c.args.self.now in
    let arrays : Arrays s = record { dims = search rules; candidates = search rules; parents = search rules; trials = search rules; closed = search rules } in
    elim c.then-self-gt-DIM_LIMIT.branch [
      | then-self-gt-DIM_LIMIT-via-then-self-gt-DIM_LIMIT w ↦ refuted s arrays (leb s.n_dims 16) (λ p. le-leb _ _ p.few_dims) (lt-leb _ _ w.if-self-gt-DIM_LIMIT.true)
      | then-self-gt-DIM_LIMIT-via-else-self-gt-DIM_LIMIT+then-not-places_fit w ↦
          let dims : w.places_fit.result ≡ places_fit passes is_blank_dim s.n_dims s.dims = search rules in
          refuted s arrays _ (λ p. dims ∙ p.dims) w.if-not-places_fit.true
    ]

pub limits_of-limits-requires : goal.limits_of-limits-requires
limits_of-limits-requires c =
    let s = c.args.self.now in
    let dims : c.places_fit.result ≡ places_fit passes is_blank_dim s.n_dims s.dims = search rules in
    rw c.dims.ensures (dims-fit s (sym dims ∙ c.if-not-places_fit.false) c.if-self-gt-DIM_LIMIT.false)

pub counts_sound-requires : goal.counts_sound-requires
counts_sound-requires c = continuous-few c.args.self.now _ c.if-self-gt-DIM_LIMIT.false (c.limits_of-limits.ensures ∙ ap limits_of c.dims.ensures)

pub returns-then-not-counts_sound-clause-sound : goal.returns-then-not-counts_sound-clause-sound
returns-then-not-counts_sound-clause-sound c =
    let s = c.args.self.now in
    let arrays : Arrays s = record { dims = search rules; candidates = search rules; parents = search rules; trials = search rules; closed = search rules } in
    refuted s arrays _ (λ p. counts-told s _ c.if-self-gt-DIM_LIMIT.false (c.limits_of-limits.ensures ∙ ap limits_of c.dims.ensures) c.counts_sound.ensures ∙ p.counts) c.if-not-counts_sound.true

pub returns : goal.returns
returns c =
    let s = c.args.self.now in
    let arrays : Arrays s = record { dims = search rules; candidates = search rules; parents = search rules; trials = search rules; closed = search rules } in
    let n = c.if-self-gt-DIM_LIMIT.false in
    let limits : c.limits_of-limits.result ≡ limits_of (dims_of s) = c.limits_of-limits.ensures ∙ ap limits_of c.dims.ensures in
    let dims : c.places_fit.result ≡ places_fit passes is_blank_dim s.n_dims s.dims = search rules in
    let counts : c.counts_sound.result ≡ count_test s = counts-told s _ n limits c.counts_sound.ensures in
    let few : Few s = few-told s _ n limits c.counts_sound.ensures c.if-not-counts_sound.false in
    let candidates : c.places_fit-candidates.result ≡ places_fit (fits (dims_of s)) is_blank_candidate (candidate_count s) s.candidates = search (rules, fits-told s c.limits_of-limits.result n limits) in
    let trials : c.places_fit-trials.result ≡ places_fit (next_fits s.n_dims) is_blank_trial s.n_trials s.trials = search rules in
    let parents : c.places_fit-parents.result ≡ places_fit (member_fits (dims_of s)) is_blank_member (parent_count s) s.parents = search (rules, member-told s c.limits_of-limits.result n limits) in
    let differ : c.numbers_differ-differ.result ≡ differing (numbers_of (trials_of s)) = search rules in
    let best : c.best_slot.result ≡ best_slot (values (members_of s)) = search rules in
    record {
      sound = settled s arrays _ (all-pass s _ _ _ _ _ candidates trials parents differ best n (sym dims ∙ c.if-not-places_fit.false) (sym counts ∙ c.if-not-counts_sound.false)) (pass-all s _ _ _ _ _ candidates trials parents differ best);
      few = search rules;
    }
