-- Each call keeps what holds where a list stands: first of the definition's call, whatever comes of it, then of a sampler that meets the definition.
use Rattle.std.specs.Prelude.{Option, Some, None, IsSome, slice_get}
use Rattle.ledger.specs.Words.{or_else}
use Rattle.ledger.specs.Kernel.{Kernel, Laws}
use Rattle.ledger.specs.Call.{Call, any_bad, call_refusal}
use Rattle.ledger.specs.State.{State, fresh, given, Returned, refuse}
use Rattle.ledger.specs.Assignment.{Accepted}
use Rattle.ledger.specs.Soundness.{Sound}
use Rattle.ledger.specs.Sample.{state_refusal, accept, outcome, step, sample}
use Rattle.ledger.specs.Ledger.{Ledger, empty, refusal_of, accepted, unless_refused, enter_call}
use Rattle.ledger.specs.Idle.{idle_since}
use Rattle.ledger.specs.Sampler.{Sampler, viewed, Meets}
use Rattle.ledger.specs.Claim.{refusal_in, setting_in, Point, Moment, moment, ran, defined_result, table_refusal, after, start, LedgerCloses, SamplerCloses, HandedBack}
use Rattle.ledger.proofs.Lists.{none≢some, neither, not-refused}
use Rattle.ledger.proofs.Agree.{refusals-agree}
use Rattle.ledger.proofs.Sound.{accept-sound, fresh-sound}
use Rattle.ledger.proofs.SoundTest.{sample-step, sample-sound}
use Rattle.ledger.proofs.Invariant.{Right, Inv, Seen, add-moment, seen-now}
use Rattle.ledger.proofs.Accept.{Full, accept-ok}
use mathlib.Core.Bool.{true, true≢false}
use mathlib.Core.Path.{◌≡◌, refl, sym, ap, subst, ◌∙◌}
use mathlib.Core.Logic.{◌↔◌}
use mathlib.Core.List.Memᴰ
use mathlib.Core.List.{List, [], ◌∷◌, ◌++◌}
use Prim.Native.Nat.{ℕ, suc, ◌<◌}
use native.Mathlib.Omega.{arith}
use lib.ListN.{length}

module _ (K : Kernel) (L : Laws K) where
  open K use {Setup, Candidate, accepts, judged, decode, Fits}

  -- what can come of a call of the definition: a refusal, or an accepted call that no refusal is for
  outcomes : (P : Returned K (State K) → Option ℕ → Type 0) (s : State K) (a b : Option ℕ) (x : Accepted K) → ((r : ℕ) → P (refuse K r s) (Some r))
      → (a ≡ None → b ≡ None → P (record { answer = given x.setting; draws = x.draws; state = x.state }) None) → P (outcome K s (or_else a b) x) (or_else a b)
  outcomes P s (Some r) b x f g = f r
  outcomes P s None (Some r) x f g = f r
  outcomes P s None None x f g = g refl refl

  module _ (X : Sampler K) (S : Setup) (ok : accepts S ≡ true) where
    -- ---- the definition's call

    module _ (ms : List (Moment K X S)) (s : State K) (l : Ledger K) (c : Call K) (v : Inv K L X S ms s l) (u : Sound K S s) (seen : Seen K L X S ms l) where
      -- what is shown of a call with this result, by this refusal
      abbrev next : Option ℕ → Ledger K
      next f = unless_refused K f l (accepted K S l.size l c)

      record Shown (r : Returned K (State K)) (f : Option ℕ) : Type 0 where
        inv : Inv K L X S ms r.state (next f)
        refusal : refusal_in K r.answer ≡ f
        back : IsSome f → (setting_in K r.answer ≡ None) × (r.draws ≡ 0) × (r.state ≡ s)
        closes : (length r.state.trials < length s.trials) ↔ (length l.generations < length (next f).generations)
        setting : (i k : ℕ) → k < length (next f).dims → (f ≡ None) × (slice_get (next f).open_trials i ≡ Some (record { number = c.number; calls = suc k }))
            → (y : Candidate) × (slice_get r.state.candidates i ≡ Some y) × Fits (next f).dims y × (setting_in K r.answer ≡ Some (decode (next f).dims k y))

      shown-step : Shown (step K S s c) (refusal_of K l c)
      unfolding step refusal_of
      shown-step =
          rw (← (refusals-agree K L s l c v.corr))
          (outcomes Shown s (call_refusal K c) (state_refusal K s.size s c) (accept K S s.size s c)
          (λ r. record { inv = v; refusal = refl; back = λ t. (refl, refl, refl); closes = (λ h. absurd (omega arith), λ h. absurd (omega arith)); setting = λ i k b x. absurd (none≢some (sym x.0)) })
          (λ p q.
          let good = not-refused (any_bad K c.history) 8 (neither (judged c.distribution) _ p).1 in
          let f = accept-sound K L S ok s u c p s.size refl q in
          let d =
          subst (λ (z : Option ℕ). Full K L X S ms s l c.number (accept K S s.size s c) (accepted K S z l c)) v.corr.size
          (accept-ok K L X S ok ms s l v u seen c good s.size (sym v.corr.size) f)
          in
          record {
            inv = d.done.inv;
            refusal = refl;
            back = λ t. absurd (true≢false (sym t));
            closes = d.closes;
            setting = λ i k b y. let h = d.done.handed i k b y.1 in (h.0, h.1, h.2, ap Some h.3);
          }))

      shown : Shown (sample K S s c) (refusal_of K l c)
      shown = subst (λ (r : Returned K (State K)). Shown r (refusal_of K l c)) (sym (sample-step K L S s c u)) shown-step

    -- ---- the sampler's call, and a list of them

    module _ (meets : Meets K X S) where
      -- what holds where a list stands
      pub record Stands (ms : List (Moment K X S)) (p : Point K X S) : Type 0 where
        pub inv : Inv K L X S ms p.defined p.ledger
        pub sound : Sound K S p.defined
        pub seen : Seen K L X S ms p.ledger
        pub clean : meets.Clean p.state
        pub agrees : X.view p.state ≡ p.defined

      module _ (ms : List (Moment K X S)) (p : Point K X S) (h : Stands ms p) (c : Call K) where
        abbrev m : Moment K X S
        m = moment K X S p c

        r : Shown ms p.defined p.ledger c h.inv h.sound h.seen (sample K S p.defined c) (table_refusal K X S m)
        r = shown ms p.defined p.ledger c h.inv h.sound h.seen

        result : viewed K X (ran K X S m) ≡ defined_result K X S m
        result = meets.call_view p.state c h.clean ∙ ap (λ (s : State K). sample K S s c) h.agrees

        answer : (ran K X S m).answer ≡ (defined_result K X S m).answer
        answer = ap (λ (x : Returned K (State K)). x.answer) result

        state : X.view (ran K X S m).state ≡ (defined_result K X S m).state
        state = ap (λ (x : Returned K (State K)). x.state) result

        clean : meets.Clean (ran K X S m).state
        clean = meets.call_clean p.state c h.clean

        handed_back : IsSome (table_refusal K X S m) → HandedBack K X S m
        handed_back t =
            let b = r.back t in
            record {
              no_setting = ap (setting_in K) answer ∙ b.0;
              no_draws = ap (λ (x : Returned K (State K)). x.draws) result ∙ b.1;
              same_state = meets.view_whole (ran K X S m).state p.state clean h.clean (state ∙ (b.2 ∙ sym h.agrees));
            }

        closes-too : SamplerCloses K X S m ↔ LedgerCloses K X S m
        unfolding enter_call
        closes-too = rw (state, h.agrees) r.closes

        right : Right K L X S m
        unfolding enter_call
        right =
            record {
              refusal = ap (refusal_in K) answer ∙ r.refusal;
              handed_back = handed_back;
              closing = closes-too;
              undiscovered = λ z. (r.inv.before z).0;
              setting = λ i k b x. let y = r.setting i k b x in record { candidate = y.0; here = y.1; fits = y.2; setting = ap (setting_in K) answer ∙ y.3 };
            }

        pub goes_on : Stands (ms ++ (m ∷ [])) (after K X S m)
        unfolding enter_call
        goes_on =
            record {
              inv = add-moment K L X S ms m r.inv right;
              sound = sample-sound K L S ok p.defined c h.sound;
              seen = seen-now K L X S ms m;
              clean = clean;
              agrees = state;
            }

      pub begins : Stands [] (start K X S)
      unfolding fresh empty idle_since
      begins =
          record {
            inv =
                record {
                  corr = record { first = refl; dims = refl; size = refl; trials = refl; closed = refl; idle = refl };
                  before = λ z. (refl, refl);
                  share = λ g y. absurd (Memᴰ.not-nil y);
                  past =
                      record {
                        right = λ m y. absurd (Memᴰ.not-nil y);
                        gens = λ m y. absurd (Memᴰ.not-nil y);
                        not_yet = λ z m y. absurd (Memᴰ.not-nil y);
                        dims_kept = λ m y. absurd (Memᴰ.not-nil y);
                        same = λ m y. absurd (Memᴰ.not-nil y);
                        held = λ i p e. absurd (none≢some e);
                      };
                };
            sound = fresh-sound K L S;
            seen = λ N e. absurd (none≢some e);
            clean = meets.new_clean;
            agrees = meets.new_view;
          }
