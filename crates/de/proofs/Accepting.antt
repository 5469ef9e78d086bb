-- What `accept` is handed, and what it makes: its state is its view laid out, so each part is the definition's on the view (Whole).
use Rattle.std.specs.Prelude.{Option, Some, None, Ok, is_ok}
use Prim.Native.Nat.{ℕ, ◌+◌, ◌≤◌, ◌<◌}
use mathlib.Core.Path.{◌≡◌, refl, sym, ap, subst, ◌∙◌}
use mathlib.Core.Bool.{Bool, true, false, not, ◌&&◌}
use mathlib.Core.List.{List}
use native.Mathlib.Omega.{arith}
use borrow.Author.Tests.{leb-false}
use lib.Dec.{leb}
use lib.Ieee.{Float}
use lib.ListN.{length, take}
use Rattle.rng_util.specs.Gen.{made}
use Rattle.rng_util.specs.declared.Gen.{Gen}
use Rattle.distribution.specs.Validate.{judged, verdict_of}
use Rattle.distribution.specs.declared.Distribution.{Distribution}
use Rattle.evolution.specs.declared.Setup.{Setup}
use Rattle.ledger.specs.Words.{or_else, refuse_if, has}
use Rattle.ledger.specs.State as Plain
use Rattle.ledger.specs.Assignment.{Accepted}
use Rattle.ledger.specs.Sample.{discovers}
use Rattle.ledger.specs.Soundness.{Sound}
use Rattle.ledger.proofs.Lists.{none≢some}
use Rattle.kernel.specs.De.{de, code_gen}
use Rattle.kernel.proofs.Kernel.{de-laws}
use Rattle.kernel.specs.Setup.{setup_verdict}
use Rattle.state.specs.Sound.{Few}
use Rattle.state.specs.View.{view, laid, size_in}
use Rattle.state.specs.declared.State.{State}
use Rattle.state.proofs.Tidy as Tidy
use Rattle.assignment.specs.Raw.{Ready, Complete, raw_active, raw_discovery, raw_begin, start_of}
use Rattle.assignment.specs.Laid.{laid_given}
use Rattle.assignment.proofs.Meet.{judged-valid}
use Rattle.closing.specs.Raw.{Closable, raw_close}
use Rattle.de.specs.Gathered.{sampling_on, discovery_on, refusal_on, accept_on, accepted_on, counted_in, refusal}
use Rattle.de.specs.Whole.{Counted, Acceptable}
use Rattle.de.proofs.Whole as Whole

-- none of two
neither : (o p : Option ℕ) → or_else o p ≡ None → (o ≡ None) × (p ≡ None)
neither None p e = (refl, e)
neither (Some r) p e = absurd (none≢some (sym e))

not-refused : (b : Bool) (r : ℕ) → refuse_if b r ≡ None → b ≡ false
not-refused true r e = absurd (none≢some (sym e))
not-refused false r e = refl

-- s is the state that comes in
module _ (s : State) (d : Distribution) (n : ℕ) (results : Option (List Float)) (q : Acceptable s d n results) where
  -- the generator then
  abbrev g : Gen
  g = start_of s

  abbrev S : Setup
  S = s.setup

  abbrev m : Plain.State de
  m = view s

  -- what the definition makes of the call
  abbrev accepted : Accepted de
  accepted = accepted_on s d n results

  sound : Sound de S m
  sound = Tidy.view-sound s q.sound de-laws

  ok : is_ok (setup_verdict S) ≡ true
  ok = Tidy.setup-valid s q.sound

  is : s ≡ laid S m
  is = Tidy.is-laid s q.sound q.arrays

  few : Few s
  few = Tidy.sound-few s q.sound q.arrays

  start_is : g ≡ code_gen (Plain.start_gen de m)
  unfolding view
  start_is = refl

  refusals : (judged d ≡ None) × (refusal_on m.size m n (counted_in s results) ≡ None)
  unfolding refusal
  refusals =
      let a = neither (or_else (judged d) (refuse_if false 8)) _ q.unrefused in
      ((neither (judged d) None a.0).0, a.1)

  good : judged d ≡ None
  good = refusals.0

  valid : verdict_of d ≡ Ok tt
  valid = judged-valid d good

  -- a state and a generator from which an open generation serves the call as the definition accepts it
  abbrev pub Opened : State → Gen → Type 0
  Opened t h = Ready t d n h × (raw_active t d n h ≡ laid_given S accepted)

  -- ---- after discovery

  module _ (disc : s.discovered ≡ true) where
    sized : m.size ≡ Some s.n
    unfolding view
    sized = ap (λ (b : Bool). size_in b s.n) disc

    runs : (row : Option (List Float)) → accept_on S m.size m n d row ≡ sampling_on S m n d row (Plain.start_gen de m)
    unfolding accept_on
    runs row = ap (λ (z : Option ℕ). accept_on S z m n d row) sized

    -- a generation closes
    module _ (rs : List Float) (yes : results ≡ Some rs) where
      counts : Counted s rs
      counts = q.closing rs yes

      pub many : s.n ≤ length rs
      many = omega (arith, counts.places, few.slots)

      abbrev row : List Float
      row = take s.n rs

      -- with the counted results
      runs-row : accepted ≡ sampling_on S m n d (Some row) (Plain.start_gen de m)
      runs-row = ap (λ (o : Option (List Float)). accept_on S m.size m n d (counted_in s o)) yes ∙ runs (Some row)

      pub close-requires : Closable s
      close-requires = subst Closable (sym is) (Whole.closable de-laws S m ok sound d good n s.n sized rs many counts.numbers)

      made-laid : raw_close s rs g ≡ raw_close (laid S m) rs (code_gen (Plain.start_gen de m))
      made-laid = λ i. raw_close (is i) rs (start_is i)

      pub closed-opened : (t : State) (h : Gen) → made t h ≡ raw_close s rs g → Opened t h
      closed-opened t h e =
          let by = Whole.closed_opened de-laws S m ok sound d good n s.n sized rs many counts.numbers t h (e ∙ made-laid) in
          (by.0, by.1 ∙ ap (laid_given S) (sym runs-row))

    -- none closes
    module _ (no : results ≡ None) where
      room : (not (has (Plain.numbers m.trials) n) && leb (s.n + 64) (length m.trials)) ≡ false
      unfolding refusal_on
      room = not-refused _ 10 (sym (ap (λ (z : Option ℕ). refusal_on z m n None) sized) ∙ ap (λ (o : Option (List Float)). refusal_on m.size m n (counted_in s o)) (sym no) ∙ refusals.1)

      pub plain-opened : Opened s g
      plain-opened = (
        subst (λ (x : State). Ready x d n g) (sym is) (rw start_is (Whole.plain_ready de-laws S m ok sound d good n s.n sized room)),
        (λ i. raw_active (is i) d n (start_is i))
            ∙ Whole.plain-is de-laws S m ok sound d good n s.n sized room
            ∙ ap (laid_given S) (sym (ap (λ (o : Option (List Float)). accept_on S m.size m n d (counted_in s o)) no ∙ runs None)),
      )

  -- ---- in discovery

  module _ (disc : s.discovered ≡ false) where
    unsized : m.size ≡ None
    unfolding view
    unsized = ap (λ (b : Bool). size_in b s.n) disc

    finds : (b : Bool) → discovers m.first n ≡ b → (row : Option (List Float)) → accept_on S m.size m n d row ≡ discovery_on S b m n d
    unfolding accept_on
    finds b e row = ap (λ (z : Option ℕ). accept_on S z m n d row) unsized ∙ ap (λ (x : Bool). discovery_on S x m n d) e

    first-is : discovers s.first n ≡ discovers m.first n
    unfolding view
    first-is = refl

    module _ (yes : discovers s.first n ≡ true) where
      few_dims : length m.dims < 16
      unfolding refusal_on
      few_dims =
          leb-false 16 (length m.dims)
          (rw (sym first-is ∙ yes) at (not-refused (discovers m.first n && leb 16 (length m.dims)) 9 (sym (ap (λ (z : Option ℕ). refusal_on z m n (counted_in s results)) unsized) ∙ refusals.1)))

      pub discovery-requires : (s.n_dims < 16) × (verdict_of d ≡ Ok tt)
      unfolding laid
      discovery-requires = (subst (λ (x : State). x.n_dims < 16) (sym is) few_dims, valid)

      pub discovery-returns : raw_discovery s d n g ≡ laid_given S accepted
      discovery-returns =
          (λ i. raw_discovery (is i) d n (start_is i))
          ∙ Whole.discovery-is de-laws S m ok sound d good n unsized few_dims
          ∙ ap (laid_given S) (sym (finds true (sym first-is ∙ yes) _))

    module _ (no : discovers s.first n ≡ false) where
      pub begin-requires : Complete s
      begin-requires = subst Complete (sym is) (Whole.completes de-laws S m ok sound d good n unsized)

      first-laid : raw_begin s g ≡ raw_begin (laid S m) (code_gen (Plain.start_gen de m))
      first-laid = λ i. raw_begin (is i) (start_is i)

      accepts : accepted ≡ discovery_on S false m n d
      accepts = finds false (sym first-is ∙ no) _

      pub begun-opened : (t : State) (h : Gen) → made t h ≡ raw_begin s g → Opened t h
      begun-opened t h e =
          let by = Whole.begun_opened de-laws S m ok sound d good n unsized t h (e ∙ first-laid) in
          (by.0, by.1 ∙ ap (laid_given S) (sym accepts))
