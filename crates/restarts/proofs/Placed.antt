-- WHICH SAVES COUNT: each, where the set-up has clamp, no call lends a ladder that 4 to 7 pass and each save has room for the largest file; none under midpoint. Idea: the dimensions of a state are ones
-- that calls lent, and its set-up stays.
use Rattle.std.specs.Prelude.{Option, Some, None, is_ok}
use Rattle.std.specs.List.{list_all}
use Prim.Native.Nat.{ℕ, ◌≤◌}
use mathlib.Core.Bool.{true, false, ◌&&◌}
use mathlib.Core.Path.{◌≡◌, refl, sym, ap, subst, ◌∙◌}
use mathlib.Core.List.Memᴰ
use mathlib.Core.List.{List, [], ◌∷◌}
use lib.Dec.{leb}
use lib.ListN.{length}
use Rattle.distribution.specs.Validate.{judged}
use Rattle.ledger.specs.Call.{Call, any_bad}
use Rattle.ledger.specs.State as Plain
use Rattle.ledger.specs.Sample.{state_refusal, accept, outcome, step}
use Rattle.ledger.specs.Words.{All, or_else, refuse_if}
use Rattle.evolution.specs.declared.BoundsRule.{BoundsRule}
use Rattle.evolution.specs.declared.BoundsRule.TheVariants.{Midpoint}
use Rattle.evolution.specs.declared.Setup.{Setup}
use Rattle.kernel.specs.De.{de}
use Rattle.kernel.specs.Setup.{setup_verdict}
use Rattle.state.specs.View.{view, laid}
use Rattle.state.specs.declared.State.{State}
use Rattle.state.proofs.Laid.{view-laid}
use Rattle.kinds.specs.Kinds.{has_place, dims_of}
use Rattle.kinds.specs.Rows.{rule_has_place, setup_has_place, dim_has_place}
use Rattle.kinds.specs.Typed.{TypedSetup}
use Rattle.kinds.proofs.Place.{PlacedDim, placed, setup-placed, dims-placed}
use Rattle.de.specs.Build.{fresh_state}
use Rattle.ledger.proofs.Lists.{all_nil}
use Rattle.saved.specs.File.{file_of}
use Rattle.restarts.specs.Gateway.{stepped, led, makes_file, surviving_calls, TypedCall, TypedEvent, PlacedCall, PlacedEvent, Room}
use Rattle.restarts.specs.Restart.{Event, led_to, surviving}
use Rattle.restarts.proofs.Gateway.{Reached, reached-call, reached-fresh, call-plain, fresh-plain, led-reached, reached-savable, room-enough}
use Rattle.restarts.proofs.Keep.{Fine, Makes, step-fine}
use Rattle.restarts.proofs.Restarts.{saves-alike}

-- ---- a call adds no dimension but the one that it lends

abbrev Any : {A : Type 0} → A → Type 0
Any a = Unit {0}

makes-any : (S : Setup) → Makes de Any Any PlacedDim Any Any S
makes-any S =
    record {
      of_seed = tt;
      of_random = λ d g w. tt;
      of_firsts = λ ds n g few h w. (λ a m. tt, tt);
      of_extra = λ ds g few h w. (tt, tt);
      of_nexts = λ ds ps b g few h k w. (λ a m. tt, tt);
    }

fine : (m : Plain.State de) → All PlacedDim m.dims → Fine de Any Any PlacedDim Any Any m
fine m h = record { word = tt; first = λ n e. tt; dims = h; candidates = λ a m. tt; trials = λ a m. tt; parents = λ a m. (tt, tt) }

module _ (S : Setup) (ok : is_ok (setup_verdict S) ≡ true) (typed : TypedSetup S) where
  setup-is : (s : State) → Reached S ok typed s → s.setup ≡ S
  unfolding laid
  setup-is s k = ap (λ (t : State). t.setup) k.is

  dims-are : (s : State) (k : Reached S ok typed s) → dims_of s ≡ k.plain.dims
  unfolding view
  dims-are s k = ap dims_of k.is ∙ ap (λ (m : Plain.State de). m.dims) (view-laid S k.plain k.sound)

  -- a state that such calls lead to
  abbrev pub PlacedState : State → Type 0
  PlacedState s = Reached S ok typed s × (has_place s ≡ true)

  -- a call whose distribution is refused leaves the state as it is
  kept : (m : Plain.State de) (c : Call de) (n : ℕ) → judged c.distribution.distribution ≡ Some n → (step de S m c).state ≡ m
  unfolding step
  kept m c n e =
      ap (λ (r : Option ℕ). (outcome de m (or_else (or_else r (refuse_if (any_bad de c.history) 8)) (state_refusal de m.size m c)) (accept de S m.size m c)).state) e

  next-dims : (m : Plain.State de) (c : Call de) → length m.dims ≤ 16 → All PlacedDim m.dims
      → (judged c.distribution.distribution ≡ None → PlacedDim c.distribution) → All PlacedDim (step de S m c).state.dims
  next-dims m c few h p = go (judged c.distribution.distribution) refl
    where
      go : (r : Option ℕ) → judged c.distribution.distribution ≡ r → All PlacedDim (step de S m c).state.dims
      go (Some n) e = subst (λ (t : Plain.State de). All PlacedDim t.dims) (sym (kept m c n e)) h
      go None e = (step-fine de Any Any PlacedDim Any Any S (makes-any S) m c few (fine m h) (record { number = tt; distribution = p e; history = λ a m. tt })).dims

  pub placed-call : (s : State) (c : Call de) → PlacedState s → PlacedCall c → PlacedState (stepped s c)
  placed-call s c p t =
      let k = p.0 in
      let next = reached-call S ok typed s c k t.0 in
      let before : All PlacedDim k.plain.dims = subst (All PlacedDim) (dims-are s k) (dims-placed s p.1) in
      let after : All PlacedDim (step de S k.plain c).state.dims = next-dims k.plain c k.sound.dims_few before t.1 in
      let dims : dims_of (stepped s c) ≡ (step de S k.plain c).state.dims = dims-are (stepped s c) next ∙ ap (λ (m : Plain.State de). m.dims) (call-plain S ok typed s c k t.0) in
      let setup : (stepped s c).setup ≡ s.setup = setup-is (stepped s c) next ∙ sym (setup-is s k) in (
        next,
        placed (stepped s c) (ap setup_has_place setup ∙ setup-placed s p.1) (subst (All PlacedDim) (sym dims) after),
      )

  pub placed-fresh : setup_has_place S ≡ true → PlacedState (fresh_state S)
  unfolding Plain.fresh
  placed-fresh e =
      let k = reached-fresh S ok typed in
      let dims : dims_of (fresh_state S) ≡ [] = dims-are (fresh_state S) k ∙ ap (λ (m : Plain.State de). m.dims) (fresh-plain S ok typed) in
      (k, placed (fresh_state S) (ap setup_has_place (setup-is (fresh_state S) k) ∙ e) (subst (All PlacedDim) (sym dims) (all_nil PlacedDim)))

  pub placed-makes : (lent : List ℕ) → Room lent → (s : State) → PlacedState s → makes_file s lent ≡ true
  placed-makes lent room s p = room-enough lent room s (reached-savable S ok typed s p.0 p.1)

  -- EVERY SAVE COUNTS

  placed-all : (s : State) (cs : List (Call de)) → PlacedState s → All PlacedCall cs → PlacedState (led_to State (Call de) stepped s cs)
  unfolding led_to
  placed-all s [] p g = p
  placed-all s (c ∷ cs) p g = placed-all (stepped s c) cs (placed-call s c p (g c (Memᴰ.head refl))) (λ a m. g a (Memᴰ.tail m))

  pub every-save-counts : setup_has_place S ≡ true → (es : List (Event State (Call de))) → All PlacedEvent es
      → surviving_calls S es ≡ surviving State (Call de) (λ cs lent. true) es
  every-save-counts e es g =
      saves-alike State (Call de) (λ cs. makes_file (led S cs)) PlacedEvent true (λ cs k lent room. placed-makes lent room (led S cs) (placed-all (fresh_state S) cs (placed-fresh e) k)) es g

  -- UNDER MIDPOINT NONE DOES: a reboot starts the campaign anew, and the calls since the last one count
  pub no-save-counts : S.bounds_rule ≡ Midpoint → (es : List (Event State (Call de))) → All TypedEvent es
      → surviving_calls S es ≡ surviving State (Call de) (λ cs lent. false) es
  no-save-counts e es g = saves-alike State (Call de) (λ cs. makes_file (led S cs)) TypedEvent false none es g
    where
      none : (cs : List (Call de)) → All TypedCall cs → (lent : List ℕ) → Unit {0} → makes_file (led S cs) lent ≡ false
      none cs k lent room =
          let s = led S cs in
          let rule = ap (λ (T : Setup). T.bounds_rule) (setup-is s (led-reached S ok typed cs k)) ∙ e in
          ap (λ (r : BoundsRule). rule_has_place r && list_all dim_has_place (dims_of s) && leb (length (file_of s)) (length lent)) rule
