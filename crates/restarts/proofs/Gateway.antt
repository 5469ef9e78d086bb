-- THE CODE'S RESTARTS: every state that typed calls lead to can be saved and comes back, if it has a place in a file, and else its save is refused. So the state that a gateway holds
-- is that of the surviving calls, and the claim of demand 3 holds of it as of one list. `TypedSetup` and `TypedCall` are what the types say of each set-up and call that the code is handed.
use Rattle.std.specs.Prelude.{Some, None, Ok, Err, is_ok, Result}
use Prim.Native.Nat.{ℕ, ◌≤◌}
use native.Mathlib.Omega.{arith}
use mathlib.Core.Bool.{Bool, true, false, cond, ◌&&◌}
use mathlib.Core.Path.{◌≡◌, refl, sym, ap, ◌∙◌, subst}
use mathlib.Core.List.Memᴰ
use mathlib.Core.List.{List, [], ◌∷◌}
use borrow.Author.Tests.{le-leb, le-ltb, lt-ltb, leb-true, leb-false}
use lib.Dec.{leb}
use lib.Ieee.{binary64, inf}
use lib.Ieee.Fits.{inf-fits}
use lib.ListN.{length}
use Rattle.history.specs.Entry.{is_complete, counted_value}
use Rattle.history.specs.declared.CompletedTrial.{CompletedTrial}
use Rattle.ledger.specs.State.{Returned, fresh}
use Rattle.ledger.specs.Call.{Call}
use Rattle.ledger.specs.Claim.{Claim, start, moments_from, end_from}
use Rattle.ledger.specs.Words.{All}
use Rattle.ledger.specs.Sample.{step}
use Rattle.ledger.specs.Soundness.{Sound}
use Rattle.ledger.specs.State as Plain
use Rattle.ledger.proofs.Sound.{step-sound, fresh-sound}
use Rattle.evolution.specs.declared.Setup.{Setup}
use Rattle.kernel.specs.De.{de}
use Rattle.kernel.proofs.Kernel.{de-laws}
use Rattle.kernel.specs.Setup.{setup_verdict}
use Rattle.state.specs.View.{laid, view}
use Rattle.state.specs.Sound.{sound_state}
use Rattle.state.specs.declared.State.{State}
use Rattle.std.proofs.lemmas.Bool.{and_parts}
use Rattle.state.proofs.Flags.{and-true}
use Rattle.state.proofs.Laid.{laid-sound, view-laid}
use Rattle.de.specs.Build.{fresh_state}
use Rattle.de.specs.Program.{ran, program}
use Rattle.de.specs.Sample.{sample_of, laid_result}
use Rattle.de.proofs.Demand.{de-demand3}
use Rattle.records.proofs.Written.{records-length}
use Rattle.kinds.specs.Kinds.{has_place}
use Rattle.kinds.specs.Typed.{TypedSetup, Double, Word}
use Rattle.kinds.proofs.Typed.{measured-of}
use Rattle.saved.specs.Save.{save_of, saved_in}
use Rattle.saved.specs.File.{file_of, pieces_of}
use Rattle.saved.specs.declared.FileRefusal.TheVariants.{BadFile, BadContent}
use Rattle.saved.specs.declared.Restored.{Restored}
use Rattle.saved.proofs.Wrote.{roomy, pieces-few}
use Rattle.saved.proofs.Contracts.{bytes-written}
use Rattle.saved.proofs.Reader.{no-place, not-savable}
use Rattle.saved.proofs.RoundTrip.{Savable, restored-save}
use Rattle.restarts.specs.Gateway.{kept_by, saved_file, if_taken, restored_from, stepped, gateway, led, makes_file, surviving_calls, TypedCall, TypedEvent, Room}
use Rattle.restarts.specs.Restart.{led_to, Event}
use Rattle.restarts.proofs.Restarts.{Back, one_list, end-led, one-claim}
use Rattle.restarts.proofs.Keep.{step-fine, fresh-fine, FineCall}
use Rattle.restarts.proofs.Laid.{laid-savable, FineState}
use Rattle.restarts.proofs.Made.{TypedDim, de-makes, Doubles}
use Rattle.saved.specs.declared.FileRefusal.{FileRefusal}

-- what an entry counts as is a double where its value is one
counted-double : (e : CompletedTrial) → Double e.value → Double (counted_value e)
unfolding counted_value
counted-double e d = go (is_complete e.state)
  where
    go : (b : Bool) → Double (cond b e.value (inf false))
    go true = d
    go false = inf-fits binary64 false

-- a typed call, as `Keep` has it
fine-call : (c : Call de) → TypedCall c → FineCall de Word Doubles TypedDim Double Word c
fine-call c t = record { number = t.number; distribution = t.distribution; history = λ e m. counted-double e (t.history e m) }

-- ---- what a save of a sound state answers, and what is kept of it

module _ (lent : List ℕ) (s : State) (sound : sound_state s ≡ true) where
  abbrev pub size : ℕ
  size = length (file_of s)

  abbrev pub Answered : Bool → Type 0
  Answered true = save_of s (length lent) ≡ Ok size
  Answered false = (r : FileRefusal) × (save_of s (length lent) ≡ Err r)

  answered : (p q : Bool) → has_place s ≡ p → leb size (length lent) ≡ q → Answered (p && q)
  unfolding save_of
  answered true true e f =
      λ i. cond (and-true sound e i) (cond (le-ltb (length lent) size (leb-true size (length lent) f) i) (Err BadFile) (Ok size)) (Err BadContent)
  answered true false e f =
      (BadFile, λ i. cond (and-true sound e i) (cond (lt-ltb (length lent) size (leb-false size (length lent) f) i) (Err BadFile) (Ok size)) (Err BadContent))
  answered false q e f = (BadContent, sym (not-savable s lent (no-place s lent e)).0)

  pub save-answered : Answered (makes_file s lent)
  save-answered = answered (has_place s) (leb size (length lent)) refl refl

  -- the file, or none
  abbrev pub Kept : Bool → Type 0
  Kept true = saved_file s lent ≡ Some (file_of s)
  Kept false = saved_file s lent ≡ None

  pub save-kept : Kept (makes_file s lent)
  save-kept = go (makes_file s lent) save-answered
    where
      go : (b : Bool) → Answered b → Kept b
      go true e = ap (λ (r : Result ℕ FileRefusal). kept_by r (saved_in s lent)) e ∙ ap Some (bytes-written s lent size e)
      go false e = ap (λ (r : Result ℕ FileRefusal). kept_by r (saved_in s lent)) e.1

-- a lent memory that is as large as the largest file is enough for each
pub room-enough : (lent : List ℕ) → Room lent → (s : State) → Savable s → makes_file s lent ≡ true
room-enough lent room s v = and-true v.place (le-leb (length (file_of s)) (length lent) short)
  where
    short : length (file_of s) ≤ length lent
    short = unfold file_of in
        let m = measured-of s v.typed in
        let few = pieces-few s m (roomy s m v.sound) in
        omega (arith, records-length (length (pieces_of s)) 0 (pieces_of s))

module _ (S : Setup) (ok : is_ok (setup_verdict S) ≡ true) (typed : TypedSetup S) where
  -- what holds of each state that typed calls lead to
  pub record Reached (s : State) : Type 0 where
    pub plain : Plain.State de
    pub sound : Sound de S plain
    pub fine : FineState plain
    pub is : s ≡ laid S plain

  pub reached-savable : (s : State) → Reached s → has_place s ≡ true → Savable s
  reached-savable s k h = subst Savable (sym k.is) (laid-savable S ok typed k.plain k.sound k.fine (subst (λ (t : State). has_place t ≡ true) k.is h))

  pub reached-sound : (s : State) → Reached s → sound_state s ≡ true
  reached-sound s k = subst (λ (t : State). sound_state t ≡ true) (sym k.is) (laid-sound S k.plain k.sound ok de-laws)

  sampled : (m : Plain.State de) (c : Call de) → Sound de S m → ran (laid S m) c ≡ laid_result S (step de S m c)
  unfolding sample_of laid
  sampled m c v = rw (laid-sound S m v ok de-laws) (ap (λ (x : Plain.State de). laid_result S (step de S x c)) (view-laid S m v))

  pub reached-call : (s : State) (c : Call de) → Reached s → TypedCall c → Reached (stepped s c)
  reached-call s c k t =
      record {
        plain = (step de S k.plain c).state;
        sound = step-sound de de-laws S ok k.plain c k.sound;
        fine = step-fine de Word Doubles TypedDim Double Word S (de-makes S typed.seed) k.plain c k.sound.dims_few k.fine (fine-call c t);
        is = ap (λ (x : State). stepped x c) k.is ∙ ap (λ (r : Returned de State). r.state) (sampled k.plain c k.sound);
      }

  pub reached-fresh : Reached (fresh_state S)
  unfolding fresh_state
  reached-fresh = record { plain = fresh de S; sound = fresh-sound de de-laws S; fine = fresh-fine de Word Doubles TypedDim Double Word S (de-makes S typed.seed); is = refl }

  -- the plain states beside them
  pub call-plain : (s : State) (c : Call de) (k : Reached s) (t : TypedCall c) → (reached-call s c k t).plain ≡ (step de S k.plain c).state
  unfolding reached-call
  call-plain s c k t = refl

  pub fresh-plain : reached-fresh.plain ≡ fresh de S
  unfolding reached-fresh
  fresh-plain = refl

  reached-all : (s : State) (cs : List (Call de)) → Reached s → All TypedCall cs → Reached (led_to State (Call de) stepped s cs)
  unfolding led_to
  reached-all s [] k g = k
  reached-all s (c ∷ cs) k g = reached-all (stepped s c) cs (reached-call s c k (g c (Memᴰ.head refl))) (λ a m. g a (Memᴰ.tail m))

  pub led-reached : (cs : List (Call de)) → All TypedCall cs → Reached (led S cs)
  led-reached cs g = reached-all (fresh_state S) cs reached-fresh g

  pub led-savable : (cs : List (Call de)) → All TypedCall cs → has_place (led S cs) ≡ true → Savable (led S cs)
  led-savable cs g h = reached-savable (led S cs) (led-reached cs g) h

  abbrev Saves : Bool → List (Call de) → List ℕ → Type 0
  Saves = Back State (Call de) stepped (λ old. fresh_state S) saved_file restored_from (fresh_state S) TypedEvent

  back : (cs : List (Call de)) → All TypedCall cs → (lent : List ℕ) → Saves (makes_file (led S cs) lent) cs lent
  back cs g lent = go (makes_file (led S cs) lent) refl (save-kept lent (led S cs) (reached-sound (led S cs) (led-reached cs g)))
    where
      go : (b : Bool) → makes_file (led S cs) lent ≡ b → Kept lent (led S cs) (reached-sound (led S cs) (led-reached cs g)) b → Saves b cs lent
      go true e k =
          let v = led-savable cs g (and_parts (has_place (led S cs)) _ e).0 in
          (file_of (led S cs), k, λ old. ap (λ (r : Restored). if_taken r.answer r.state) (restored-save (led S cs) v old))
      go false e k = k

  -- "A list of calls that passes through a save and its own restore counts as one list"
  pub gateway-one-list : (es : List (Event State (Call de))) → All TypedEvent es → gateway S es ≡ led S (surviving_calls S es)
  gateway-one-list es g =
      one_list State (Call de) stepped (λ old. fresh_state S) saved_file restored_from (fresh_state S) TypedEvent (λ cs. makes_file (led S cs)) (λ old. refl) (λ cs k lent w. back cs k lent) es g

  -- what the gateway answers to its next call is what it would answer had it never been rebooted; with `call-survives`, this is so of each surviving call
  pub gateway-answers : (es : List (Event State (Call de))) → All TypedEvent es → (c : Call de) → ran (gateway S es) c ≡ ran (led S (surviving_calls S es)) c
  gateway-answers es g c = ap (λ (s : State). ran s c) (gateway-one-list es g)

  -- "for share and for least result alike"
  pub gateway-claim : (es : List (Event State (Call de))) → All TypedEvent es
      → (let cs = surviving_calls S es in
      let end = end_from de (program S) S (start de (program S) S) cs in
      Claim de (program S) S (moments_from de (program S) S (start de (program S) S) cs) (view (gateway S es)) end.defined end.ledger)
  gateway-claim es g =
      let cs = surviving_calls S es in
      one-claim de (program S) S cs (gateway S es) (gateway-one-list es g ∙ sym (end-led de (program S) S (start de (program S) S) cs)) (de-demand3 S ok cs)
