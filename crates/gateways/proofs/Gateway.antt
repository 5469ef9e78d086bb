-- THE LIBRARY'S RESTARTS: the memory always holds, in numbers, a state that typed calls lead to (`Holds`); such a state can be saved and comes back, or its save is refused, so the
-- law of restarts (`one_list`) gives what the memory holds, and demand 3 of the library is a claim about it.
use Rattle.std.specs.Prelude.{Some, None, Ok, is_ok}
use Prim.Native.Nat.{ℕ}
use mathlib.Core.Path.{◌≡◌, refl, sym, ap, ◌∙◌, subst}
use mathlib.Core.Bool.{Bool, true, false, cond}
use mathlib.Core.List.Memᴰ
use mathlib.Core.List.{List, [], ◌∷◌}
use lib.Dec.{eqb}
use lib.ListN.{length, take}
use Rattle.evolution.specs.declared.Setup.{Setup}
use Rattle.ledger.specs.Call.{Call}
use Rattle.ledger.specs.Claim.{start}
use Rattle.ledger.specs.State as Plain
use Rattle.ledger.specs.Words.{All}
use Rattle.kernel.specs.De.{de}
use Rattle.kernel.specs.Setup.{setup_verdict}
use Rattle.state.specs.Sound.{sound_state}
use Rattle.state.specs.declared.State.{State}
use Rattle.std.proofs.lemmas.Bool.{and_parts}
use Rattle.de.specs.Build.{fresh_state}
use Rattle.de.specs.Program.{ran}
use Rattle.kinds.specs.Kinds.{has_place}
use Rattle.kinds.specs.Rows.{setup_has_place}
use Rattle.kinds.specs.Typed.{TypedSetup}
use Rattle.saved.specs.File.{file_of}
use Rattle.saved.specs.Save.{save_of, saved_in}
use Rattle.saved.specs.declared.FileRefusal.TheVariants.{BadContent}
use Rattle.saved.specs.declared.Restored.{Restored}
use Rattle.saved.proofs.Contracts.{bytes-written}
use Rattle.saved.proofs.RoundTrip.{Savable, restored-save}
use Rattle.edge.specs.declared.flat.DeSetup.{DeSetup}
use Rattle.edge.specs.declared.flat.DeState.{DeState}
use Rattle.edge.specs.Flat.{setup_of, open_of, flat_of}
use Rattle.edge.specs.Known.{known_setup}
use Rattle.files.specs.File.{refused_file, restored_answer, restored_file, save_answer, saved_answer, save_file}
use Rattle.exports.specs.Calls.{new_state, restore_answer, restore_state}
use Rattle.exports.specs.Program.{Sent, answer_to, called, is_known, leaves, library, meant, meant_by, spelled}
use Rattle.exports.proofs.AnyState.{any-answer, any-state, left}
use Rattle.exports.proofs.Demand.{library-demand3, new_is, meant_state}
use Rattle.exports.proofs.Edge.{flat-known, held_after, lossless, one_state, unknown-state}
use Rattle.restarts.specs.Gateway.{stepped, makes_file, TypedCall, PlacedCall, Room}
use Rattle.restarts.specs.Restart.{Event, led_to, surviving}
use Rattle.restarts.proofs.Gateway.{Answered, Reached, reached-call, reached-fresh, reached-savable, reached-sound, save-answered}
use Rattle.restarts.proofs.Placed.{PlacedState, placed-fresh, placed-call, placed-makes}
use Rattle.restarts.proofs.Restarts.{Back, saves-alike, end-led, one-claim, one_list}
use Rattle.gateways.specs.Gateway.{saved_file, restored_to, memory_after, led, surviving_calls, TypedEvent, PlacedEvent, OneList}

-- ---- a memory that holds a sound state

module _ (s : State) (sound : sound_state s ≡ true) (lent : List ℕ) where
  abbrev Written : Bool → Type 0
  Written true = saved_file (flat_of s) lent ≡ Some (file_of s)
  Written false = saved_file (flat_of s) lent ≡ None

  written : Written (makes_file s lent)
  unfolding save_answer save_file
  written = go (makes_file s lent) (save-answered lent s sound)
    where
      answer : save_answer (flat_of s) (length lent) ≡ saved_answer (save_of s (length lent))
      answer = λ i. cond (flat-known s i) (saved_answer (save_of (lossless s i) (length lent))) (refused_file BadContent)

      file : save_file (flat_of s) lent ≡ saved_in s lent
      file = λ i. cond (flat-known s i) (saved_in (lossless s i) lent) lent

      go : (b : Bool) → Answered lent s sound b → Written b
      go true e =
          let a = answer ∙ ap saved_answer e in
          (λ i. cond (eqb (a i).kind 1) (Some (take (a i).length (file i))) None) ∙ ap Some (bytes-written s lent (length (file_of s)) e)
      go false e =
          let a = answer ∙ ap saved_answer e.1 in
          λ i. cond (eqb (a i).kind 1) (Some (take (a i).length (file i))) None

module _ (s : State) (v : Savable s) where
  read : (g : DeState) → restored_to g (file_of s) ≡ Some (flat_of s)
  read g =
      let r = restored-save s v s in
      let answer : restore_answer (file_of s) ≡ restored_file = any-answer s (file_of s) ∙ ap (λ (z : Restored). restored_answer z.answer) r in
      let memory : restore_state g (file_of s) ≡ flat_of s = any-state s (file_of s) g ∙ ap (left g) r in
      λ i. cond (eqb (answer i).kind 2) (Some (memory i)) None

-- ---- what a call leaves is what the call that it stands for leaves

meant-led : (g : DeState) (qs : List Sent) → led_to DeState Sent leaves g qs ≡ led_to DeState (Call de) (λ m c. (called m (spelled c)).state) g (meant_by qs)
unfolding led_to meant_by
meant-led g [] = refl
meant-led g (q ∷ qs) = go (is_known q) refl (λ m. meant-led m qs)
  where
    go : (b : Bool) → is_known q ≡ b
        → ((m : DeState) → led_to DeState Sent leaves m qs ≡ led_to DeState (Call de) (λ x c. (called x (spelled c)).state) m (meant_by qs))
        → led_to DeState Sent leaves (leaves g q) qs ≡ led_to DeState (Call de) (λ x c. (called x (spelled c)).state) g (cond b (meant q ∷ meant_by qs) (meant_by qs))
    go true k rest = ap (λ (m : DeState). led_to DeState Sent leaves m qs) (meant_state g q k) ∙ rest (leaves g (spelled (meant q)))
    go false k rest = ap (λ (m : DeState). led_to DeState Sent leaves m qs) (unknown-state g q.call q.history k) ∙ rest g

module _ (f : DeState) (u : DeSetup) (known : known_setup u ≡ true) (ok : is_ok (setup_verdict (setup_of u)) ≡ true) (typed : TypedSetup (setup_of u)) where
  abbrev S : Setup
  S = setup_of u

  -- the memory holds a state such as a fresh one is, and as calls keep it
  module _ (R : State → Type 0) (Q : Call de → Type 0) (first : R (fresh_state S)) (next : (s : State) (c : Call de) → R s → Q c → R (stepped s c)) where
    record Holds (g : DeState) : Type 0 where
      pub state : State
      pub such : R state
      pub is : g ≡ flat_of state

    flat-holds : (s : State) (q : Sent) → R s → Q (meant q) → Holds (leaves (flat_of s) q)
    flat-holds s q r t = go (is_known q) refl
      where
        by_answer : (a : Plain.Answer de) → leaves (flat_of s) q ≡ held_after a s (ran s (meant q)).state → Holds (leaves (flat_of s) q)
        by_answer (Plain.given x) e = record { state = (ran s (meant q)).state; such = next s (meant q) r t; is = e }
        by_answer (Plain.refused n) e = record { state = s; such = r; is = e }

        go : (b : Bool) → is_known q ≡ b → Holds (leaves (flat_of s) q)
        go true k = by_answer (ran s (meant q)).answer (one_state s q.call q.history k)
        go false k = record { state = s; such = r; is = unknown-state (flat_of s) q.call q.history k }

    all-holds : (g : DeState) (qs : List Sent) → Holds g → All (λ (q : Sent). Q (meant q)) qs → Holds (led_to DeState Sent leaves g qs)
    unfolding led_to
    all-holds g [] h t = h
    all-holds g (q ∷ qs) h t =
        all-holds (leaves g q) qs
        (subst (λ (m : DeState). Holds (leaves m q)) (sym h.is) (flat-holds h.state q h.such (t q (Memᴰ.head refl))))
        (λ p m. t p (Memᴰ.tail m))

    led-holds : (qs : List Sent) → All (λ (q : Sent). Q (meant q)) qs → Holds (led f u qs)
    led-holds qs t = all-holds (new_state f u) qs (record { state = fresh_state S; such = first; is = new_is f u known ok }) t

    opened-is : (qs : List Sent) (h : Holds (led f u qs)) → open_of (led f u qs) ≡ h.state
    opened-is qs h = ap open_of h.is ∙ lossless h.state

  -- one that typed calls lead to
  abbrev Reaches : DeState → Type 0
  Reaches = Holds (Reached S ok typed) TypedCall (reached-fresh S ok typed) (reached-call S ok typed)

  abbrev Saves : Bool → List Sent → List ℕ → Type 0
  Saves = Back DeState Sent leaves (λ g. new_state g u) saved_file restored_to (new_state f u) TypedEvent

  back : (qs : List Sent) → All (λ (q : Sent). TypedCall (meant q)) qs → (lent : List ℕ) → Saves (makes_file (open_of (led f u qs)) lent) qs lent
  back qs t lent =
      let h : Reaches (led f u qs) = led-holds (Reached S ok typed) TypedCall (reached-fresh S ok typed) (reached-call S ok typed) qs t in
      let opened = opened-is (Reached S ok typed) TypedCall (reached-fresh S ok typed) (reached-call S ok typed) qs h in
      subst (λ (s : State). Saves (makes_file s lent) qs lent) (sym opened)
      (go h (makes_file h.state lent) refl (written h.state (reached-sound S ok typed h.state h.such) lent))
    where
      go : (h : Reaches (led f u qs)) (b : Bool) → makes_file h.state lent ≡ b → Written h.state (reached-sound S ok typed h.state h.such) lent b → Saves b qs lent
      go h true e w =
          let v = reached-savable S ok typed h.state h.such (and_parts (has_place h.state) _ e).0 in
          (file_of h.state, ap (λ (m : DeState). saved_file m lent) h.is ∙ w, λ g. read h.state v g ∙ ap Some (sym h.is))
      go h false e w = ap (λ (m : DeState). saved_file m lent) h.is ∙ w

  -- THE THEOREM
  pub library-one-list : (es : List (Event DeState Sent)) → All TypedEvent es → OneList f u es
  library-one-list es t =
      let qs = surviving_calls f u es in
      let memory : memory_after f u es ≡ led f u qs =
      one_list DeState Sent leaves (λ g. new_state g u) saved_file restored_to (new_state f u) TypedEvent (λ qs. makes_file (open_of (led f u qs)))
      (λ g. new_is g u known ok ∙ sym (new_is f u known ok)) (λ qs k lent w. back qs k lent) es t in
      let calls = library-demand3 f u known ok qs in
      record {
        memory = memory;
        next = λ q. ap (λ (m : DeState). answer_to m q) memory;
        calls = calls;
        claim = one-claim de (library f u) S (meant_by qs) (memory_after f u es)
            (memory ∙ meant-led (new_state f u) qs ∙ sym (end-led de (library f u) S (start de (library f u) S) (meant_by qs))) calls.claim;
      }

  -- EVERY SAVE COUNTS where the set-up has clamp, no call lends a ladder that 4 to 7 pass and each save has room for the largest file
  module _ (clamp : setup_has_place S ≡ true) where
    made : (qs : List Sent) → All (λ (q : Sent). PlacedCall (meant q)) qs → (lent : List ℕ) → Room lent → makes_file (open_of (led f u qs)) lent ≡ true
    made qs t lent room =
        let first = placed-fresh S ok typed clamp in
        let h = led-holds (PlacedState S ok typed) PlacedCall first (placed-call S ok typed) qs t in
        subst (λ (s : State). makes_file s lent ≡ true) (sym (opened-is (PlacedState S ok typed) PlacedCall first (placed-call S ok typed) qs h))
        (placed-makes S ok typed lent room h.state h.such)

    pub library-every-save-counts : (es : List (Event DeState Sent)) → All PlacedEvent es → surviving_calls f u es ≡ surviving DeState Sent (λ qs lent. true) es
    library-every-save-counts es t = saves-alike DeState Sent (λ qs. makes_file (open_of (led f u qs))) PlacedEvent true made es t
