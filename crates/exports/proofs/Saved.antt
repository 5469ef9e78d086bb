-- TUNING THAT SURVIVES A RESTART, OF THE LIBRARY (W2): a memory that was saved is restored to any other, and the calls after it are answered as before it. It is `survives` of the crate saved, since
-- opening what was flattened gives the state back, and what a memory stands for alone decides what a call answers.
use Rattle.std.specs.Prelude.{Result, Ok, Err, is_ok}
use Prim.Native.Nat.{ℕ}
use native.Mathlib.Omega.{arith}
use mathlib.Core.Path.{◌≡◌, refl, sym, ap, subst, ◌∙◌}
use mathlib.Core.Bool.{Bool, true, false, cond, true≢false}
use mathlib.Core.List.{List, [], ◌∷◌, map}
use mir.Val.{Val}
use denote.Laws.{Is}
use lib.ListN.{length, take, drop}
use Rattle.distribution.specs.declared.Refusal.TheVariants.{StateNotSound}
use Rattle.evolution.specs.BoundsRule.{rule_number}
use Rattle.state.specs.declared.State.{State}
use Rattle.de.specs.Sample.{sample_of}
use Rattle.saved.specs.Restore.{taken, state_read, restore_of}
use Rattle.saved.specs.Save.{save_of, saved_in}
use Rattle.saved.specs.declared.FileRefusal.TheVariants.{BadContent}
use Rattle.saved.specs.declared.Restored.{Restored}
use Rattle.saved.proofs.Contracts.{past-untouched, refused-untouched}
use Rattle.saved.specs.Ladder.{HasLadder, OtherWordsFile}
use Rattle.saved.proofs.Place.{midpoint-unsaved, ladder-unsaved, ladder-read, read-clamp, read-no-ladder}
use Rattle.saved.proofs.Survives.{survives}
use Rattle.edge.specs.contracts.flat.DeState as F
use Rattle.edge.specs.Answers.{settled_of, told}
use Rattle.files.specs.File.{refused_file, saved_answer, save_answer, save_file, restored_answer}
use Rattle.edge.specs.Flat.{rule_of, setup_of, open_with, open_of, flat_setup, flat_of, distribution_of}
use Rattle.edge.specs.Held.{held_at, held_by, held_answer}
use Rattle.edge.specs.Known.{known_state, opened_state}
use Rattle.edge.specs.Look.{look_at, look_by}
use Rattle.edge.specs.Trial.{trial_of}
use Rattle.files.specs.declared.file.DeFile.{DeFile}
use Rattle.edge.specs.declared.flat.DeState.{DeState}
use Rattle.exports.specs.Calls.{known_call, settled_sample, sample_answer, sample_state, restore_answer, stored_over, restore_state}
use Rattle.exports.specs.Program.{Sent, answer_to, leaves}
use Rattle.exports.specs.Saved.{answers_from, Survives}
use Rattle.exports.proofs.AnyState.{left, any-answer, any-state}
use Rattle.exports.proofs.Edge.{lossless, flat-known}
use Rattle.exports.proofs.Typed.{opened-typed}
use Rattle.saved.specs.declared.FileRefusal.{FileRefusal}

-- ---- two memories that stand for one state are answered alike

pub record Alike (f g : DeState) : Type 0 where
  pub known : known_state f ≡ known_state g
  pub opened : open_of f ≡ open_of g

module _ (f g : DeState) (a : Alike f g) (q : Sent) where
  settled : settled_sample f q.call q.history ≡ settled_sample g q.call q.history
  settled = λ i. let r = sample_of (a.opened i) (distribution_of q.call.distribution) q.call.trial (map trial_of q.history) in settled_of (known_call q.call q.history) (a.known i) r.answer r.draws

  alike-answer : answer_to f q ≡ answer_to g q
  unfolding sample_answer
  alike-answer = ap told settled

  alike-after : Alike (leaves f q) (leaves g q)
  unfolding sample_state
  alike-after = go (is_ok (settled_sample f q.call q.history)) (is_ok (settled_sample g q.call q.history)) (ap is_ok settled)
    where
      next : DeState → DeState
      next m = flat_of (sample_of (open_of m) (distribution_of q.call.distribution) q.call.trial (map trial_of q.history)).state

      same : next f ≡ next g
      same = λ i. flat_of (sample_of (a.opened i) (distribution_of q.call.distribution) q.call.trial (map trial_of q.history)).state

      go : (x y : Bool) → x ≡ y → Alike (cond x (next f) f) (cond y (next g) g)
      go true true e = record { known = ap known_state same; opened = ap open_of same }
      go false false e = a
      go true false e = absurd (true≢false e)
      go false true e = absurd (true≢false (sym e))

alike-answers : (qs : List Sent) (f g : DeState) → Alike f g → answers_from f qs ≡ answers_from g qs
unfolding answers_from
alike-answers [] f g a = refl
alike-answers (q ∷ qs) f g a = λ i. alike-answer f g a q i ∷ alike-answers qs (leaves f q) (leaves g q) (alike-after f g a q) i

module _ (f g : DeState) (a : Alike f g) where
  alike-opened : opened_state f ≡ opened_state g
  unfolding opened_state
  alike-opened = λ i. cond (a.known i) (Ok (a.opened i)) (Err StateNotSound)

  alike-look : look_at f ≡ look_at g
  unfolding look_at
  alike-look = λ i. look_by (alike-opened i)

  alike-held : (i k : ℕ) → held_at f i k ≡ held_at g i k
  unfolding held_at
  alike-held i k = λ j. held_answer (held_by (alike-opened j) i k)

  alike-saves : (lent : List ℕ) → (save_answer f (length lent) ≡ save_answer g (length lent)) × (save_file f lent ≡ save_file g lent)
  unfolding save_answer save_file
  alike-saves lent = (
    λ j. cond (a.known j) (saved_answer (save_of (a.opened j) (length lent))) (refused_file BadContent),
    λ j. cond (a.known j) (saved_in (a.opened j) lent) lent,
  )

-- ---- what a save call's answer says

-- a save call that answers saved had a known state, and is the writer's own
pub record Saves (f : DeState) (file : List ℕ) (n : ℕ) : Type 0 where
  pub known : known_state f ≡ true
  pub written : save_of (open_of f) (length file) ≡ Ok n

is-length : (a : Result ℕ FileRefusal) (n : ℕ) → saved_answer a ≡ saved_answer (Ok n) → a ≡ Ok n
is-length (Ok m) n e = ap Ok (ap (λ (z : DeFile). z.length) e)
is-length (Err r) n e = let z = ap (λ (z : DeFile). z.kind) e in absurd (omega arith)

module _ (f : DeState) (file : List ℕ) where
  saves : (n : ℕ) → save_answer f (length file) ≡ saved_answer (Ok n) → Saves f file n
  unfolding save_answer
  saves n e = go (known_state f) refl e
    where
      go : (b : Bool) → known_state f ≡ b → cond b (saved_answer (save_of (open_of f) (length file))) (refused_file BadContent) ≡ saved_answer (Ok n) → Saves f file n
      go true k w = record { known = k; written = is-length (save_of (open_of f) (length file)) n w }
      go false k w = let z = ap (λ (z : DeFile). z.kind) w in absurd (omega arith)

  known-file : known_state f ≡ true → save_file f file ≡ saved_in (open_of f) file
  unfolding save_file
  known-file k = ap (λ (b : Bool). cond b (saved_in (open_of f) file) file) k

-- ---- THE THEOREMS

-- for every memory f that a save call answers saved for, and every memory g; of f its type is the only hypothesis
module _ (f g : DeState) (us : List Val) (typed : Is F.the_row f us) (file : List ℕ) (n : ℕ) (e : save_answer f (length file) ≡ saved_answer (Ok n)) where
  abbrev s : Saves f file n
  s = saves f file n e

  read : restore_of (open_of f) (take n (save_file f file)) ≡ taken (open_of f)
  read =
      ap (λ (bytes : List ℕ). restore_of (open_of f) (take n bytes)) (known-file f file s.known)
      ∙ survives (open_of f) (open_of f) _ (opened-typed f us typed).1 file n s.written

  held : restore_state g (take n (save_file f file)) ≡ flat_of (open_of f)
  held = any-state (open_of f) (take n (save_file f file)) g ∙ ap (left g) read

  alike : Alike (restore_state g (take n (save_file f file))) f
  alike = record { known = ap known_state held ∙ flat-known (open_of f) ∙ sym s.known; opened = ap open_of held ∙ lossless (open_of f) }

  pub library-survives : Survives f file n g
  library-survives =
      record {
        answer = any-answer (open_of f) (take n (save_file f file)) ∙ ap (λ (r : Restored). restored_answer r.answer) read;
        holds = held;
        goes_on = λ qs. alike-answers qs _ f alike;
        looks = alike-look _ f alike;
        slots = alike-held _ f alike;
        saves = alike-saves _ f alike;
        past = ap (drop n) (known-file f file s.known) ∙ past-untouched (open_of f) file n s.written;
      }

restore-refuses : (g : DeState) (bytes : List ℕ) → (restore_answer bytes).kind ≡ 0 → restore_state g bytes ≡ g
unfolding restore_answer restore_state
restore-refuses g bytes e = go (state_read bytes) e
  where
    go : (r : Result State FileRefusal) → (restored_answer r).kind ≡ 0 → stored_over g r ≡ g
    go (Ok s) w = absurd (omega arith)
    go (Err why) w = refl

save-refuses : (f : DeState) (file : List ℕ) → (save_answer f (length file)).kind ≡ 0 → save_file f file ≡ file
unfolding save_answer save_file
save-refuses f file e = go (known_state f) (save_of (open_of f) (length file)) refl e
  where
    go : (b : Bool) (a : Result ℕ FileRefusal) → save_of (open_of f) (length file) ≡ a → (cond b (saved_answer a) (refused_file BadContent)).kind ≡ 0 → cond b (saved_in (open_of f) file) file ≡ file
    go false a k w = refl
    go true (Ok n) k w = absurd (omega arith)
    go true (Err r) k w = refused-untouched (open_of f) file r k

-- a refused restore call leaves the memory as it was, and a refused save call the lent file
pub library-refuses : (f g : DeState) (file bytes : List ℕ) → ((restore_answer bytes).kind ≡ 0 → restore_state g bytes ≡ g) × ((save_answer f (length file)).kind ≡ 0 → save_file f file ≡ file)
library-refuses f g file bytes = (restore-refuses g bytes, save-refuses f file)

-- what the writer refuses by 13, a save call does
unsaved : (f : DeState) (file : List ℕ) → (save_of (open_of f) (length file) ≡ Err BadContent) × (saved_in (open_of f) file ≡ file)
    → (save_answer f (length file) ≡ refused_file BadContent) × (save_file f file ≡ file)
unfolding save_answer save_file
unsaved f file = go (known_state f)
  where
    go : (b : Bool) → (save_of (open_of f) (length file) ≡ Err BadContent) × (saved_in (open_of f) file ≡ file)
        → (cond b (saved_answer (save_of (open_of f) (length file))) (refused_file BadContent) ≡ refused_file BadContent) × (cond b (saved_in (open_of f) file) file ≡ file)
    go true u = (ap saved_answer u.0, u.1)
    go false u = (refl, refl)

-- "the saved file has no place for midpoint yet" (document 02, W7): a save call of such a memory is refused by 13 and writes nothing, whatever file is lent
pub library-midpoint-unsaved : (f : DeState) (file : List ℕ) → f.setup.bounds_rule ≡ 1 → (save_answer f (length file) ≡ refused_file BadContent) × (save_file f file ≡ file)
unfolding setup_of open_with
library-midpoint-unsaved f file e = unsaved f file (midpoint-unsaved (open_of f) file (ap rule_of e))

-- "the saved file's writer and reader give 13 for a ladder" (document 02, W9): likewise of a memory with a ladder among its dimensions,
pub library-ladder-unsaved : (f : DeState) (file : List ℕ) → HasLadder (open_of f) → (save_answer f (length file) ≡ refused_file BadContent) × (save_file f file ≡ file)
library-ladder-unsaved f file l = unsaved f file (ladder-unsaved (open_of f) file l)

-- and a restore call of a file that says one gives 13 and leaves the memory as it was
pub library-ladder-read : (g : DeState) (bytes : List ℕ) → OtherWordsFile bytes → (restore_answer bytes ≡ refused_file BadContent) × (restore_state g bytes ≡ g)
unfolding restore_answer restore_state
library-ladder-read g bytes l = (ap restored_answer (ladder-read bytes l), ap (stored_over g) (ladder-read bytes l))

-- what a restore call gives has clamp
pub library-read-clamp : (g : DeState) (bytes : List ℕ) → (restore_answer bytes).kind ≡ 2 → (restore_state g bytes).setup.bounds_rule ≡ 0
unfolding restore_answer restore_state flat_of flat_setup
library-read-clamp g bytes e = go (state_read bytes) refl e
  where
    go : (r : Result State FileRefusal) → state_read bytes ≡ r → (restored_answer r).kind ≡ 2 → (stored_over g r).setup.bounds_rule ≡ 0
    go (Ok s) q w = ap rule_number (read-clamp bytes s q)
    go (Err why) q w = absurd (omega arith)

-- and no ladder
pub library-read-no-ladder : (g : DeState) (bytes : List ℕ) → (restore_answer bytes).kind ≡ 2 → HasLadder (open_of (restore_state g bytes)) → ⊥
unfolding restore_answer restore_state
library-read-no-ladder g bytes e = go (state_read bytes) refl e
  where
    go : (r : Result State FileRefusal) → state_read bytes ≡ r → (restored_answer r).kind ≡ 2 → HasLadder (open_of (stored_over g r)) → ⊥
    go (Ok s) q w l = read-no-ladder bytes s q (subst HasLadder (lossless s) l)
    go (Err why) q w l = absurd (omega arith)
