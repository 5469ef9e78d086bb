-- NO NAN, OF THE LIBRARY (document 02, W8): whatever a C caller sends to a memory that holds a sound state, all entries then are small; and a memory with
-- an entry over 4e300 in size is refused by the calls that read a state. Each is the sampler's theorem on what the memory stands for.
use Rattle.std.specs.Prelude.{Result, Ok, Err, is_ok}
use Prim.Native.Nat.{ℕ}
use native.Mathlib.Omega.{arith}
use mathlib.Core.Path.{◌≡◌, refl, sym, ap, subst, ◌∙◌}
use mathlib.Core.Bool.{Bool, true, false, cond}
use mathlib.Core.List.{List, map}
use lib.ListN.{length}
use Rattle.distribution.specs.declared.Refusal.TheVariants.{StateNotSound}
use Rattle.ledger.specs.State as Plain
use Rattle.state.specs.Small.{SmallEntries, LargeEntry}
use Rattle.state.specs.Sound.{sound_state}
use Rattle.state.specs.declared.State.{State}
use Rattle.state.proofs.Small.{sound-small}
use Rattle.slots.proofs.Large.{large-looked, large-held}
use Rattle.de.proofs.NoNan.{no-nan, large-refused}
use Rattle.saved.specs.Large.{LargeFile}
use Rattle.saved.specs.Restore.{state_read}
use Rattle.saved.specs.Save.{save_of, saved_in}
use Rattle.saved.specs.declared.FileRefusal.{FileRefusal}
use Rattle.saved.specs.declared.FileRefusal.TheVariants.{BadContent}
use Rattle.saved.proofs.Large.{read-small, large-read, large-unsaved}
use Rattle.edge.specs.declared.flat.DeState.{DeState}
use Rattle.edge.specs.Answers.{bare_answer, settled_of, told}
use Rattle.edge.specs.Flat.{distribution_of, open_of, flat_of}
use Rattle.edge.specs.Known.{known_state, opened_state}
use Rattle.edge.specs.Held.{held_answer, held_by, held_at}
use Rattle.edge.specs.Trial.{trial_of}
use Rattle.edge.specs.Look.{looked, refused_look, look_by, look_at}
use Rattle.files.specs.File.{refused_file, saved_answer, save_answer, save_file, restored_answer}
use Rattle.exports.specs.Calls.{sampled_from, settled_sample, sample_answer, sample_state, restore_answer, stored_over, restore_state}
use Rattle.exports.specs.Program.{Sent, is_known, answer_to, leaves}
use Rattle.exports.proofs.Edge.{lossless}

-- ---- a sound memory

-- "fresh, restored or handed in": any memory that holds a sound state
pub library-no-nan : (f : DeState) (q : Sent) → sound_state (open_of f) ≡ true → SmallEntries (open_of (leaves f q))
unfolding sample_state
library-no-nan f q e = go (is_ok (settled_sample f q.call q.history))
  where
    after : State
    after = (sampled_from f q.call q.history).state

    go : (b : Bool) → SmallEntries (open_of (cond b (flat_of after) f))
    go true = subst SmallEntries (sym (lossless after)) (no-nan (open_of f) _ _ _ e)
    go false = sound-small (open_of f) e

-- what a restore call gives
pub library-read-small : (g : DeState) (bytes : List ℕ) → (restore_answer bytes).kind ≡ 2 → SmallEntries (open_of (restore_state g bytes))
unfolding restore_answer restore_state
library-read-small g bytes e = go (state_read bytes) refl e
  where
    go : (r : Result State FileRefusal) → state_read bytes ≡ r → (restored_answer r).kind ≡ 2 → SmallEntries (open_of (stored_over g r))
    go (Ok s) q w = subst SmallEntries (sym (lossless s)) (read-small bytes s q)
    go (Err why) q w = absurd (omega arith)

-- and of a file that says an entry over 4e300 in size it gives none: 13, and the memory is as it was
pub library-large-read : (g : DeState) (bytes : List ℕ) → LargeFile bytes → (restore_answer bytes ≡ refused_file BadContent) × (restore_state g bytes ≡ g)
unfolding restore_answer restore_state
library-large-read g bytes l = (ap restored_answer (large-read bytes l), ap (stored_over g) (large-read bytes l))

-- ---- a memory with an entry over 4e300 in size

module _ (f : DeState) (l : LargeEntry (open_of f)) where
  module _ (q : Sent) (k : is_known q ≡ true) where
    large-settled : settled_sample f q.call q.history ≡ Err (bare_answer 0 0)
    unfolding settled_of
    large-settled =
        (λ i. let r = large-refused (open_of f) (distribution_of q.call.distribution) q.call.trial (map trial_of q.history) l i in settled_of (k i) (known_state f) r.answer r.draws)
        ∙ go (known_state f)
      where
        go : (b : Bool) → settled_of true b (Plain.refused 0) 0 ≡ Err (bare_answer 0 0)
        go true = refl
        go false = refl

    -- "a sample .. call gives 0 for it", and the memory is as it was
    pub library-large-sampled : (answer_to f q ≡ bare_answer 0 0) × (leaves f q ≡ f)
    unfolding sample_answer sample_state
    library-large-sampled = (ap told large-settled, ap (λ r. cond (is_ok r) (flat_of (sampled_from f q.call q.history).state) f) large-settled)

  -- "or look call"
  pub library-large-looked : look_at f ≡ refused_look StateNotSound
  unfolding look_at opened_state looked
  library-large-looked = go (known_state f)
    where
      go : (b : Bool) → look_by (cond b (Ok (open_of f)) (Err StateNotSound)) ≡ refused_look StateNotSound
      go true = ap looked (large-looked (open_of f) l)
      go false = refl

  -- and so does the call for what a slot holds
  pub library-large-held : (i k : ℕ) → held_at f i k ≡ held_answer (Err StateNotSound)
  unfolding held_at opened_state
  library-large-held i k = go (known_state f)
    where
      go : (b : Bool) → held_answer (held_by (cond b (Ok (open_of f)) (Err StateNotSound)) i k) ≡ held_answer (Err StateNotSound)
      go true = ap held_answer (large-held (open_of f) l i k)
      go false = refl

  -- and the writer's 13
  pub library-large-unsaved : (file : List ℕ) → (save_answer f (length file) ≡ refused_file BadContent) × (save_file f file ≡ file)
  unfolding save_answer save_file
  library-large-unsaved file = go (known_state f) (large-unsaved (open_of f) file l)
    where
      go : (b : Bool) → (save_of (open_of f) (length file) ≡ Err BadContent) × (saved_in (open_of f) file ≡ file)
          → (cond b (saved_answer (save_of (open_of f) (length file))) (refused_file BadContent) ≡ refused_file BadContent) × (cond b (saved_in (open_of f) file) file ≡ file)
      go true u = (ap saved_answer u.0, u.1)
      go false u = (refl, refl)
