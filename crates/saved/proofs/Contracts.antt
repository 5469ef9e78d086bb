-- What the contracts of `save` and `restore` say together: f is the lent file, n the length that `save` answers.
use Rattle.std.specs.Prelude.{Result, Ok, Err}
use Prim.Native.Nat.{ℕ, ◌≤◌}
use native.Mathlib.Omega.{arith}
use mathlib.Core.Path.{◌≡◌, refl, sym, ap, ◌∙◌}
use mathlib.Core.Bool.{true, cond, Bool, false, ◌&&◌}
use mathlib.Core.List.{List, ◌++◌}
use borrow.Author.Tests.{le-leb, lt-leb, ltb-true, ltb-false}
use lib.ListN.{length, drop, take}
use lib.Dec.{leb, ltb}
use lib.Seq.{take_at, drop_at}
use Rattle.state.specs.Sound.{sound_state}
use Rattle.state.specs.declared.State.{State}
use Rattle.saved.specs.File.{file_of}
use Rattle.saved.specs.Restore.{taken, restore_of}
use Rattle.kinds.specs.Kinds.{has_place}
use Rattle.saved.specs.Save.{is_savable, save_of, saved_in}
use Rattle.std.proofs.lemmas.Bool.{and_parts}
use Rattle.saved.specs.declared.FileRefusal.TheVariants.{BadFile, BadContent}
use Rattle.saved.specs.declared.FileRefusal.{FileRefusal}
use Rattle.saved.proofs.RoundTrip.{Savable, restored-save}

is_length : Result ℕ FileRefusal → ℕ
is_length (Ok n) = 1
is_length (Err r) = 0

length_of : Result ℕ FileRefusal → ℕ
length_of (Ok n) = n
length_of (Err r) = 0

module _ (s : State) (f : List ℕ) where
  abbrev size : ℕ
  size = length (file_of s)

  answer : Bool → Bool → Result ℕ FileRefusal
  answer fine short = cond fine (cond short (Err BadFile) (Ok size)) (Err BadContent)

  answered : (x y : Bool) → is_savable s ≡ x → ltb (length f) size ≡ y → save_of s (length f) ≡ answer x y
  unfolding save_of answer
  answered x y p q = λ i. cond (p i) (cond (q i) (Err BadFile) (Ok size)) (Err BadContent)

  -- where `save` answers a length, the file starts with the state's file, and is then as it was
  written : (x y : Bool) → is_savable s ≡ x → ltb (length f) size ≡ y → (n : ℕ) → answer x y ≡ Ok n → (n ≡ size) × (is_savable s ≡ true) × (saved_in s f ≡ file_of s ++ drop size f)
  unfolding saved_in answer is_length length_of
  written true false p q n e =
      let l : size ≤ length f = ltb-false (length f) size q in
      (sym (ap length_of e), p, (λ i. cond (p i && le-leb size (length f) l i) (file_of s ++ drop size f) f))
  written true true p q n e = let z = ap is_length e in absurd (omega arith)
  written false y p q n e = let z = ap is_length e in absurd (omega arith)

  -- where it refuses, the file is as it was
  unwritten : (x y : Bool) → is_savable s ≡ x → ltb (length f) size ≡ y → (r : FileRefusal) → answer x y ≡ Err r → saved_in s f ≡ f
  unfolding saved_in answer is_length
  unwritten true false p q r e = let z = ap is_length e in absurd (omega arith)
  unwritten true true p q r e = λ i. cond (p i && lt-leb size (length f) (ltb-true (length f) size q) i) (file_of s ++ drop size f) f
  unwritten false y p q r e = λ i. cond (p i && leb size (length f)) (file_of s ++ drop size f) f

  module _ (n : ℕ) (e : save_of s (length f) ≡ Ok n) where
    all : (n ≡ size) × (is_savable s ≡ true) × (saved_in s f ≡ file_of s ++ drop size f)
    all = written (is_savable s) (ltb (length f) size) refl refl n (sym (answered (is_savable s) (ltb (length f) size) refl refl) ∙ e)

    -- only a sound state is written, and one that the file has a place for
    pub is-sound : sound_state s ≡ true
    is-sound = (and_parts (sound_state s) (has_place s) all.1).0

    pub in-place : has_place s ≡ true
    in-place = (and_parts (sound_state s) (has_place s) all.1).1

    -- "It reports the file's length and touches nothing past it"
    pub file-length : n ≡ length (file_of s)
    file-length = all.0

    pub bytes-written : take n (saved_in s f) ≡ file_of s
    bytes-written = ap (take n) all.2 ∙ take_at (file_of s) (drop size f) n (sym all.0)

    pub past-untouched : drop n (saved_in s f) ≡ drop n f
    past-untouched = ap (drop n) all.2 ∙ drop_at (file_of s) (drop size f) n (sym all.0) ∙ ap (λ (k : ℕ). drop k f) (sym all.0)

    -- "Restoring a save yields the very state that was saved"
    pub restored : (old : State) → Savable s → restore_of old (take n (saved_in s f)) ≡ taken s
    restored old v = ap (restore_of old) bytes-written ∙ restored-save s v old

  pub refused-untouched : (r : FileRefusal) → save_of s (length f) ≡ Err r → saved_in s f ≡ f
  refused-untouched r e =
      unwritten (is_savable s) (ltb (length f) size) refl refl r (sym (answered (is_savable s) (ltb (length f) size) refl refl) ∙ e)
