-- What a save leaves in the kept file's array f, by what it answers.
use Rattle.std.proofs.Common.{◌≡◌, ℕ, ◌<◌, ◌≤◌, ◌⊎◌, Bool, true, false, List, length, take, drop, Ok, Err, refl, inl, inr, arith}
use Rattle.std.proofs.lemmas.Bool.{cases_lt, lt-ltb, le-ltb, lt-leb, le-leb}
use Rattle.std.proofs.lemmas.List.{take_at}
use Rattle.saved.specs.File.{file_of}
use Rattle.saved.specs.Save.{is_savable, save_of, saved_in}
use Rattle.saved.specs.declared.FileRefusal.{FileRefusal}
use Rattle.state.specs.declared.State.{State}

module _ (s : State) (f : List ℕ) where
  pub saved : (n : ℕ) → save_of s (length f) ≡ Ok n → (n ≤ length f) × (take n (saved_in s f) ≡ file_of s)
  unfolding save_of saved_in
  saved n e = go (is_savable s) refl (cases_lt (length f) (length (file_of s)))
    where
      go : (t : Bool) → is_savable s ≡ t → (length f < length (file_of s)) ⊎ (length (file_of s) ≤ length f) → (n ≤ length f) × (take n (saved_in s f) ≡ file_of s)
      go false h o = let k = rw h at e in cc
      go true h (inl l) = let k = rw (h, lt-ltb (length f) (length (file_of s)) l) at e in cc
      go true h (inr l) =
          let k = rw (h, le-ltb (length f) (length (file_of s)) l) at e in
          let size : length (file_of s) ≡ n = cc in
          (omega arith, rw (h, le-leb (length (file_of s)) (length f) l) (take_at (file_of s) (drop (length (file_of s)) f) n size))

  pub unsaved : (why : FileRefusal) → save_of s (length f) ≡ Err why → saved_in s f ≡ f
  unfolding save_of saved_in
  unsaved why e = go (is_savable s) refl (cases_lt (length f) (length (file_of s)))
    where
      go : (t : Bool) → is_savable s ≡ t → (length f < length (file_of s)) ⊎ (length (file_of s) ≤ length f) → saved_in s f ≡ f
      go false h o = rw h
      go true h (inl l) = rw (h, lt-leb (length (file_of s)) (length f) l)
      go true h (inr l) = let k = rw (h, le-ltb (length f) (length (file_of s)) l) at e in cc
