-- The writer: 13, "a state that isn't sound", and one that "the saved file has no place for", "before 12 in the writer", "a lent file too short".
use Rattle.std.specs.Prelude.{ℕ, Bool, ◌&&◌, cond, List, ◌++◌, leb, ltb, length, drop, Result, Ok, Err}
use Rattle.state.specs.Sound.{sound_state}
use Rattle.state.specs.declared.State.{State}
use Rattle.kinds.specs.Kinds.{has_place}
use Rattle.saved.specs.File.{file_of}
use Rattle.saved.specs.declared.FileRefusal.TheVariants.{BadFile, BadContent}
use Rattle.saved.specs.declared.FileRefusal.{FileRefusal}

-- the states that can be saved: sound, with clamp and without ladders, since "the saved file has no place for midpoint yet, so its writer gives 13
-- for such a state" (document 02, W7) and "the saved file's writer .. give[s] 13 for a ladder" (W9)
abbrev pub is_savable : State → Bool
is_savable s = sound_state s && has_place s

-- room is the lent file's length
unfoldable pub save_of : State → ℕ → Result ℕ FileRefusal
save_of s room = cond (is_savable s) (cond (ltb room (length (file_of s))) (Err BadFile) (Ok (length (file_of s)))) (Err BadContent)

-- "It reports the file's length and touches nothing past it"; a refusal touches nothing
unfoldable pub saved_in : State → List ℕ → List ℕ
saved_in s f = cond (is_savable s && leb (length (file_of s)) (length f)) (file_of s ++ drop (length (file_of s)) f) f
