-- The save call and the restore call in numbers.
use Rattle.std.specs.Prelude.{ℕ, cond, List, Result, Ok, Err}
use Rattle.saved.specs.Save.{save_of, saved_in}
use Rattle.saved.specs.Restore.{file_refusal_number}
use Rattle.saved.specs.declared.FileRefusal.{FileRefusal}
use Rattle.saved.specs.declared.FileRefusal.TheVariants.{BadContent}
use Rattle.edge.specs.declared.flat.DeState.{DeState}
use Rattle.files.specs.declared.file.DeFile.{DeFile}
use Rattle.edge.specs.Flat.{open_of}
use Rattle.edge.specs.Known.{known_state}

-- 0 refused, by check 12 or 13
abbrev pub refused_file : FileRefusal → DeFile
refused_file r = record { kind = 0; refusal = file_refusal_number r; length = 0 }

-- ---- the save call

-- 1 saved, with the file's length
abbrev pub saved_answer : Result ℕ FileRefusal → DeFile
saved_answer (Ok n) = record { kind = 1; refusal = 0; length = n }
saved_answer (Err r) = refused_file r

-- what goes out, room being the length of the lent file; a state with a number that names no case is not sound: 13, before 12
unfoldable pub save_answer : DeState → ℕ → DeFile
save_answer f room = cond (known_state f) (saved_answer (save_of (open_of f) room)) (refused_file BadContent)

-- what the lent file holds after the call
unfoldable pub save_file : DeState → List ℕ → List ℕ
save_file f bytes = cond (known_state f) (saved_in (open_of f) bytes) bytes

-- ---- the restore call

-- 2 restored
abbrev pub restored_file : DeFile
restored_file = record { kind = 2; refusal = 0; length = 0 }

-- what goes out, by what is read of the file
abbrev pub restored_answer : {A : Type 0} → Result A FileRefusal → DeFile
restored_answer (Ok s) = restored_file
restored_answer (Err r) = refused_file r
