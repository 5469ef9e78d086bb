-- The kept file that the lines of a script make.
use Rattle.std.specs.Prelude.{ℕ, cond, List, leb, replicate, Result, Ok, Err, ⊤}
use Rattle.script.specs.Hex.{put_bytes, put_into, fits_at}
use Rattle.script.specs.declared.command.Command.{Command}
use Rattle.script.specs.declared.command.Command.TheVariants.{Skip, Clear, Tell, File, Put, Ask}
use Rattle.lines.specs.declared.Stop.{Stop}
use Rattle.lines.specs.declared.Stop.TheVariants.{Malformed}

-- malformed is "a `file` of more than 81,920 bytes", which is the room
abbrev pub made_to : ℕ → ℕ → Result ⊤ Stop
made_to room l = cond (leb l room) (Ok tt) (Err Malformed)

-- "`file LENGTH` makes the kept file LENGTH zero bytes", where it has room for them
abbrev pub file_made : ℕ → ℕ → List ℕ → List ℕ
file_made room l f = cond (leb l room) (replicate l 0) f

-- malformed is "a `put` past the end of the kept file" f
abbrev pub put_to : ℕ → List ℕ → List ℕ → Result ⊤ Stop
put_to at bytes f = cond (fits_at at bytes f) (Ok tt) (Err Malformed)

-- "`put OFFSET HEX` overwrites bytes of the kept file from OFFSET on"; text is the line itself, which has the bytes
abbrev pub file_after : List ℕ → Command → List ℕ → List ℕ
file_after text (File l) f = file_made 81920 l f
file_after text (Put at) f = put_into at (put_bytes text) f
file_after text Skip f = f
file_after text Clear f = f
file_after text (Tell entry) f = f
file_after text (Ask question) f = f
