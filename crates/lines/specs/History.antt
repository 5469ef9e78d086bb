-- The history that the lines of a script make.
use Rattle.std.specs.Prelude.{ℕ, cond, List, [], ◌∷◌, ◌++◌, length, ltb, Result, Ok, Err, ⊤}
use Rattle.history.specs.declared.CompletedTrial.{CompletedTrial}
use Rattle.script.specs.declared.command.Command.{Command}
use Rattle.script.specs.declared.command.Command.TheVariants.{Skip, Clear, Tell, File, Put, Ask}
use Rattle.lines.specs.declared.Stop.{Stop}
use Rattle.lines.specs.declared.Stop.TheVariants.{Malformed}

-- malformed is a `tell` to n entries that would make "more than 65,536 entries in the history", which is the room
abbrev pub told_to : ℕ → ℕ → Result ⊤ Stop
told_to room n = cond (ltb n room) (Ok tt) (Err Malformed)

-- "`tell` appends an entry", where there is room for it
abbrev pub entry_told : ℕ → CompletedTrial → List CompletedTrial → List CompletedTrial
entry_told room entry h = cond (ltb (length h) room) (h ++ (entry ∷ [])) h

-- "`clear` empties the history"; what a `tell` makes of it
abbrev pub history_after : Command → List CompletedTrial → List CompletedTrial
history_after Clear h = []
history_after (Tell entry) h = entry_told 65536 entry h
history_after Skip h = h
history_after (File length) h = h
history_after (Put at) h = h
history_after (Ask question) h = h
