-- What a line comes to, and what it leaves behind.
use Rattle.std.specs.Prelude.{ℕ, List, ◌≡◌, ◌≤◌, length, Option, Some, None, Result, Ok, Err, ⊤}
use Rattle.history.specs.declared.CompletedTrial.{CompletedTrial}
use Rattle.script.specs.Commands.{command_of}
use Rattle.script.specs.Hex.{put_bytes}
use Rattle.script.specs.declared.command.Command.{Command}
use Rattle.script.specs.declared.command.Command.TheVariants.{Skip, Clear, Tell, File, Put, Ask}
use Rattle.script.specs.declared.command.Question.{Question}
use Rattle.lines.specs.History.{told_to, history_after}
use Rattle.lines.specs.Kept.{made_to, put_to, file_after}
use Rattle.lines.specs.declared.told.Told.{Told}
use Rattle.lines.specs.declared.Stop.{Stop}
use Rattle.lines.specs.declared.Stop.TheVariants.{Malformed}

-- settled, unless the line is malformed
abbrev pub settled : Result ⊤ Stop → Result (Option Question) Stop
settled (Ok u) = Ok None
settled (Err why) = Err why

-- what a command comes to where the history has n entries and the kept file is f: settled, asked or malformed
abbrev pub heard_of : List ℕ → ℕ → List ℕ → Option Command → Result (Option Question) Stop
heard_of text n f None = Err Malformed
heard_of text n f (Some Skip) = Ok None
heard_of text n f (Some Clear) = Ok None
heard_of text n f (Some (Tell entry)) = settled (told_to 65536 n)
heard_of text n f (Some (File length)) = settled (made_to 81920 length)
heard_of text n f (Some (Put at)) = settled (put_to at (put_bytes text) f)
heard_of text n f (Some (Ask question)) = Ok (Some question)

-- a malformed line changes nothing
abbrev pub entries_after : Option Command → List CompletedTrial → List CompletedTrial
entries_after None h = h
entries_after (Some command) h = history_after command h

abbrev pub bytes_after : List ℕ → Option Command → List ℕ → List ℕ
bytes_after text None f = f
bytes_after text (Some command) f = file_after text command f

-- a line that says the command was heard, from a to b
pub record Hears (text : List ℕ) (command : Option Command) (a b : Told) (r : Result (Option Question) Stop) : Type 0 where
  pub heard : r ≡ heard_of text (length a.history) a.file command
  -- the history and the kept file are what the line says
  pub history : b.history ≡ entries_after command a.history
  pub kept : b.file ≡ bytes_after text command a.file

-- lines of at most 512 bytes, each settled, lead from a to b
pub data Settled (a : Told) : Told → Type 0 where
  none : Settled a a
  more : (b c : Told) (text : List ℕ) → Settled a b → length text ≤ 512 → Hears text (command_of text) b c (Ok None) → Settled a c

-- lines were taken in, from a to b, up to the first that asks something, or all of them
abbrev pub TakenIn : Told → Told → Option Question → Type 0
TakenIn a b None = Settled a b
TakenIn a b (Some question) = (c : Told) × (text : List ℕ) × Settled a c × (length text ≤ 512) × Hears text (command_of text) c b (Ok (Some question))
