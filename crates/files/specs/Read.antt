-- The read call in numbers.
use Rattle.std.specs.Prelude.{ℕ, List, length, Result, Ok, Err}
use Rattle.edge.specs.declared.trial.DeCompletedTrial.{DeCompletedTrial}
use Rattle.edge.specs.Trial.{flat_trial}
use Rattle.metrics.specs.Export.{export_refusal_number, export_of, answer_of, left_in}
use Rattle.metrics.specs.declared.ExportRefusal.{ExportRefusal}
use Rattle.metrics.specs.declared.ExportRefusal.TheVariants.{MalformedLine, ShortHistory}
use Rattle.files.specs.declared.read.DeRead.{DeRead}

-- "14, the first malformed line, carries its number from 1"; 15 carries none
abbrev pub line_in : ExportRefusal → ℕ
line_in (MalformedLine k) = k
line_in ShortHistory = 0

-- 1 read, with the count; 0 refused, by check 14 or 15
abbrev pub read_in : Result ℕ ExportRefusal → DeRead
read_in (Ok n) = record { kind = 1; refusal = 0; count = n; line = 0 }
read_in (Err why) = record { kind = 0; refusal = export_refusal_number why; count = 0; line = line_in why }

-- what goes out, places being the length of the lent history
abbrev pub read_answer : List ℕ → ℕ → DeRead
read_answer text places = read_in (answer_of places (export_of text))

-- what the lent history holds after the call
abbrev pub read_history : List ℕ → List DeCompletedTrial → List DeCompletedTrial
read_history text lent = left_in flat_trial (length lent) (export_of text) lent
