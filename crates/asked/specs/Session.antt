-- What the lines that ask something do to the state, the history and the kept file.
use Rattle.std.specs.Prelude.{ℕ, Bool, false, cond, not, is_some, is_ok, List, [], ◌≡◌, Option, Some, None, Result, Ok, Err, IfErr, OnOk, ⊤, IsTrue, ◌↔◌}
use Rattle.std.specs.Io.KnownBytes.{Appends}
use Rattle.de.specs.Build.{built_of, fresh_state}
use Rattle.de.specs.Sample.{sample_of}
use Rattle.distribution.specs.declared.Refusal.{Refusal}
use Rattle.evolution.specs.declared.Setup.{Setup}
use Rattle.history.specs.declared.CompletedTrial.{CompletedTrial}
use Rattle.lines.specs.declared.Stop.{Stop}
use Rattle.lines.specs.declared.Stop.TheVariants.{Malformed, Unwritten}
use Rattle.lines.specs.declared.told.Told.{Told}
use Rattle.saved.specs.File.{file_of}
use Rattle.saved.specs.Restore.{state_read}
use Rattle.saved.specs.Save.{save_of}
use Rattle.saved.specs.declared.FileRefusal.{FileRefusal}
use Rattle.script.specs.declared.command.Question.{Question}
use Rattle.script.specs.declared.command.Question.TheVariants.{New, Sample, Look, State as Show, Save, Restore, Bytes}
use Rattle.state.specs.declared.State.{State}
use Rattle.asked.specs.Answers.{answer_text}
use Rattle.asked.specs.declared.session.Session.{Session}

-- ---- what a question leaves, where there is a state or none, h being the history and f the kept file

-- "a set-up"; "and there is no state until the next `new` or `restored`"
abbrev pub started_by : Result Setup Refusal → Option State
started_by (Ok setup) = Some (fresh_state setup)
started_by (Err why) = None

-- "`restored` (and there is a state, whether there was one or not)"; "a refused `restore` leaves everything as it was"
abbrev pub restored_by : Result State FileRefusal → Option State → Option State
restored_by (Ok s) o = Some s
restored_by (Err why) o = o

-- the state: a sample call moves it, where there is one
abbrev pub state_after : Option State → Question → List CompletedTrial → List ℕ → Option State
state_after o (New setup) h f = started_by (built_of (record { setup = setup }))
state_after (Some s) (Sample number d) h f = Some (sample_of s d number h).state
state_after None (Sample number d) h f = None
state_after o Restore h f = restored_by (state_read f) o
state_after o Look h f = o
state_after o Show h f = o
state_after o Save h f = o
state_after o Bytes h f = o

-- the history: "a set-up, and an empty history", "a refused set-up empties the history too"
abbrev pub history_after : Question → List CompletedTrial → List CompletedTrial
history_after (New setup) h = []
history_after (Sample number d) h = h
history_after Look h = h
history_after Show h = h
history_after Save h = h
history_after Restore h = h
history_after Bytes h = h

-- the kept file, which has room for 81,920 bytes: "is then exactly its bytes", those of the state; a refused save leaves the file
abbrev pub file_after : Option State → Question → List ℕ → List ℕ
file_after (Some s) Save f = cond (is_ok (save_of s 81920)) (file_of s) f
file_after None Save f = f
file_after o (New setup) f = f
file_after o (Sample number d) f = f
file_after o Look f = f
file_after o Show f = f
file_after o Restore f = f
file_after o Bytes f = f

-- malformed is "a `sample`, `look`, `state` or `save` where there is no state"
abbrev pub breaks : Option State → Question → Bool
breaks o (New setup) = false
breaks o (Sample number d) = not (is_some o)
breaks o Look = not (is_some o)
breaks o Show = not (is_some o)
breaks o Save = not (is_some o)
breaks o Restore = false
breaks o Bytes = false

-- ---- a row

-- a row was written, unless standard output cannot be, and nothing else was done
pub record Wrote {W : Type 0} (a : Session W) (text : List ℕ) (b : Session W) (r : Result ⊤ Stop) : Type 0 where
  pub state : b.state ≡ a.state
  pub written : OnOk r (Appends a.sink.written b.sink.written text)
  pub failed : IfErr r (λ why. why ≡ Unwritten)

-- ---- a question

-- it was obeyed
pub record Obeyed {W : Type 0} (a : Session W) (x : Told) (question : Question) (b : Session W) (y : Told) (r : Result ⊤ Stop) : Type 0 where
  pub state : b.state ≡ state_after a.state question x.history x.file
  pub history : y.history ≡ history_after question x.history
  pub kept : y.file ≡ file_after a.state question x.file
  pub malformed : (r ≡ Err Malformed) ↔ IsTrue (breaks a.state question)
  pub written : OnOk r (Appends a.sink.written b.sink.written (answer_text a.state question x.history x.file))
