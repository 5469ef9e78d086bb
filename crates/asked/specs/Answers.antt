-- The rows by which the questions are answered.
use Rattle.std.specs.Prelude.{ℕ, List, [], ◌++◌, Option, Some, None, Result, Ok, Err, codes, decimal}
use Rattle.distribution.specs.Refusals.{refusal_number}
use Rattle.distribution.specs.declared.Refusal.{Refusal}
use Rattle.evolution.specs.declared.Setup.{Setup}
use Rattle.de.specs.Build.{built_of}
use Rattle.de.specs.Sample.{sample_of}
use Rattle.history.specs.declared.CompletedTrial.{CompletedTrial}
use Rattle.kernel.specs.De.{de}
use Rattle.ledger.specs.State as Plain
use Rattle.printed.specs.Rows.{setting_text, rows_text, best_text}
use Rattle.printed.specs.Whole.{state_text}
use Rattle.saved.specs.Restore.{file_refusal_number, state_read}
use Rattle.saved.specs.Save.{save_of}
use Rattle.saved.specs.declared.FileRefusal.{FileRefusal}
use Rattle.script.specs.declared.command.Question.{Question}
use Rattle.script.specs.declared.command.Question.TheVariants.{New, Sample, Look, State as Show, Save, Restore, Bytes}
use Rattle.slots.specs.Look.{look_of}
use Rattle.slots.specs.declared.Looked.{Looked}
use Rattle.state.specs.declared.State.{State}

-- `malformed LINE`
abbrev pub malformed_text : ℕ → List ℕ
malformed_text line = codes "malformed " ++ decimal line ++ codes "\n"

-- `refused K`
abbrev pub refused_text : ℕ → List ℕ
refused_text k = codes "refused " ++ decimal k ++ codes "\n"

abbrev pub new_text : Result Setup Refusal → List ℕ
new_text (Ok setup) = codes "new\n"
new_text (Err why) = refused_text (refusal_number why)

-- "`float BITS DRAWS`, `int NUMBER DRAWS` or `choice INDEX DRAWS`; or `refused K`"
abbrev pub sample_text : Plain.Answer de → ℕ → List ℕ
sample_text (Plain.given setting) draws = setting_text setting ++ (codes " " ++ (decimal draws ++ codes "\n"))
sample_text (Plain.refused k) draws = refused_text k

-- "`look -` before the first closing, else `look BEST CLOSED IDLE V0 V1 ..` ..; or `refused 0`"
abbrev pub look_text : Result (Option ℕ) Refusal → Looked → List ℕ
look_text (Ok (Some best)) l = best_text best l ++ codes "\n"
look_text (Ok None) l = codes "look -\n"
look_text (Err why) l = refused_text (refusal_number why)

-- "`saved LENGTH` ..; or `refused K`"
abbrev pub save_text : Result ℕ FileRefusal → List ℕ
save_text (Ok length) = codes "saved " ++ decimal length ++ codes "\n"
save_text (Err why) = refused_text (file_refusal_number why)

-- "`restored` ..; or `refused K`"
abbrev pub restore_text : Result State FileRefusal → List ℕ
restore_text (Ok s) = codes "restored\n"
restore_text (Err why) = refused_text (file_refusal_number why)

-- what is written to a question where there is a state s, h being the history and f the kept file
abbrev pub answer_text : Option State → Question → List CompletedTrial → List ℕ → List ℕ
answer_text o (New setup) h f = new_text (built_of (record { setup = setup }))
answer_text (Some s) (Sample number d) h f = let r = sample_of s d number h in sample_text r.answer r.draws
answer_text (Some s) Look h f = look_text (look_of s).look (look_of s)
answer_text (Some s) Show h f = state_text s
answer_text (Some s) Save h f = save_text (save_of s 81920)
answer_text o Restore h f = restore_text (state_read f)
answer_text o Bytes h f = rows_text f
answer_text None (Sample number d) h f = []
answer_text None Look h f = []
answer_text None Show h f = []
answer_text None Save h f = []
