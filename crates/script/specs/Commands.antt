-- What a line of a campaign script says: the script's table, one definition a row, with the words of the row under the row's names.
-- A line that no row has is malformed: None.
use Rattle.std.specs.Prelude.{ℕ, Bool, ◌&&◌, cond, List, [], ◌∷◌, eqb, Option, Some, None}
use Prim.Native.Char.{code}
use Rattle.distribution.specs.declared.Distribution.{Distribution}
use Rattle.distribution.specs.declared.Distribution.TheVariants.{Float, Int, Categorical}
use Rattle.evolution.specs.declared.BoundsRule.{BoundsRule}
use Rattle.evolution.specs.declared.BoundsRule.TheVariants.{Clamp}
use Rattle.history.specs.declared.TrialState.{TrialState}
use Rattle.history.specs.declared.TrialState.TheVariants.{Complete}
use Rattle.numbers.specs.Numbers.{whole_of, double_of, int_of}
use Rattle.script.specs.Words.{words_of, is}
use Rattle.script.specs.Fields.{rule_of, scale_of, unset_or, state_of, strategy_of}
use Rattle.script.specs.Hex.{is_hex}
use Rattle.script.specs.Reads.{◌>>=◌}
use Rattle.script.specs.declared.command.Command.{Command}
use Rattle.script.specs.declared.command.Command.TheVariants.{Skip, Clear, Tell, File, Put, Ask}
use Rattle.script.specs.declared.command.Question.TheVariants.{New, Sample, Look, State, Save, Restore, Bytes}

-- the line, where its keywords are right
abbrev pub when : Bool → Option Command → Option Command
when right line = cond right line None

-- a set-up with these words and this bounds rule
unfoldable pub set_up : List ℕ → List ℕ → List ℕ → List ℕ → List ℕ → BoundsRule → Option Command
set_up f cr strategy size seed rule = do
  factor ← double_of f
  rate ← double_of cr
  s ← strategy_of strategy
  n ← unset_or (whole_of size) size
  word ← whole_of seed
  Some (Ask (New (record {
    mutation_factor = factor;
    crossover_rate = rate;
    strategy = s;
    population_size = n;
    seed = word;
    bounds_rule = rule;
  })))

-- `new F CR STRATEGY SIZE SEED`: without a RULE the bounds rule is clamp
abbrev pub new_line : List ℕ → List ℕ → List ℕ → List ℕ → List ℕ → List ℕ → Option Command
new_line key f cr strategy size seed = when (is key "new") (set_up f cr strategy size seed Clamp)

-- `new F CR STRATEGY SIZE SEED RULE`
abbrev pub new_rule_line : List ℕ → List ℕ → List ℕ → List ℕ → List ℕ → List ℕ → Option Command
new_rule_line f cr strategy size seed word = do
  rule ← rule_of word
  set_up f cr strategy size seed rule

-- `clear`, `look`, `state`, `save`, `restore`, `bytes`
unfoldable pub bare_line : List ℕ → Option Command
bare_line key =
    cond (is key "clear") (Some Clear)
    (cond (is key "look") (Some (Ask Look))
    (cond (is key "state") (Some (Ask State))
    (cond (is key "save") (Some (Ask Save))
    (cond (is key "restore") (Some (Ask Restore))
    (cond (is key "bytes") (Some (Ask Bytes)) None)))))

-- `file LENGTH`
unfoldable pub file_line : List ℕ → List ℕ → Option Command
file_line key length = when (is key "file") (do
  n ← whole_of length
  Some (File n))

-- an entry with a number, a value and this state
unfoldable pub told : List ℕ → List ℕ → TrialState → Option Command
told trial value state = do
  number ← whole_of trial
  x ← double_of value
  Some (Tell (record { number = number; value = x; state = state }))

-- `tell TRIAL VALUE`: without a STATE the entry is complete
abbrev pub tell_line : List ℕ → List ℕ → Option Command
tell_line trial value = told trial value Complete

-- `tell TRIAL VALUE STATE`
abbrev pub tell_state_line : List ℕ → List ℕ → List ℕ → Option Command
tell_state_line trial value word = do
  state ← state_of word
  told trial value state

-- `put OFFSET HEX`
unfoldable pub put_line : List ℕ → List ℕ → Option Command
put_line offset hex = do
  at ← whole_of offset
  when (is_hex hex) (Some (Put at))

-- one of the two
unfoldable pub pair_line : List ℕ → List ℕ → List ℕ → Option Command
pair_line key a b = cond (is key "tell") (tell_line a b) (when (is key "put") (put_line a b))

-- a sample call of a trial, where its distribution is read
abbrev pub sampled : ℕ → Distribution → Option Command
sampled number d = Some (Ask (Sample number d))

-- `sample TRIAL float LOW HIGH SCALE STEP`
unfoldable pub sample_float : List ℕ → List ℕ → List ℕ → List ℕ → List ℕ → Option Command
sample_float trial low high scale step = do
  number ← whole_of trial
  l ← double_of low
  h ← double_of high
  log ← scale_of scale
  s ← unset_or (double_of step) step
  sampled number (Float (record { low = l; high = h; log_scale = log; step = s }))

-- `sample TRIAL int LOW HIGH SCALE STEP`
unfoldable pub sample_int : List ℕ → List ℕ → List ℕ → List ℕ → List ℕ → Option Command
sample_int trial low high scale step = do
  number ← whole_of trial
  l ← int_of low
  h ← int_of high
  log ← scale_of scale
  s ← unset_or (int_of step) step
  sampled number (Int (record { low = l; high = h; log_scale = log; step = s }))

-- one of the two
unfoldable pub range_line : List ℕ → List ℕ → List ℕ → List ℕ → List ℕ → List ℕ → List ℕ → Option Command
range_line key trial kind low high scale step =
    when (is key "sample")
    (cond (is kind "float") (sample_float trial low high scale step) (when (is kind "int") (sample_int trial low high scale step)))

-- one of the two
unfoldable pub sextuple_line : List ℕ → List ℕ → List ℕ → List ℕ → List ℕ → List ℕ → List ℕ → Option Command
sextuple_line key a b c d e f = cond (is key "new") (new_rule_line a b c d e f) (range_line key a b c d e f)

-- `sample TRIAL choice COUNT`
unfoldable pub choice_line : List ℕ → List ℕ → List ℕ → List ℕ → Option Command
choice_line key trial kind count = when (is key "sample" && is kind "choice") (do
  number ← whole_of trial
  n ← whole_of count
  sampled number (Categorical (record { n_choices = n })))

-- one of the two
unfoldable pub triple_line : List ℕ → List ℕ → List ℕ → List ℕ → Option Command
triple_line key a b c = cond (is key "tell") (tell_state_line a b c) (choice_line key a b c)

-- the rows by their number of words; a line of another number has no row
unfoldable pub line_of : List (List ℕ) → Option Command
line_of [] = None
line_of (key ∷ []) = bare_line key
line_of (key ∷ length ∷ []) = file_line key length
line_of (key ∷ a ∷ b ∷ []) = pair_line key a b
line_of (key ∷ a ∷ b ∷ c ∷ []) = triple_line key a b c
line_of (key ∷ a ∷ b ∷ c ∷ d ∷ []) = None
line_of (key ∷ f ∷ cr ∷ strategy ∷ size ∷ seed ∷ []) = new_line key f cr strategy size seed
line_of (key ∷ a ∷ b ∷ c ∷ d ∷ e ∷ f ∷ []) = sextuple_line key a b c d e f
line_of (key ∷ a ∷ b ∷ c ∷ d ∷ e ∷ f ∷ g ∷ words) = None

-- "an empty line and a line that begins with `#` are passed over"
unfoldable pub command_of : List ℕ → Option Command
command_of [] = Some Skip
command_of (b ∷ bs) = cond (eqb b (code "#")) (Some Skip) (line_of (words_of (b ∷ bs)))
