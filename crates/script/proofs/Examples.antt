-- Lines and what they say, computed from the definition: a line of each rule, and lines that break one.
use Rattle.std.proofs.Common.{◌≡◌, refl, true, false, List, [], ◌∷◌, map, replicate, Option, Some, None, codes, pos, negsuc}
use Prim.Native.String.{String}
use Rattle.std.specs.Float.Ieee.{of_bits}
use Rattle.std.specs.Float.{binary64}
use lib.Ieee.{Float as Double, of_fields, nan}
use Rattle.distribution.specs.declared.Distribution.TheVariants.{Float, Int, Categorical}
use Rattle.evolution.specs.declared.BoundsRule.{BoundsRule}
use Rattle.evolution.specs.declared.BoundsRule.TheVariants.{Clamp, Midpoint}
use Rattle.evolution.specs.declared.DEStrategy.TheVariants.{CurrentToBest1, Rand1}
use Rattle.evolution.specs.declared.Setup.{Setup}
use Rattle.history.specs.declared.TrialState.TheVariants.{Complete, Pruned, Failed}
use Rattle.numbers.specs.Numbers.{digit_of, all_digits, spelt_after, whole_of, pattern_of, double_of, plain, negated, int_of}
use Rattle.script.specs.Words.{words_of, word_at}
use Rattle.script.specs.Fields.{rule_of, scale_of, state_of, strategy_of}
use Rattle.script.specs.Hex.{is_hex, hex_digit, hex_of, put_bytes, overwritten}
use Rattle.script.specs.Commands.{set_up, bare_line, file_line, told, put_line, pair_line, triple_line, sextuple_line, sample_float, sample_int, range_line, choice_line, line_of, command_of}
use Rattle.script.specs.declared.command.Command.{Command}
use Rattle.script.specs.declared.command.Command.TheVariants.{Skip, Clear, Tell, File, Put, Ask}
use Rattle.script.specs.declared.command.Question.TheVariants.{New, Sample, Look, State, Save, Restore, Bytes}

-- what each of some lines says
said : List String → List (Option Command)
said lines = map (λ (line : String). command_of (codes line)) lines

abbrev half : Double
half = of_bits binary64 0x3fe0_0000_0000_0000

-- a set-up of size 40 by this bounds rule
abbrev of_40 : BoundsRule → Setup
of_40 rule = record {
  mutation_factor = half;
  crossover_rate = of_bits binary64 0x3ff0_0000_0000_0000;
  strategy = Rand1;
  population_size = Some 40;
  seed = 0;
  bounds_rule = rule;
}

each-rule : said (
    ""
    ∷ "# tell 7"
    ∷ "new 3fe0000000000000 3ff0000000000000 current-to-best1 - 18446744073709551615"
    ∷ "new 3fe0000000000000 3ff0000000000000 rand1 0040 0"
    ∷ "new 3fe0000000000000 3ff0000000000000 rand1 0040 0 clamp"
    ∷ "new 3fe0000000000000 3ff0000000000000 rand1 0040 0 midpoint"
    ∷ "clear"
    ∷ "tell 7 3fe0000000000000"
    ∷ "tell 007 fff0000000000001"
    ∷ "tell 7 3fe0000000000000 complete"
    ∷ "tell 7 3fe0000000000000 pruned"
    ∷ "tell 7 7ff8000000000000 failed"
    ∷ "sample 7 float 0000000000000000 3ff0000000000000 lin 3fd0000000000000"
    ∷ "sample 7 int -9223372036854775808 9223372036854775807 log -"
    ∷ "sample 7 int -0 9 lin 2"
    ∷ "sample 7 choice 3"
    ∷ "look"
    ∷ "state"
    ∷ "save"
    ∷ "restore"
    ∷ "bytes"
    ∷ "file 0073120"
    ∷ "put 30 0af0"
    ∷ []
    )
    ≡ map Some (
    Skip
    ∷ Skip
    ∷ Ask (New (record {
      mutation_factor = half;
      crossover_rate = of_bits binary64 0x3ff0_0000_0000_0000;
      strategy = CurrentToBest1;
      population_size = None;
      seed = 18446744073709551615;
      bounds_rule = Clamp;
    }))
    ∷ Ask (New (of_40 Clamp))
    ∷ Ask (New (of_40 Clamp))
    ∷ Ask (New (of_40 Midpoint))
    ∷ Clear
    ∷ Tell (record { number = 7; value = half; state = Complete })
    ∷ Tell (record { number = 7; value = nan; state = Complete })
    ∷ Tell (record { number = 7; value = half; state = Complete })
    ∷ Tell (record { number = 7; value = half; state = Pruned })
    ∷ Tell (record { number = 7; value = nan; state = Failed })
    ∷ Ask (Sample 7 (Float (record {
      low = of_bits binary64 0;
      high = of_bits binary64 0x3ff0_0000_0000_0000;
      log_scale = false;
      step = Some (of_bits binary64 0x3fd0_0000_0000_0000);
    })))
    ∷ Ask (Sample 7 (Int (record { low = negsuc 9223372036854775807; high = pos 9223372036854775807; log_scale = true; step = None })))
    ∷ Ask (Sample 7 (Int (record { low = pos 0; high = pos 9; log_scale = false; step = Some (pos 2) })))
    ∷ Ask (Sample 7 (Categorical (record { n_choices = 3 })))
    ∷ Ask Look
    ∷ Ask State
    ∷ Ask Save
    ∷ Ask Restore
    ∷ Ask Bytes
    ∷ File 73120
    ∷ Put 30
    ∷ []
    )
unfolding said command_of line_of set_up bare_line file_line told put_line pair_line triple_line sextuple_line is_hex sample_float sample_int range_line choice_line rule_of scale_of state_of strategy_of words_of digit_of all_digits spelt_after whole_of pattern_of double_of plain negated int_of of_bits of_fields
each-rule = refl

-- a space too many, a word too many or too few, a digit in the wrong case, a pattern too short, numbers that do not fit, words that are no keyword
each-breaks-one : said (
    " clear"
    ∷ "clear "
    ∷ "tell  7 3fe0000000000000"
    ∷ "look 1"
    ∷ "tell 7"
    ∷ "tell 7 3fe0000000000000 1"
    ∷ "tell 7 3fe0000000000000 running"
    ∷ "tell 7 3fe0000000000000 pruned "
    ∷ "told 7 3fe0000000000000 pruned"
    ∷ "tell 7 3FE0000000000000"
    ∷ "tell 7 3fe"
    ∷ "tell 18446744073709551616 3fe0000000000000"
    ∷ "tell -1 3fe0000000000000"
    ∷ "tell : 3fe0000000000000"
    ∷ "new 3fe0000000000000 3ff0000000000000 rand1 40 0 mid"
    ∷ "new 3fe0000000000000 3ff0000000000000 rand1 40 0 Midpoint"
    ∷ "new 3fe0000000000000 3ff0000000000000 rand1 40 0 1"
    ∷ "new 3fe0000000000000 3ff0000000000000 rand1 40 0 "
    ∷ "new 3fe0000000000000 3ff0000000000000 rand1 40 0 midpoint "
    ∷ "new 3fe0000000000000 3ff0000000000000 rand1 40 midpoint"
    ∷ "new 3fe0000000000000 3ff0000000000000 rand1 40 midpoint 0"
    ∷ "now 3fe0000000000000 3ff0000000000000 rand1 40 0 midpoint"
    ∷ "now 3fe0000000000000 3ff0000000000000 rand1 40 0"
    ∷ "sample 7 int 0 9223372036854775808 lin -"
    ∷ "sample 7 int -9223372036854775809 0 lin -"
    ∷ "sample 7 int - 0 lin -"
    ∷ "sample 7 float 0000000000000000 3ff0000000000000 linear -"
    ∷ "sample 7 choice 3 -"
    ∷ "Look"
    ∷ "save 1"
    ∷ "file"
    ∷ "file -1"
    ∷ "put 30"
    ∷ "put 30 "
    ∷ "put 30 0"
    ∷ "put 30 0af"
    ∷ "put 30 0A"
    ∷ "put 30 0g"
    ∷ "put 18446744073709551616 00"
    ∷ []
    )
    ≡ replicate 39 None
unfolding said command_of line_of set_up bare_line file_line told put_line pair_line triple_line sextuple_line is_hex sample_float sample_int range_line choice_line rule_of scale_of state_of strategy_of words_of digit_of all_digits spelt_after whole_of pattern_of double_of plain negated int_of of_bits of_fields
each-breaks-one = refl

-- the bytes of a `put` line, and where they go
put-bytes : put_bytes (codes "put 1 0af09f") ≡ 0x0a ∷ 0xf0 ∷ 0x9f ∷ []
unfolding words_of word_at hex_of hex_digit digit_of
put-bytes = refl

put-there : overwritten 1 (put_bytes (codes "put 1 0af0")) (7 ∷ 7 ∷ 7 ∷ 7 ∷ []) ≡ 7 ∷ 10 ∷ 240 ∷ 7 ∷ []
unfolding words_of word_at hex_of hex_digit digit_of overwritten
put-there = refl
