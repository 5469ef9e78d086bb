-- One of each struct that crosses. Each struct numbers its own fields from 1 on in the order of declaration; an array of numbers takes two, in its
-- first and its last place; a field that is a struct, and the first and the last of an array of structs, hold that struct's own marks. The rest is 0.
use Rattle.std.specs.Prelude.{ℕ, List, Float, pos, set, replicate}
use Rattle.std.specs.Float.{binary64}
use Rattle.std.specs.Float.Ieee.{of_int}
use Rattle.common.specs.Bounds.{zero_f}
use Rattle.candidates.specs.Candidate.{blank_candidate}
use Rattle.candidates.specs.declared.Candidate.{Candidate}
use Rattle.evolution.specs.declared.Member.{Member}
use Rattle.selection.specs.Records.{blank_member}
use Rattle.state.specs.Blank.{blank_trial}
use Rattle.state.specs.declared.TrialProgress.{TrialProgress}
use Rattle.edge.specs.declared.answers.DeAnswer.{DeAnswer}
use Rattle.edge.specs.declared.answers.DeCall.{DeCall}
use Rattle.files.specs.declared.file.DeFile.{DeFile}
use Rattle.files.specs.declared.read.DeRead.{DeRead}
use Rattle.lists.specs.declared.sweeps.DeCount.{DeCount}
use Rattle.edge.specs.declared.flat.DeSetup.{DeSetup}
use Rattle.edge.specs.declared.flat.DeDistribution.{DeDistribution}
use Rattle.edge.specs.declared.flat.DeState.{DeState}
use Rattle.edge.specs.declared.internal.DeInternal.{DeInternal}
use Rattle.edge.specs.declared.internal.DeSetting.{DeSetting}
use Rattle.edge.specs.declared.look.DeLook.{DeLook}
use Rattle.edge.specs.declared.trial.DeCompletedTrial.{DeCompletedTrial}
use Rattle.layout.specs.declared.marks.DeMarks.{DeMarks}

-- the number as a double
abbrev pub real : ℕ → Float
real n = of_int binary64 (pos n)

-- the first and the last of N elements; the others are blank
abbrev pub ends : {A : Type 0} → ℕ → A → ℕ → A → A → List A
ends N blank last a b = set (set (replicate N blank) 0 a) last b

-- ---- the small ones

unfoldable pub setup_marks : DeSetup
unfolding of_int
setup_marks = record { mutation_factor = real 1; crossover_rate = real 2; strategy = 3; sized = 4; population_size = 5; seed = 6; bounds_rule = 7 }

unfoldable pub distribution_marks : DeDistribution
unfolding of_int
distribution_marks =
    record {
      kind = 1;
      low = real 2;
      high = real 3;
      whole_low = pos 4;
      whole_high = pos 5;
      log_scale = 6;
      stepped = 7;
      step = real 8;
      whole_step = pos 9;
      n_choices = 10;
    }

unfoldable pub candidate_marks : Candidate
unfolding of_int
candidate_marks = record { x = ends 16 zero_f 15 (real 1) (real 2); choices = ends 16 0 15 3 4 }

unfoldable pub member_marks : Member
unfolding of_int
member_marks = record { candidate = candidate_marks; value = real 1 }

abbrev pub progress_marks : TrialProgress
progress_marks = record { number = 1; next_dim = 2 }

unfoldable pub look_marks : DeLook
unfolding of_int
look_marks = record { kind = 1; refusal = 2; best = 3; n = 4; closed = 5; idle = 6; values = ends 160 zero_f 159 (real 7) (real 8) }

unfoldable pub answer_marks : DeAnswer
unfolding of_int
answer_marks = record { kind = 1; refusal = 2; real = real 3; whole = pos 4; choice = 5; draws = 6 }

unfoldable pub setting_marks : DeSetting
unfolding of_int
setting_marks = record { kind = 1; real = real 2; whole = pos 3; choice = 4 }

unfoldable pub internal_marks : DeInternal
unfolding of_int
internal_marks = record { kind = 1; refusal = 2; value = real 3 }

unfoldable pub completed_marks : DeCompletedTrial
unfolding of_int
completed_marks = record { number = 1; value = real 2; state = 3 }

abbrev pub file_marks : DeFile
file_marks = record { kind = 1; refusal = 2; length = 3 }

abbrev pub read_marks : DeRead
read_marks = record { kind = 1; refusal = 2; count = 3; line = 4 }

abbrev pub count_marks : DeCount
count_marks = record { kind = 1; refusal = 2; count = 3 }

-- ---- the state

abbrev pub no_marks : DeDistribution
no_marks =
    record {
      kind = 0;
      low = zero_f;
      high = zero_f;
      whole_low = pos 0;
      whole_high = pos 0;
      log_scale = 0;
      stepped = 0;
      step = zero_f;
      whole_step = pos 0;
      n_choices = 0;
    }

abbrev pub marked_dims : List DeDistribution
marked_dims = ends 16 no_marks 15 distribution_marks distribution_marks

abbrev pub marked_candidates : List Candidate
marked_candidates = ends 224 blank_candidate 223 candidate_marks candidate_marks

abbrev pub marked_parents : List Member
marked_parents = ends 160 blank_member 159 member_marks member_marks

abbrev pub marked_trials : List TrialProgress
marked_trials = ends 224 blank_trial 223 progress_marks progress_marks

unfoldable pub marked_state : DeState
marked_state =
    record {
      setup = setup_marks;
      named = 1;
      first = 2;
      discovered = 3;
      n = 4;
      n_dims = 5;
      dims = marked_dims;
      candidates = marked_candidates;
      parents = marked_parents;
      n_trials = 6;
      trials = marked_trials;
      best = 7;
      word = 8;
      closed = 9;
      idle = 10;
    }

-- ---- all

abbrev pub marked_call : DeCall
marked_call = record { trial = 1; distribution = distribution_marks }

unfoldable pub marks : DeMarks
marks =
    record {
      setup = setup_marks;
      after_setup = 1;
      distribution = distribution_marks;
      after_distribution = 2;
      call = marked_call;
      after_call = 3;
      answer = answer_marks;
      after_answer = 4;
      look = look_marks;
      after_look = 5;
      setting = setting_marks;
      after_setting = 6;
      internal = internal_marks;
      after_internal = 7;
      trial = completed_marks;
      after_trial = 8;
      state = marked_state;
      after_state = 9;
      file = file_marks;
      after_file = 10;
      read = read_marks;
      after_read = 11;
      count = count_marks;
      after_count = 12;
    }
