-- The refusals 4 to 10 of a sample call on the code's state, in their order: "The first that applies, in this order, is given, and only then."
use Rattle.std.specs.Prelude.{ℕ, ◌+◌, Bool, not, ◌&&◌, cond, leb, Result, Ok, ⊤}
use Rattle.std.specs.Result.{result_and}
use Rattle.distribution.specs.Validate.{verdict_of, refused_if}
use Rattle.distribution.specs.declared.Distribution.{Distribution}
use Rattle.distribution.specs.declared.Refusal.TheVariants.{HistoryNan, Dimensions, ExtraTrials}
use Rattle.distribution.specs.declared.Refusal.{Refusal}

-- 9: "a 17th dimension of the first trial", in discovery; 10: "no generation closes, the trial has no candidate, 64 extras given", after it. `place` is the
-- trial's among the T open ones, T where it is not open.
unfoldable pub count_refusal : Bool → Bool → ℕ → Bool → ℕ → ℕ → ℕ → Result ⊤ Refusal
count_refusal discovered of_discovery D closes place n T =
    cond discovered
    (refused_if (not closes && (leb T place && leb (n + 64) T)) ExtraTrials (Ok tt))
    (refused_if (of_discovery && leb 16 D) Dimensions (Ok tt))

-- 4 to 7 on the lent distribution, 8: "a history value is NaN", of a complete entry (02, W6), then 9 or 10
unfoldable pub first_refusal : Distribution → Bool → Result ⊤ Refusal → Result ⊤ Refusal
first_refusal d nan counts = result_and (verdict_of d) (refused_if nan HistoryNan counts)
