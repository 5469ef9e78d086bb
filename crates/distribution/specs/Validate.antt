-- Judging a distribution: rows 4 to 7 of document 01's table of refusals, a definition for each row, and the first that applies.
use Rattle.std.specs.Prelude.{ℕ, ◌^◌, Bool, true, false, not, ◌&&◌, ◌||◌, cond, ltb, eqb, ℤ, pos, nat_abs, Float, Option, Some, None, is_some, Result, Ok, Err, ⊤}
use Rattle.std.specs.Int.Signed.{lt_z, le_z}
use Rattle.std.specs.Float.{nan, inf, fin, binary64}
use Rattle.std.specs.Float.Ieee.{round, neg, sub, div, lt, of_bits}
use Rattle.distribution.specs.declared.Distribution.{Distribution}
use Rattle.distribution.specs.declared.Distribution.TheVariants.{Float as FloatD, Int as IntD, Categorical}
use Rattle.distribution.specs.declared.IntDistribution.{IntDistribution}
use Rattle.distribution.specs.declared.Refusal.{Refusal}
use Rattle.distribution.specs.declared.Refusal.TheVariants.{Bounds, LogScale, Step, Choices}
use Rattle.distribution.specs.Refusals.{refusal_number}

-- neither NaN nor an infinity
abbrev pub is_finite : Float → Bool
is_finite nan = false
is_finite (inf s) = false
is_finite (fin s m e) = true

-- ---- the limits

-- "Float bounds at most 1e300 in size": the double nearest to 10 ^ 300
unfoldable pub float_limit : Float
unfolding round
float_limit = round binary64 false (10 ^ 300) 1

-- "Int bounds and step at most 9,007,199,254,740,992 (2^53) in size"
abbrev pub int_limit : ℕ
int_limit = 2 ^ 53

-- "high at most 2,147,483,648" (document 02, W9)
abbrev pub ladder_limit : ℕ
ladder_limit = 2147483648

-- "Float quotient (high - low)/step over 4,294,967,295"
unfoldable pub quotient_limit : Float
unfolding round
quotient_limit = round binary64 false 4294967295 1

-- "1 to 65,535 choices"
abbrev pub choices_limit : ℕ
choices_limit = 65535

-- ---- row 4: "bound not finite or over its limit, or low above high"

unfoldable pub float_bound_fails : Float → Bool
unfolding float_limit lt neg
float_bound_fails x = not (is_finite x) || lt float_limit x || lt x (neg float_limit)

unfoldable pub float_bounds_fail : Float → Float → Bool
unfolding float_bound_fails lt
float_bounds_fail low high = float_bound_fails low || float_bound_fails high || lt high low

unfoldable pub int_bound_fails : ℤ → Bool
int_bound_fails z = ltb int_limit (nat_abs z)

unfoldable pub int_bounds_fail : ℤ → ℤ → Bool
unfolding int_bound_fails
int_bounds_fail low high = int_bound_fails low || int_bound_fails high || lt_z high low

abbrev pub bounds_fail : Distribution → Bool
bounds_fail (FloatD d) = float_bounds_fail d.low d.high
bounds_fail (IntD d) = int_bounds_fail d.low d.high
bounds_fail (Categorical d) = false

-- ---- row 5, "log scale", as document 02 has it (W9): "5 now covers Float log and Int log with a step or with bounds outside these"

-- these: "low at least 1, high at most 2,147,483,648 and no step"
unfoldable pub no_ladder : IntDistribution → Bool
no_ladder d = is_some d.step || lt_z d.low (pos 1) || lt_z (pos ladder_limit) d.high

abbrev pub log_fails : Distribution → Bool
log_fails (FloatD d) = d.log_scale
log_fails (IntD d) = d.log_scale && no_ladder d
log_fails (Categorical d) = false

-- ---- row 6: "step not finite, not above 0; Int step over 2^53; Float quotient (high - low)/step over 4,294,967,295"

-- (high - low) / step in doubles, one rounding per operation
unfoldable pub quotient : Float → Float → Float → Float
unfolding sub div
quotient low high s = div binary64 (sub binary64 high low) s

-- The tests are in the order of the row. Every comparison with NaN is false: a NaN step is not above 0, and no quotient is NaN where
-- the bounds pass row 4 and the step is finite and above 0.
unfoldable pub float_step_fails : Float → Float → Option Float → Bool
unfolding quotient_limit quotient lt of_bits
float_step_fails low high None = false
float_step_fails low high (Some s) = not (is_finite s) || not (lt (of_bits binary64 0) s) || lt quotient_limit (quotient low high s)

unfoldable pub int_step_fails : Option ℤ → Bool
int_step_fails None = false
int_step_fails (Some s) = le_z s (pos 0) || lt_z (pos int_limit) s

abbrev pub step_fails : Distribution → Bool
step_fails (FloatD d) = float_step_fails d.low d.high d.step
step_fails (IntD d) = int_step_fails d.step
step_fails (Categorical d) = false

-- ---- row 7: "choices 0 or over 65,535"

abbrev pub choices_fail : Distribution → Bool
choices_fail (FloatD d) = false
choices_fail (IntD d) = false
choices_fail (Categorical d) = eqb d.n_choices 0 || ltb choices_limit d.n_choices

-- ---- "The first that applies, in this order, is given, and only then."

abbrev pub refused_if : Bool → Refusal → Result ⊤ Refusal → Result ⊤ Refusal
refused_if applies r next = cond applies (Err r) next

unfoldable pub verdict_of : Distribution → Result ⊤ Refusal
unfolding float_bounds_fail int_bounds_fail no_ladder float_step_fails int_step_fails
verdict_of d =
    refused_if (bounds_fail d) Bounds
    (refused_if (log_fails d) LogScale
    (refused_if (step_fails d) Step
    (refused_if (choices_fail d) Choices (Ok tt))))

-- the number of the refusal, if there is one
abbrev pub refusal_of : Result ⊤ Refusal → Option ℕ
refusal_of (Ok tt) = None
refusal_of (Err r) = Some (refusal_number r)

abbrev pub judged : Distribution → Option ℕ
judged d = refusal_of (verdict_of d)
