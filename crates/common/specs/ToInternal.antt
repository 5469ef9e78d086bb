-- "`to_internal` (4 to 7 judge the distribution, then 4 an Int setting over 2^53 in size; a Float as it is, whole number to double; 0 where
-- kinds differ)" (document 01, "Sampler").
use Rattle.std.specs.Prelude.{ℕ, Bool, false, cond, Float, Option, Some, None, Result, Ok, Err, ⊤}
use Rattle.std.specs.Float.{binary64}
use Rattle.std.specs.Float.Ieee.{of_int}
use Rattle.distribution.specs.declared.Distribution.{Distribution}
use Rattle.distribution.specs.declared.Distribution.TheVariants as D
use Rattle.distribution.specs.declared.ParamValue.{ParamValue}
use Rattle.distribution.specs.declared.ParamValue.TheVariants as P
use Rattle.distribution.specs.declared.Refusal.TheVariants.{Bounds, LogScale}
use Rattle.distribution.specs.Dims.{is_ladder}
use Rattle.distribution.specs.Refusals.{refusal_number}
use Rattle.distribution.specs.Validate.{verdict_of, int_bound_fails, judged}
use Rattle.common.specs.Bounds.{zero_f}
use Rattle.distribution.specs.declared.Refusal.{Refusal}

-- "an Int setting over 2^53 in size"
unfoldable pub setting_fails : ParamValue → Bool
unfolding int_bound_fails
setting_fails (P.Float x) = false
setting_fails (P.Int z) = int_bound_fails z
setting_fails (P.Categorical k) = false

-- "a Float as it is, whole number to double; 0 where kinds differ"; 0 for a choice too, as the Rust has it
unfoldable pub as_double : ParamValue → Distribution → Float
unfolding of_int
as_double (P.Float x) (D.Float d) = x
as_double (P.Float x) (D.Int d) = zero_f
as_double (P.Float x) (D.Categorical d) = zero_f
as_double (P.Int z) (D.Float d) = zero_f
as_double (P.Int z) (D.Int d) = of_int binary64 z
as_double (P.Int z) (D.Categorical d) = zero_f
as_double (P.Categorical k) d = zero_f

-- the refusals first, then the double; W9: "`to_internal` still gives 5 for any log flag"
abbrev pub internal_of : Result ⊤ Refusal → ParamValue → Distribution → Result Float Refusal
internal_of (Err r) value d = Err r
internal_of (Ok tt) value d = cond (is_ladder d) (Err LogScale) (cond (setting_fails value) (Err Bounds) (Ok (as_double value d)))

unfoldable pub to_internal : ParamValue → Distribution → Result Float Refusal
unfolding verdict_of setting_fails as_double
to_internal value d = internal_of (verdict_of d) value d

-- ---- the same in the table's numbers

-- the number of the refusal, if the answer is one
abbrev pub internal_refusal : Result Float Refusal → Option ℕ
internal_refusal (Ok x) = None
internal_refusal (Err r) = Some (refusal_number r)

-- the distribution's number comes first; then 5, on a ladder; then 4, where the setting fails
abbrev pub then_setting : Option ℕ → Bool → Bool → Option ℕ
then_setting (Some n) ladder fails = Some n
then_setting None ladder fails = cond ladder (Some 5) (cond fails (Some 4) None)

-- "4 to 7 judge the distribution, then 4 an Int setting over 2^53 in size", and before it 5 for a ladder
unfoldable pub setting_refusal : ParamValue → Distribution → Option ℕ
unfolding verdict_of setting_fails
setting_refusal value d = then_setting (judged d) (is_ladder d) (setting_fails value)
