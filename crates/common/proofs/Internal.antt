-- "`to_internal` still gives 5 for any log flag" (02, W9): where 4 does not apply, which comes first. On a ladder 4 to 7 pass, and 5 is given all the same.
use Rattle.std.specs.Prelude.{Result, Ok, Err, ⊤}
use Rattle.std.proofs.Common.{◌≡◌, Bool, true, false, cond, refl, sym, ap, ◌∙◌, true≢false}
use Rattle.distribution.specs.declared.Distribution.{Distribution}
use Rattle.distribution.specs.declared.Distribution.TheVariants as D
use Rattle.distribution.specs.declared.ParamValue.{ParamValue}
use Rattle.distribution.specs.declared.Refusal.TheVariants.{Bounds, LogScale}
use Rattle.distribution.specs.declared.Refusal.{Refusal}
use Rattle.distribution.specs.Validate.{bounds_fail, log_fails, verdict_of}
use Rattle.distribution.proofs.Meaning.{log-refused, ladder-valid}
use Rattle.common.specs.ToInternal.{setting_fails, as_double, internal_of, to_internal}

-- the log flag
abbrev pub log_flag : Distribution → Bool
log_flag (D.Float d) = d.log_scale
log_flag (D.Int d) = d.log_scale
log_flag (D.Categorical d) = false

pub any-log : (value : ParamValue) (d : Distribution) → bounds_fail d ≡ false → log_flag d ≡ true → to_internal value d ≡ Err LogScale
unfolding to_internal
any-log value (D.Float d) b l = ap (λ (r : Result ⊤ Refusal). internal_of r value (D.Float d)) (log-refused (D.Float d) b l)
any-log value (D.Int d) b l = go (log_fails (D.Int d)) refl
  where
    go : (f : Bool) → log_fails (D.Int d) ≡ f → internal_of (verdict_of (D.Int d)) value (D.Int d) ≡ Err LogScale
    go true e = ap (λ (r : Result ⊤ Refusal). internal_of r value (D.Int d)) (log-refused (D.Int d) b e)
    go false e =
        ap (λ (r : Result ⊤ Refusal). internal_of r value (D.Int d)) (ladder-valid d b e l)
        ∙ ap (λ (f : Bool). cond f (Err LogScale) (cond (setting_fails value) (Err Bounds) (Ok (as_double value (D.Int d))))) l
any-log value (D.Categorical d) b l = absurd (true≢false (sym l))
