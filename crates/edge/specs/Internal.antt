-- `to_internal` in numbers.
use Rattle.std.specs.Prelude.{Bool, ◌&&◌, cond, eqb, leb, Result, Ok, Err, Float}
use Rattle.common.specs.Bounds.{zero_f}
use Rattle.common.specs.ToInternal.{to_internal}
use Rattle.distribution.specs.Refusals.{refusal_number}
use Rattle.distribution.specs.declared.Refusal.{Refusal}
use Rattle.distribution.specs.declared.ParamValue.{ParamValue}
use Rattle.distribution.specs.declared.ParamValue.TheVariants as P
use Rattle.edge.specs.declared.flat.DeDistribution.{DeDistribution}
use Rattle.edge.specs.declared.internal.DeSetting.{DeSetting}
use Rattle.edge.specs.declared.internal.DeInternal.{DeInternal}
use Rattle.edge.specs.Flat.{distribution_of}
use Rattle.edge.specs.Known.{known_distribution}

-- 1 float, 2 int, 3 choice
unfoldable pub known_setting : DeSetting → Bool
known_setting s = leb 1 s.kind && leb s.kind 3

unfoldable pub setting_of : DeSetting → ParamValue
setting_of s = cond (eqb s.kind 1) (P.Float s.real) (cond (eqb s.kind 2) (P.Int s.whole) (P.Categorical s.choice))

-- kind 4: a number names no case
abbrev pub unknown_internal : DeInternal
unknown_internal = record { kind = 4; refusal = 0; value = zero_f }

abbrev pub refused_internal : Refusal → DeInternal
refused_internal r = record { kind = 0; refusal = refusal_number r; value = zero_f }

abbrev pub value_by : Result Float Refusal → Result Float DeInternal
value_by (Ok x) = Ok x
value_by (Err r) = Err (refused_internal r)

-- the value, or what goes out in its place
unfoldable pub value_of : DeDistribution → DeSetting → Result Float DeInternal
value_of d s = cond (known_distribution d && known_setting s) (value_by (to_internal (setting_of s) (distribution_of d))) (Err unknown_internal)

-- kind 1: the value
abbrev pub flat_internal : Result Float DeInternal → DeInternal
flat_internal (Ok x) = record { kind = 1; refusal = 0; value = x }
flat_internal (Err a) = a

unfoldable pub internal_of : DeDistribution → DeSetting → DeInternal
internal_of d s = flat_internal (value_of d s)
