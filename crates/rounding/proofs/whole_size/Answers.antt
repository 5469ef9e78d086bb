-- `whole_size` meets its contract: a NaN's is 0, and another double's is that of its bit pattern.
use Rattle.std.proofs.Common.{◌≡◌, ◌-◌, ◌^◌, min, sym, refl, ap, ◌∙◌, rules, true}
use lib.Ieee.{Float, nan, inf, fin, is_nan}
use Rattle.rounding.specs.Round.{whole_size}
use Rattle.rounding.proofs.Patterns.{own, own-no-nan}
use Rattle.rounding.proofs.whole_size.Goals as goal

nan-size : (x : Float) → is_nan x ≡ true → 0 ≡ min (whole_size x) (2 ^ 64 - 1)
unfolding is_nan whole_size
nan-size nan e = refl
nan-size (inf s) e = cc
nan-size (fin s m x) e = cc

pub returns-then-is_nan : goal.returns-then-is_nan
returns-then-is_nan c = nan-size c.args.x (search rules)

pub size_of-requires : goal.size_of-requires
size_of-requires c = own-no-nan c.args.x c.well_formed.0.1 (search rules)

pub returns : goal.returns
returns c = c.size_of.ensures ∙ ap (λ (y : Float). min (whole_size y) (2 ^ 64 - 1)) (sym (own _ c.well_formed.0.1))
