-- Truth values: tests as facts, rows (one refuses or hands on to the next), std's test of a double, and the code's limit as the definition's.
use Rattle.std.specs.Prelude.{Result, Err, ⊤}
use mathlib.Core.Path.{◌≡◌, refl, sym, ap, ◌∙◌, subst}
use mathlib.Core.Bool.{Bool, true, false, ◌||◌, true≢false}
use lib.Dec.{T}
use Rattle.std.specs.Float.{float_is_finite}
use lib.Ieee.{Float, nan, inf, fin, binary64, round, size, span, climb, units, odd, of_bits, of_fields}
use lib.Count.{count_trailing_zeros}
use Rattle.distribution.specs.declared.Refusal.{Refusal}
use Rattle.distribution.specs.Validate.{is_finite, float_limit, refused_if}

-- ---- tests as facts

pub holds : {b : Bool} → b ≡ true → T b
holds e = subst T (sym e) tt

pub held : (b : Bool) → T b → b ≡ true
held true t = refl
held false t = elim t [ ]

pub neither : (a b : Bool) → (a || b) ≡ false → (a ≡ false) × (b ≡ false)
neither true b e = absurd (true≢false e)
neither false b e = (refl, e)

pub both-fail : {a b : Bool} → a ≡ false → b ≡ false → (a || b) ≡ false
both-fail {b = b} e f = ap (λ (x : Bool). x || b) e ∙ f

-- ---- rows

-- a is the code's outcome of the row's test a'
pub row-applies : {a a' : Bool} (r : Refusal) (v : Result ⊤ Refusal) → a ≡ true → a ≡ a' → Err r ≡ refused_if a' r v
row-applies r v t e = ap (λ (x : Bool). refused_if x r v) (sym t ∙ e)

pub row-passes : {a a' : Bool} {v w : (Result ⊤ Refusal)} (r : Refusal) → a ≡ false → a ≡ a' → w ≡ v → w ≡ refused_if a' r v
row-passes {v = v} r t e h = h ∙ ap (λ (x : Bool). refused_if x r v) (sym t ∙ e)

-- ---- doubles

pub finite_is : (x : Float) → float_is_finite x ≡ is_finite x
unfolding float_is_finite
finite_is nan = refl
finite_is (inf s) = refl
finite_is (fin s m e) = refl

-- 1e300, as the machine holds it
pub limit_held : of_bits binary64 9094988921128908188 ≡ float_limit
unfolding of_bits of_fields float_limit round size span climb units odd count_trailing_zeros
limit_held = refl
