-- Request W7 of document 02 in small: what becomes of a mutant's entry, between the bounds 1 and 4 where no others are named.
use Rattle.std.specs.Prelude.{ℕ, ◌-◌, ◌^◌, ◌≡◌, false, true, [], ◌∷◌, map, pos, Float}
use Rattle.std.specs.Float.{binary64, fin, inf, nan}
use Rattle.std.specs.Float.Ieee.{round}
use Rattle.rng_util.specs.Gen.{fresh, made}
use Rattle.rng_util.specs.declared.Gen.{Gen}
use Rattle.common.specs.declared.Bounds.{Bounds}
use Rattle.evolution.specs.Cross.{halfway, judged_entry, cross_entry}
use Rattle.evolution.specs.declared.BoundsRule.TheVariants.{Clamp, Midpoint}
use Rattle.figures.specs.Leaves.{dec, minus}

abbrev pub between : Float → Float → Bounds
between low high = record { low = low; high = high }

abbrev pub one_to_four : Bounds
one_to_four = between (dec 1 0) (dec 4 0)

-- k times the least double above 0
unfoldable pub tiny : ℕ → Float
unfolding round
tiny k = round binary64 false k (2 ^ 1074)

-- the largest finite double, and its negative
abbrev pub largest : Float
largest = fin false (2 ^ 53 - 1) (pos 971)

abbrev pub lowest : Float
lowest = fin true (2 ^ 53 - 1) (pos 971)

-- "half the sum of the parent's entry and that bound": of 1 and 4 it is 2.5
abbrev pub Half : Type 0
Half = halfway (dec 1 0) (dec 4 0) ≡ dec 25 1

-- "a mutant entry beyond a bound becomes" that: 0.5 for the parent 3; 5 for the parents 1, 3 and 4
abbrev pub Beyond : Type 0
Beyond =
    (judged_entry Midpoint one_to_four (dec 3 0) (dec 5 1) ≡ dec 2 0)
    × (map (λ x. judged_entry Midpoint one_to_four x (dec 5 0)) (dec 1 0 ∷ dec 3 0 ∷ dec 4 0 ∷ []) ≡ dec 25 1 ∷ dec 35 1 ∷ dec 4 0 ∷ [])

-- one beyond none stays, whatever the parent: within, exactly on a bound, minus zero, which is not below zero; and NaN, which no sound state leads to (W8)
abbrev pub Within : Type 0
Within =
    (x : Float)
    → (map (judged_entry Midpoint one_to_four x) (dec 2 0 ∷ dec 1 0 ∷ dec 4 0 ∷ nan ∷ []) ≡ dec 2 0 ∷ dec 1 0 ∷ dec 4 0 ∷ nan ∷ [])
    × (judged_entry Midpoint (between (dec 0 0) (dec 1 0)) x (minus 0 0) ≡ minus 0 0)

-- "then is clamped": where the parent is itself beyond the bounds, 5 becomes 7 for the parent 10, and then 4; 0.5 becomes -3.5 for -8, and then 1
abbrev pub Clamped : Type 0
Clamped = (judged_entry Midpoint one_to_four (dec 10 0) (dec 5 0) ≡ dec 4 0) × (judged_entry Midpoint one_to_four (minus 8 0) (dec 5 1) ≡ dec 1 0)

-- the sum is rounded, and then its half: of 1 and 5 times the least double it is 3 times, where two halves, each rounded, would make 2;
-- of 2 and 5 times it is 4 times, the even one beside 3.5
abbrev pub Subnormal : Type 0
Subnormal = (halfway (tiny 1) (tiny 5) ≡ tiny 3) × (halfway (tiny 2) (tiny 5) ≡ tiny 4)

-- a sum that passes the largest double is infinite, and its half clamped; no sound state leads to one (W8)
abbrev pub Large : Type 0
Large =
    (halfway largest largest ≡ inf false)
    × (judged_entry Midpoint (between lowest largest) largest (inf false) ≡ largest)
    × (judged_entry Midpoint (between lowest largest) lowest (inf true) ≡ lowest)

-- under clamp each entry beyond a bound becomes the bound, whatever the parent
abbrev pub UnderClamp : Type 0
UnderClamp =
    (x : Float)
    → map (judged_entry Clamp one_to_four x) (dec 5 1 ∷ dec 1 0 ∷ dec 2 0 ∷ dec 4 0 ∷ dec 5 0 ∷ [])
    ≡ dec 1 0 ∷ dec 1 0 ∷ dec 2 0 ∷ dec 4 0 ∷ dec 4 0 ∷ []

-- at j* the mutant's 5 becomes 2.5 for the parent 1, without a draw; with CR = 0 the parent's own entry is taken elsewhere, and 10 is clamped,
-- under either rule
abbrev pub Crossed : Type 0
Crossed =
    (v : Float) (g : Gen)
    → (cross_entry Midpoint (dec 0 0) 1 (dec 5 0) (dec 1 0) one_to_four 1 g ≡ made (dec 25 1) g)
    × (map (λ rule. (cross_entry rule (dec 0 0) 1 v (dec 10 0) one_to_four 0 (fresh 7)).out) (Clamp ∷ Midpoint ∷ []) ≡ dec 4 0 ∷ dec 4 0 ∷ [])
