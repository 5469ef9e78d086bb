-- Steps 3 and 4 against the paper (specs/Paper): Rand1 is its mutation. Crossover is its crossover, the mutant's entries drawn in under midpoint, then clamped, but
-- where the drawn unit is CR itself.
use Prim.Native.Nat.{ℕ, ◌+◌, ◌*◌}
use native.Mathlib.Omega.{arith}
use mathlib.Core.Path.{◌≡◌, refl, sym, ap, subst}
use mathlib.Core.Bool.{Bool, true, false, ◌&&◌, ◌||◌, cond, true≢false}
use lib.Dec.{T, eqb, ltb, eqb→eq, ltb→lt}
use lib.Ieee.{Float, nan, inf, fin, up, down, below, level, lt, eq, le}
use Rattle.rng_util.specs.Draws.{unit_of}
use Rattle.rng_util.specs.Gen.{draw_of, made}
use Rattle.rng_util.specs.declared.Gen.{Gen}
use Rattle.common.specs.declared.Bounds.{Bounds}
use Rattle.evolution.specs.Mutant.{mutant_entry}
use Rattle.evolution.specs.Cross.{clamped, drawn_in, judged_entry, cross_entry}
use Rattle.evolution.specs.Paper.{paper_mutant, paper_cross}
use Rattle.evolution.specs.declared.BoundsRule.{BoundsRule}
use Rattle.evolution.specs.declared.DEStrategy.TheVariants.{Rand1}

-- Rand1 is the paper's (2), for every double
pub rand1-is-papers : (F x b x1 x2 x3 : Float) → mutant_entry Rand1 F x b x1 x2 x3 ≡ paper_mutant F x1 x2 x3
unfolding mutant_entry paper_mutant
rand1-is-papers F x b x1 x2 x3 = refl

-- an entry of a trial vector is the paper's of the mutant's entry drawn in, clamped, unless the drawn unit is CR
pub cross-is-papers : (rule : BoundsRule) (CR v x : Float) (b : Bounds) (star j : ℕ) (g : Gen) → eq (unit_of (draw_of g).out) CR ≡ false
    → (cross_entry rule CR star v x b j g).out ≡ clamped b (paper_cross CR (eqb j star) (unit_of (draw_of g).out) (drawn_in rule b x v) x)
unfolding cross_entry paper_cross le
cross-is-papers rule CR v x b star j g e = go (eqb j star) (lt (unit_of (draw_of g).out) CR) (eq (unit_of (draw_of g).out) CR) e
  where
    go : (s below same : Bool) → same ≡ false
        → (cond s (made (judged_entry rule b x v) g) (made (cond below (judged_entry rule b x v) (clamped b x)) (draw_of g).after)).out
        ≡ clamped b (cond (s || (below || same)) (drawn_in rule b x v) x)
    go true below same q = refl
    go false true same q = refl
    go false false same q = ap (λ (z : Bool). clamped b (cond z (drawn_in rule b x v) x)) (sym q)

-- ---- the exception

and_left : (p q : Bool) → (p && q) ≡ true → T p
and_left true q e = tt
and_left false q e = absurd (true≢false (sym e))

and_right : (p q : Bool) → (p && q) ≡ true → T q
and_right true q e = subst T (sym e) tt
and_right false q e = absurd (true≢false (sym e))

is_false : (b : Bool) → (T b → ⊥) → b ≡ false
is_false true h = absurd (h tt)
is_false false h = refl

level-not-below : (s : Bool) (a : ℕ) (t : Bool) (b : ℕ) → level s a t b ≡ true → below s a t b ≡ false
level-not-below false a false b e = is_false (ltb a b) (λ l. omega (arith, ltb→lt a b l, eqb→eq a b (and_left (eqb a b) _ e)))
level-not-below false a true b e = refl
level-not-below true a false b e =
    is_false (ltb 0 (a + b)) (λ l. omega (arith, ltb→lt 0 (a + b) l, eqb→eq a b (and_left (eqb a b) _ e), eqb→eq a 0 (and_right (eqb a b) (eqb a 0) e)))
level-not-below true a true b e = is_false (ltb b a) (λ l. omega (arith, ltb→lt b a l, eqb→eq a b (and_left (eqb a b) _ e)))

-- of two equal doubles none is the smaller
pub equal-not-below : (x y : Float) → eq x y ≡ true → lt x y ≡ false
unfolding eq lt
equal-not-below nan y e = refl
equal-not-below (inf s) nan e = refl
equal-not-below (inf true) (inf true) e = refl
equal-not-below (inf true) (inf false) e = absurd (true≢false (sym e))
equal-not-below (inf false) (inf t) e = refl
equal-not-below (inf s) (fin t n d) e = absurd (true≢false (sym e))
equal-not-below (fin s m f) nan e = refl
equal-not-below (fin s m f) (inf t) e = absurd (true≢false (sym e))
equal-not-below (fin s m f) (fin t n d) e = level-not-below s (m * up f * down d) t (n * up d * down f) e

-- where the drawn unit is CR, step 4 takes the parent's entry, and the paper the mutant's
pub cross-at-rate : (rule : BoundsRule) (CR v x : Float) (b : Bounds) (star j : ℕ) (g : Gen) → eqb j star ≡ false → eq (unit_of (draw_of g).out) CR ≡ true
    → ((cross_entry rule CR star v x b j g).out ≡ clamped b x) × (paper_cross CR (eqb j star) (unit_of (draw_of g).out) v x ≡ v)
unfolding cross_entry paper_cross le
cross-at-rate rule CR v x b star j g f e = rw (f, equal-not-below (unit_of (draw_of g).out) CR e, e) (refl, refl)
