-- How many combinations there are, axis after axis: a product that stops at 2^64 - 1 stays there, since no axis is empty.
use Rattle.std.proofs.Common.{◌≡◌, ℕ, zero, suc, ◌+◌, ◌*◌, ◌<◌, ◌≤◌, min, List, [], ◌∷◌, ◌++◌, length, take, slice_index_or, refl, sym, ap, ◌∙◌, mul_assoc, arith}
use Rattle.std.proofs.lemmas.List.{take_more, take_all}
use Rattle.sweep.specs.Axes.{product}
use Rattle.sweep.specs.declared.axis.Axis.{Axis}

pub product-none : product [] ≡ 1
unfolding product
product-none = refl

pub product-more : (axes : List Axis) (a : Axis) → product (axes ++ a ∷ []) ≡ product axes * a.size
unfolding product
product-more [] a = omega arith
product-more (b ∷ axes) a = ap (λ (n : ℕ). b.size * n) (product-more axes a) ∙ sym (mul_assoc b.size (product axes) a.size)

-- the axes before i, and the one at i
pub product-next : (axes : List Axis) (i : ℕ) (d : Axis) → i < length axes
    → product (take (i + 1) axes) ≡ product (take i axes) * (slice_index_or axes i d).size
product-next axes i d l = ap product (take_more axes i d l) ∙ product-more (take i axes) (slice_index_or axes i d)

pub product-whole : (axes : List Axis) (i : ℕ) → length axes ≤ i → product (take i axes) ≡ product axes
product-whole axes i l = ap product (take_all i axes l)

pub saturated : (m n k : ℕ) → 0 < n → min (min m k * n) k ≡ min (m * n) k
saturated m zero k l = absurd (omega arith)
saturated m (suc n) k l = let a : m ≤ m * suc n = omega arith in let b : k ≤ k * suc n = omega arith in grind arith

pub ruleset products = (product-none, product-next, product-whole, saturated)
