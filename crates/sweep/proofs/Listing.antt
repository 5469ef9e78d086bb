-- Combination i is the definition's i-th. The numbers from 0 fall into blocks, one for each value of the first axis, as long as the other axes have
-- combinations; within a block the first digit stays, and the lower ones count the block through.
use Rattle.std.proofs.Common.{◌≡◌, ℕ, zero, suc, ◌+◌, ◌*◌, ◌/◌, ◌<◌, List, [], ◌∷◌, ◌++◌, map, ℤ, All, refl, sym, ap, ap₂, ◌∙◌, mul_assoc, arith}
use Rattle.std.proofs.Math.Nat.{mul-pos}
use Rattle.std.specs.Prelude.{flat_map}
use Rattle.std.specs.List.{range_with_len}
use Rattle.std.proofs.Math.Nat.{mul-add-div_right, div-eq_of_lt, mul-add-mod_self_right, mod-eq_of_lt}
use Rattle.std.proofs.lemmas.List.{map-append, append-nil}
use Rattle.std.proofs.lemmas.List.Concat.{flat_map-append}
use Rattle.std.proofs.lemmas.List.Folds.{flat_map-map}
use Rattle.std.proofs.lemmas.Simd.{map-map}
use Rattle.sweep.specs.Sweep.{combinations}
use Rattle.sweep.specs.Axes.{Fine, axis_value, axis_values, product, combination}
use Rattle.sweep.specs.declared.axis.Axis.{Axis}

-- ---- the numbers from a on

pub range-add : (a m n : ℕ) → range_with_len a (m + n) ≡ range_with_len a m ++ range_with_len (a + m) n
range-add a zero n = let z : zero + n ≡ n = omega arith in let y : a + zero ≡ a = omega arith in rw (z, y) refl
range-add a (suc m) n =
    let z : suc m + n ≡ suc (m + n) = omega arith in
    let y : a + suc m ≡ a + 1 + m = omega arith in
    rw (z, y) (ap (λ (xs : List ℕ). a ∷ xs) (range-add (a + 1) m n))

pub map-same : {A : Type 0} (f g : ℕ → A) (n a b : ℕ) → ((r : ℕ) → r < n → f (a + r) ≡ g (b + r)) → map f (range_with_len a n) ≡ map g (range_with_len b n)
map-same f g zero a b e = refl
map-same f g (suc n) a b e =
    ap₂ (λ y ys. y ∷ ys) (here (e 0 (omega arith))) (map-same f g n (a + 1) (b + 1) (λ r l. there r (e (suc r) (omega arith))))
  where
    here : f (a + 0) ≡ g (b + 0) → f a ≡ g b
    here h = let x : a + 0 ≡ a = omega arith in let y : b + 0 ≡ b = omega arith in ap f (sym x) ∙ h ∙ ap g y

    there : (r : ℕ) → f (a + suc r) ≡ g (b + suc r) → f (a + 1 + r) ≡ g (b + 1 + r)
    there r h = let x : a + suc r ≡ a + 1 + r = omega arith in let y : b + suc r ≡ b + 1 + r = omega arith in ap f (sym x) ∙ h ∙ ap g y

-- n blocks of m are n × m
pub blocks : {A : Type 0} (block : ℕ → ℕ → A) (all : ℕ → A) (m n : ℕ) → ((q r : ℕ) → q < n → r < m → block q r ≡ all (q * m + r))
    → flat_map (λ q. map (block q) (range_with_len 0 m)) (range_with_len 0 n) ≡ map all (range_with_len 0 (n * m))
blocks block all m zero e = let z : zero * m ≡ 0 = omega arith in rw z refl
blocks {A} block all m (suc n) e =
    ap (λ (xs : List ℕ). flat_map (λ q. map (block q) (range_with_len 0 m)) xs) (more n)
    ∙ flat_map-append (λ q. map (block q) (range_with_len 0 m)) (range_with_len 0 n) (n ∷ [])
    ∙ ap₂ (λ (xs ys : List A). xs ++ ys) (blocks block all m n (λ q r l. e q r (omega arith)))
    (append-nil (map (block n) (range_with_len 0 m)) ∙ map-same (block n) all m 0 (n * m) (λ r l. next r (e n r (omega arith) l)))
    ∙ sym (map-append all (range_with_len 0 (n * m)) (range_with_len (n * m) m))
    ∙ ap (map all) (sym (whole (range-add 0 (n * m) m)))
  where
    more : (n : ℕ) → range_with_len 0 (suc n) ≡ range_with_len 0 n ++ n ∷ []
    more n = let z : n + 1 ≡ suc n = omega arith in let y : 0 + n ≡ n = omega arith in let h = range-add 0 n 1 in rw (z, y) at h

    next : (r : ℕ) → block n r ≡ all (n * m + r) → block n (0 + r) ≡ all (n * m + r)
    next r h = let z : 0 + r ≡ r = omega arith in rw z h

    whole : range_with_len 0 (n * m + m) ≡ range_with_len 0 (n * m) ++ range_with_len (0 + n * m) m
        → range_with_len 0 (suc n * m) ≡ range_with_len 0 (n * m) ++ range_with_len (n * m) m
    whole h = let z : n * m + m ≡ suc n * m = omega arith in let y : 0 + n * m ≡ n * m = omega arith in rw (z, y) at h

-- ---- the digits

fine-head : (a : Axis) (axes : List Axis) → All Fine (a ∷ axes) → Fine a
fine-head a axes f = f 0 a (omega arith)

fine-tail : (a : Axis) (axes : List Axis) → All Fine (a ∷ axes) → All Fine axes
fine-tail a axes f k d l = f (suc k) d (omega arith)

pub product-some : (axes : List Axis) → All Fine axes → 0 < product axes
unfolding product
product-some [] f = omega arith
product-some (a ∷ axes) f = let s = (fine-head a axes f).some in let p = product-some axes (fine-tail a axes f) in mul-pos s p

-- a number past all combinations counts them from the first again
pub again : (axes : List Axis) → All Fine axes → (k i : ℕ) → combination axes (k * product axes + i) ≡ combination axes i
unfolding combination product
again [] f k i = refl
again (a ∷ axes) f k i =
    let p = product-some axes (fine-tail a axes f) in
    let e : k * (a.size * product axes) + i ≡ k * a.size * product axes + i = ap (λ (n : ℕ). n + i) (sym (mul_assoc k a.size (product axes))) in
    rw (e, mul-add-div_right p (k * a.size) i, mul-add-mod_self_right k a.size (i / product axes), again axes (fine-tail a axes f) (k * a.size) i) refl

pub combinations-are : (axes : List Axis) → All Fine axes → combinations (map axis_values axes) ≡ map (combination axes) (range_with_len 0 (product axes))
unfolding combinations combination product
combinations-are [] f = refl
combinations-are (a ∷ axes) f =
    let p = product-some axes (fine-tail a axes f) in
    ap (λ (cs : List (List ℤ)). flat_map (λ v. map (λ c. v ∷ c) cs) (axis_values a)) (combinations-are axes (fine-tail a axes f))
    ∙ flat_map-map (λ v. map (λ c. v ∷ c) (map (combination axes) (range_with_len 0 (product axes)))) (axis_value a) (range_with_len 0 a.size)
    ∙ ap (λ (g : ℕ → List (List ℤ)). flat_map g (range_with_len 0 a.size))
    (λ i q. map-map (λ c. axis_value a q ∷ c) (combination axes) (range_with_len 0 (product axes)) i)
    ∙ blocks (λ q r. axis_value a q ∷ combination axes r) (combination (a ∷ axes)) (product axes) a.size (λ q r l m. digit p q r l m)
  where
    digit : 0 < product axes → (q r : ℕ) → q < a.size → r < product axes → axis_value a q ∷ combination axes r ≡ combination (a ∷ axes) (q * product axes + r)
    digit p q r l m =
        let z : q + 0 ≡ q = omega arith in
        rw (mul-add-div_right p q r, div-eq_of_lt m, z, mod-eq_of_lt l, again axes (fine-tail a axes f) q r) refl
