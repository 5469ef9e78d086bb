-- All combinations, one after the other: each is written behind those before it, and nothing past it.
use Rattle.std.proofs.Common.{◌≡◌, ℕ, zero, suc, ◌+◌, ◌-◌, ◌*◌, ◌≤◌, List, [], ◌∷◌, ◌++◌, length, drop, ℤ, refl, sym, ap, ap₂, ◌∙◌, arith}
use Rattle.std.specs.Prelude.{flat_map}
use Rattle.std.specs.List.{range_with_len}
use Rattle.std.proofs.lemmas.List.{append_assoc, append-nil, take_at, drop_at, drop-drop, length-append}
use Rattle.std.proofs.lemmas.List.Concat.{flat_map-append}
use borrow.Rule.Slice.PartMut.{put_mid, Post-is}
use Rattle.sweep.specs.Axes.{combination}
use Rattle.sweep.specs.declared.axis.Axis.{Axis}
use Rattle.sweep.proofs.Listing.{range-add}

pub combination-long : (axes : List Axis) (i : ℕ) → length (combination axes i) ≡ length axes
unfolding combination
combination-long [] i = refl
combination-long (a ∷ axes) i = ap suc (combination-long axes i)

-- one combination more
more : (axes : List Axis) (n : ℕ)
    → flat_map (combination axes) (range_with_len 0 (n + 1)) ≡ flat_map (combination axes) (range_with_len 0 n) ++ combination axes n
more axes n =
    let z : 0 + n ≡ n = omega arith in
    ap (flat_map (combination axes)) (range-add 0 n 1)
    ∙ rw z (flat_map-append (combination axes) (range_with_len 0 n) (n ∷ []))
    ∙ ap (λ (xs : List ℤ). flat_map (combination axes) (range_with_len 0 n) ++ xs) (append-nil (combination axes n))

pub rows-long : (axes : List Axis) (n : ℕ) → length (flat_map (combination axes) (range_with_len 0 n)) ≡ n * length axes
rows-long axes zero = omega arith
rows-long axes (suc n) =
    let z : n + 1 ≡ suc n = omega arith in
    let m = more axes n in
    ap length (rw z at m) ∙ length-append (flat_map (combination axes) (range_with_len 0 n)) (combination axes n)
    ∙ ap₂ (λ x y. x + y) (rows-long axes n) (combination-long axes n) ∙ omega arith

-- the first i combinations are written
unfoldable pub rows_to : List Axis → List ℤ → ℕ → List ℤ
rows_to axes lent i = flat_map (combination axes) (range_with_len 0 i) ++ drop (i * length axes) lent

pub rows_none : (axes : List Axis) (lent : List ℤ) → lent ≡ rows_to axes lent 0
unfolding rows_to
rows_none axes lent = let z : 0 * length axes ≡ 0 = omega arith in rw z refl

pub rows-next : (axes : List Axis) (lent out row : List ℤ) (i n : ℕ) → out ≡ rows_to axes lent i → n ≡ length axes → row ≡ combination axes i
    → put_mid (i * n) ((i + 1) * n - i * n) out row ≡ rows_to axes lent (i + 1)
unfolding rows_to
rows-next axes lent out row i n o e r =
    let front = flat_map (combination axes) (range_with_len 0 i) in
    let long : length front ≡ i * n = rows-long axes i ∙ ap (λ (k : ℕ). i * k) (sym e) in
    let steps : i * n ≤ (i + 1) * n = omega arith in
    let rest : drop ((i + 1) * n) (front ++ drop (i * n) lent) ≡ drop ((i + 1) * n) lent = past in
    rw (o, ← e) (
    ap₂ (λ (xs ys : List ℤ). xs ++ (row ++ ys)) (take_at front (drop (i * n) lent) (i * n) long)
    (Post-is (i * n) ((i + 1) * n) (front ++ drop (i * n) lent) steps ∙ rest)
    ∙ rw r (sym (append_assoc front (combination axes i) (drop ((i + 1) * n) lent)))
    ∙ ap (λ (xs : List ℤ). xs ++ drop ((i + 1) * n) lent) (sym (more axes i))
    )
  where
    past : drop ((i + 1) * n) (flat_map (combination axes) (range_with_len 0 i) ++ drop (i * n) lent) ≡ drop ((i + 1) * n) lent
    past =
        let front = flat_map (combination axes) (range_with_len 0 i) in
        let long : length front ≡ i * n = rows-long axes i ∙ ap (λ (k : ℕ). i * k) (sym e) in
        let split : (i + 1) * n ≡ i * n + n = omega arith in
        rw split (sym (drop-drop n (i * n) (front ++ drop (i * n) lent))
        ∙ ap (drop n) (drop_at front (drop (i * n) lent) (i * n) long) ∙ drop-drop n (i * n) lent)
