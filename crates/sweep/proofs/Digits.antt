-- The digits of a combination's number, from the lowest: once the axes from j on have theirs, what is left of the number is its quotient by how many
-- combinations those axes have.
use Rattle.std.proofs.Common.{◌≡◌, ℕ, ◌+◌, ◌/◌, ◌%◌, ◌<◌, ◌≤◌, List, [], ◌∷◌, ◌++◌, length, take, drop, set, slice_index_or, refl, ap, ◌∙◌, ℤ, pos, mul_comm, arith}
use Rattle.std.proofs.Math.Nat.{div-div-eq-div-mul}
use Rattle.std.proofs.lemmas.List.{append_assoc, append-nil, drop_more, drop_all, take_all, take_more, set_at, length-take-le}
use Rattle.sweep.specs.Axes.{product, combination, axis_value}
use Rattle.sweep.specs.declared.axis.Axis.{Axis}

-- the places from j on are written
unfoldable pub written : List Axis → ℕ → List ℤ → ℕ → List ℤ
written axes i row j = take j row ++ combination (drop j axes) i

-- what is left of the number
unfoldable pub left_at : List Axis → ℕ → ℕ → ℕ
left_at axes i j = i / product (drop j axes)

module _ (axes : List Axis) (i : ℕ) where
  pub left-first : (j : ℕ) → length axes ≤ j → i ≡ left_at axes i j
  unfolding left_at product
  left-first j l = rw (drop_all j axes l) (omega arith)

  pub left-next : (j : ℕ) (d : Axis) → j < length axes → left_at axes i (j + 1) / (slice_index_or axes j d).size ≡ left_at axes i j
  unfolding left_at product
  left-next j d l =
      let a = slice_index_or axes j d in
      let behind = product (drop (j + 1) axes) in
      div-div-eq-div-mul i behind a.size ∙ rw (drop_more axes j d l) (ap (λ (n : ℕ). i / n) (mul_comm behind a.size))

  pub written-first : (row : List ℤ) (j : ℕ) → length axes ≤ j → length row ≤ j → row ≡ written axes i row j
  unfolding written combination
  written-first row j l m = rw (drop_all j axes l, take_all j row m, append-nil row) refl

  pub written-next : (row : List ℤ) (j : ℕ) (d : Axis) → j < length axes → j < length row
      → set (written axes i row (j + 1)) j (axis_value (slice_index_or axes j d) (left_at axes i (j + 1) % (slice_index_or axes j d).size))
      ≡ written axes i row j
  unfolding written left_at combination
  written-next row j d l m =
      let a = slice_index_or axes j d in
      let rest = combination (drop (j + 1) axes) i in
      let x = axis_value a (i / product (drop (j + 1) axes) % a.size) in
      ap (λ (front : List ℤ). set (front ++ rest) j x) (take_more row j (pos 0) m)
      ∙ ap (λ (xs : List ℤ). set xs j x) (append_assoc (take j row) (slice_index_or row j (pos 0) ∷ []) rest)
      ∙ set_at (take j row) (slice_index_or row j (pos 0)) rest x j (length-take-le j row (omega arith))
      ∙ rw (drop_more axes j d l) refl

  pub written-all : (row : List ℤ) (j : ℕ) → j ≤ 0 → written axes i row j ≡ combination axes i
  unfolding written
  written-all row j l = let z : j ≡ 0 = omega arith in rw z refl

pub ruleset digits = (left-first, written-first, written-all)
