-- A dimension's values. The list is a function of 0 to n - 1, so a number is in it where it is value k of a k below n; of an Int n is one more than the whole
-- steps from low to high, so that k is below n exactly where value k does not pass high.
use Rattle.std.proofs.Common.{◌≡◌, ℕ, ◌+◌, ◌*◌, ◌/◌, ◌<◌, ◌≤◌, ◌↔◌, map, AllPairs, Contains, ℤ, pos, nat_abs, ◌+ℤ◌, ◌-ℤ◌, ◌*ℤ◌, int_div, ◌≤ℤ◌, ◌<ℤ◌, Some, None, Ok, Option, sym, ap, ◌∙◌, mul-lt-mul_of_pos_right, le-div_iff_mul-le, arith}
use Rattle.std.specs.List.{range_with_len}
use Rattle.std.proofs.lemmas.Int.{ints}
use Rattle.std.proofs.lemmas.List.FromFn.{length-map-range_with_len, get_or-map-range_with_len}
use Rattle.distribution.specs.declared.Distribution.{Distribution}
use Rattle.distribution.specs.declared.Distribution.TheVariants.{Float as FloatD, Int as IntD, Categorical}
use Rattle.distribution.specs.declared.IntDistribution.{IntDistribution}
use Rattle.distribution.specs.Good.{GoodInt, GoodIntStep, Good}
use Rattle.distribution.specs.Validate.{verdict_of}
use Rattle.distribution.proofs.Meaning.{valid-good}
use Rattle.sweep.specs.Meaning.{IsValue}
use Rattle.sweep.specs.Sweep.{step_of, int_value, int_count, values_of}

-- ---- a list by number

module _ {A : Type 0} (f : ℕ → A) (n : ℕ) where
  numbered-exactly : (x : A) → Contains (map f (range_with_len 0 n)) x ↔ ((k : ℕ) × (k < n) × (x ≡ f k))
  numbered-exactly x = (
    λ m.
        let l : m.0 < n = omega (arith, m.1, length-map-range_with_len f 0 n) in
        let e : 0 + m.0 ≡ m.0 = omega arith in
        (m.0, l, sym m.2 ∙ get_or-map-range_with_len f 0 n m.0 m.0 x l e),
    λ m.
        let e : 0 + m.0 ≡ m.0 = omega arith in
        (m.0, omega (arith, m.1, length-map-range_with_len f 0 n), get_or-map-range_with_len f 0 n m.0 m.0 x m.1 e ∙ sym m.2),
  )

  numbered-rise : (R : A → A → Type 0) → ((i j : ℕ) → i < j → R (f i) (f j)) → AllPairs R (map f (range_with_len 0 n))
  numbered-rise R h i j d l b =
      let c : j < n = omega (arith, length-map-range_with_len f 0 n) in
      let x : 0 + i ≡ i = omega arith in
      let y : 0 + j ≡ j = omega arith in
      rw (get_or-map-range_with_len f 0 n i i d (omega arith) x, get_or-map-range_with_len f 0 n j j d c y) (h i j l)

-- ---- Int

under : (low high : ℤ) (n p : ℕ) → high -ℤ low ≡ pos n → (p ≤ n) ↔ ((low +ℤ pos p) ≤ℤ high)
under low high n p e = (λ h. grind (arith, ints), λ h. grind (arith, ints))

larger : (low : ℤ) (p q : ℕ) → p < q → (low +ℤ pos p) <ℤ (low +ℤ pos q)
larger low p q h = grind (arith, ints)

pub step-up : (o : Option ℤ) → GoodIntStep o → pos 0 <ℤ step_of o
step-up None g = grind (arith, ints)
step-up (Some s) g = g.0

abbrev pub gap : IntDistribution → ℕ
gap d = nat_abs (d.high -ℤ d.low)

abbrev pub stride : IntDistribution → ℕ
stride d = nat_abs (step_of d.step)

module _ (d : IntDistribution) (g : GoodInt d) where
  pub some : 0 < stride d
  some = let u = step-up d.step g.good_step in grind (arith, ints)

  pub step-is : step_of d.step ≡ pos (stride d)
  step-is = let u = step-up d.step g.good_step in grind (arith, ints)

  pub gap-is : d.high -ℤ d.low ≡ pos (gap d)
  gap-is = let o = g.ordered in grind (arith, ints)

  pub count-is : int_count d ≡ gap d / stride d + 1
  count-is = ap (λ (z : ℤ). nat_abs z + 1) (λ i. int_div (gap-is i) (step-is i))

  value-is : (k : ℕ) → int_value d k ≡ d.low +ℤ pos (k * stride d)
  value-is k = ap (λ (z : ℤ). d.low +ℤ pos k *ℤ z) step-is

  within : (k : ℕ) → (k < int_count d) ↔ (int_value d k ≤ℤ d.high)
  within k =
      let steps = le-div_iff_mul-le {x = k} {y = gap d} some in
      let ends = under d.low d.high (gap d) (k * stride d) gap-is in
      rw (count-is, value-is k) (λ h. ends.0 (steps.0 (omega arith)), λ h. let l : k ≤ gap d / stride d = steps.1 (ends.1 h) in omega arith)

  -- "Int values from low by the step, or by 1 without one, and never pass high"
  ints-exactly : (v : ℤ) → Contains (values_of (IntD d)) v ↔ IsValue (IntD d) v
  unfolding values_of
  ints-exactly v =
      let m = numbered-exactly (int_value d) (int_count d) v in (
        λ c. let q = m.0 c in ((q.0, q.2), rw q.2 ((within q.0).0 q.1)),
        λ i. m.1 (i.0.0, (within i.0.0).1 (rw i.0.1 at i.1), i.0.1),
      )

  ints-rise : AllPairs ◌<ℤ◌ (values_of (IntD d))
  unfolding values_of
  ints-rise =
      numbered-rise (int_value d) (int_count d) ◌<ℤ◌
      (λ i j l. rw (value-is i, value-is j) (larger d.low (i * stride d) (j * stride d) (mul-lt-mul_of_pos_right l some)))

-- ---- any dimension that 4 to 7 pass

of_good : (d : Distribution) → Good d → (v : ℤ) → Contains (values_of d) v ↔ IsValue d v
unfolding values_of
of_good (FloatD d) g v = (λ m. absurd (omega (arith, m.1)), λ i. absurd i)
of_good (IntD d) g v = ints-exactly d g v
of_good (Categorical d) g v = numbered-exactly pos d.n_choices v

good-rise : (d : Distribution) → Good d → AllPairs ◌<ℤ◌ (values_of d)
unfolding values_of
good-rise (FloatD d) g = λ i j x l b. absurd (omega (arith, b))
good-rise (IntD d) g = ints-rise d g
good-rise (Categorical d) g = numbered-rise pos d.n_choices ◌<ℤ◌ (λ i j l. grind (arith, ints))

module _ (d : Distribution) (valid : verdict_of d ≡ Ok tt) where
  -- "every combination of these values and choices and no other", of one dimension; a Float has none
  pub values-exactly : (v : ℤ) → Contains (values_of d) v ↔ IsValue d v
  values-exactly v = of_good d (valid-good d valid) v

  -- "Choices rise from 0 and Int values from low"
  pub values-rise : AllPairs ◌<ℤ◌ (values_of d)
  values-rise = good-rise d (valid-good d valid)

-- ---- an Int's ends

module _ (d : IntDistribution) (valid : verdict_of (IntD d) ≡ Ok tt) where
  -- "Int values from low"
  pub low-listed : Contains (values_of (IntD d)) d.low
  low-listed =
      let o = (valid-good (IntD d) valid).ordered in
      let first : d.low ≡ int_value d 0 = grind (arith, ints) in
      (values-exactly (IntD d) valid d.low).1 ((0, first), o)

  -- "a high that no step meets is left out"
  pub high-left-out : ((k : ℕ) → int_value d k ≡ d.high → ⊥) → Contains (values_of (IntD d)) d.high → ⊥
  high-left-out never m = let i = (values-exactly (IntD d) valid d.high).0 m in never i.0.0 (sym i.0.1)
