-- The search of one octave: the first entry of the table that is at least x × 2^(31 - k), where x lies in the octave 2^k to 2^(k + 1),
-- stands at the first position of that octave with R at least x.
use Rattle.std.proofs.Common.{◌≡◌, ℕ, suc, ◌+◌, ◌-◌, ◌*◌, ◌/◌, ◌^◌, ◌≤◌, ◌<◌, Bool, true, false, T, ltb, ltb-true, ltb-false, List, length, get_or, pos, sym, refl, ap, subst, le_refl, lt_of_lt_of_le, pow_pos, arith}
use native.Mathlib.Nat.{div-lt_iff_lt-mul, le-div_iff_mul-le}
use Rattle.std.specs.List.Sorted.{IsPartitionPoint, IsPartitionedBy}
use Rattle.std.proofs.lemmas.List.Sorted.{IsPartitionedBy-ltb, IsNonDecreasingBy-from_default}
use Rattle.ladder.specs.Inner.{inner_high}
use Rattle.ladder.specs.Rungs.{rung}
use Rattle.ladder.specs.Table.{is_ladder_table}
use Rattle.ladder.proofs.Entries.{long, entry-is}
use Rattle.ladder.proofs.Firsts.{first-is}
use Rattle.ladder.proofs.Octaves.{rung-less, rung-octave, under-octave}
use Rattle.ladder.proofs.Rungs.{rises, rung-last}

-- R(256 k + i) is R(7,936 + i) less 31 - k digits
module _ (k i : ℕ) (h : k ≤ 31) where
  octave-place : 256 * k + i + 256 * (31 - k) ≡ 7936 + i
  octave-place = omega arith

  in-octave : rung (7936 + i) / 2 ^ (31 - k) ≡ rung (256 * k + i)
  in-octave = subst (λ (p : ℕ). rung p / 2 ^ (31 - k) ≡ rung (256 * k + i)) octave-place (rung-less (256 * k + i) (31 - k))

  pub scaled-below : (x : ℕ) → rung (7936 + i) < x * 2 ^ (31 - k) → rung (256 * k + i) < x
  scaled-below x l = subst (λ (r : ℕ). r < x) in-octave ((div-lt_iff_lt-mul (pow_pos (31 - k))).1 l)

  pub scaled-from : (x : ℕ) → x * 2 ^ (31 - k) ≤ rung (7936 + i) → x ≤ rung (256 * k + i)
  scaled-from x l = subst (λ (r : ℕ). x ≤ r) in-octave ((le-div_iff_mul-le (pow_pos (31 - k))).1 l)

-- the numbers i of an octave before which R is less, and from which on it is not
pub first-in-octave : (x k i : ℕ) → x ≤ 2147483648 → k ≤ 31 → 2 ^ k ≤ x → x < 2 ^ suc k → i ≤ 256
    → ((j : ℕ) → j < i → rung (7936 + j) < x * 2 ^ (31 - k)) → (i < 256 → x * 2 ^ (31 - k) ≤ rung (7936 + i)) → inner_high (pos x) ≡ 256 * k + i
first-in-octave x k i few o low high m before from = first-is x (256 * k + i) inside at-first below
  where
    -- the last octave is 2^31 alone
    inside : 256 * k + i ≤ 7936
    inside = go (ltb 30 k) refl (ltb 0 i) refl
      where
        go : (a : Bool) → ltb 30 k ≡ a → (b : Bool) → ltb 0 i ≡ b → 256 * k + i ≤ 7936
        go false e b f = omega (arith, ltb-false 30 k e)
        go true e false f = omega (arith, ltb-false 0 i f)
        go true e true f =
            let last : k ≡ 31 = omega (arith, ltb-true 30 k e) in
            let less : rung 7936 < x * 2 ^ (31 - k) = before 0 (ltb-true 0 i f) in
            absurd (omega (arith, subst (λ (n : ℕ). rung 7936 < x * 2 ^ (31 - n)) last less, rung-last))

    at-first : 256 * k + i < 7936 → x ≤ rung (256 * k + i)
    at-first l = go (ltb i 256) refl
      where
        go : (a : Bool) → ltb i 256 ≡ a → x ≤ rung (256 * k + i)
        go true e = scaled-from k i o x (from (ltb-true i 256 e))
        go false e =
            let next : 256 * k + i ≡ 256 * suc k = omega (arith, ltb-false i 256 e) in
            subst (λ (r : ℕ). x ≤ r) (sym (ap rung next)) (subst (λ (r : ℕ). x ≤ r) (sym (rung-octave (suc k))) (omega arith))

    below : (j : ℕ) → j < 256 * k + i → rung j < x
    below j l = go (ltb j (256 * k)) refl
      where
        go : (a : Bool) → ltb j (256 * k) ≡ a → rung j < x
        go true e = lt_of_lt_of_le (under-octave j k (ltb-true j (256 * k) e)) low
        go false e =
            let is : 256 * k + (j - 256 * k) ≡ j = omega (arith, ltb-false j (256 * k) e) in
            subst (λ (p : ℕ). rung p < x) is (scaled-below k (j - 256 * k) o x (before (j - 256 * k) (omega (arith, ltb-false j (256 * k) e))))

-- the table never falls, so a test "below y" parts it
pub parted : (table : List ℕ) → T (is_ladder_table table) → (y : ℕ) → IsPartitionedBy (λ (e : ℕ). ltb e y) table
parted table t y = IsPartitionedBy-ltb (λ (e : ℕ). e) table y (IsNonDecreasingBy-from_default (λ (e : ℕ). e) table 0 rising)
  where
    rising : (i j : ℕ) → i ≤ j → j < length table → get_or table i 0 ≤ get_or table j 0
    rising i j l h =
        let n = long table t in
        rw (entry-is table t i (omega arith), entry-is table t j (omega arith)) (rises (7936 + i) (7936 + j) (omega arith))

-- where the search stops is the first of the octave
pub searched : (table : List ℕ) → T (is_ladder_table table) → (x k i : ℕ) → x ≤ 2147483648 → k ≤ 31 → 2 ^ k ≤ x → x < 2 ^ suc k → i ≤ 256
    → IsPartitionPoint (λ (e : ℕ). ltb e (x * 2 ^ (31 - k)) ≡ true) (λ (e : ℕ). ltb e (x * 2 ^ (31 - k)) ≡ false) table i → inner_high (pos x) ≡ 256 * k + i
searched table t x k i few o low high m p = first-in-octave x k i few o low high m before from
  where
    y : ℕ
    y = x * 2 ^ (31 - k)

    before : (j : ℕ) → j < i → rung (7936 + j) < y
    before j l = subst (λ (r : ℕ). r < y) (entry-is table t j (omega arith)) (ltb-true (get_or table j 0) y (p.0 j 0 (omega arith) l))

    from : i < 256 → y ≤ rung (7936 + i)
    from l = subst (λ (r : ℕ). y ≤ r) (entry-is table t i l) (ltb-false (get_or table i 0) y (p.1 i 0 (le_refl i) (omega (arith, long table t))))
