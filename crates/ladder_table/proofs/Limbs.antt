-- The value of limbs: of a product, limb by limb, of a power, and of one limb among zeros.
use Rattle.std.proofs.Common.{ℕ, zero, suc, ◌+◌, ◌*◌, ◌^◌, ◌<◌, ◌≤◌, ◌≡◌, List, [], ◌∷◌, ◌++◌, length, take, drop, set, replicate, ◌/◌, ◌%◌, get_or, refl, sym, ap, ◌∙◌, arith, add-one}
use Rattle.std.proofs.Math.Nat.{pow-suc, pow-zero, mul_comm, add-zero}
use Rattle.std.proofs.lemmas.List.{take_more, take_more_set, length-take-le, length_push, take_all, get_or-drop, drop-set-lt, drop-drop}
use Rattle.std.proofs.lemmas.Nat.{one_shl}
use lib.Pow.{pow-add}
use Rattle.ladder.proofs.Powers.{pow-mul}
use Rattle.ladder_table.specs.Number.{value}

-- what the limb above n others counts
abbrev weight : ℕ → ℕ
weight n = (2 ^ 32) ^ n

weight-more : (n : ℕ) → weight (n + 1) ≡ 2 ^ 32 * weight n
weight-more n = ap weight (add-one n) ∙ pow-suc (2 ^ 32) n ∙ mul_comm (weight n) (2 ^ 32)

-- one limb more
value_push : (xs : List ℕ) (x : ℕ) → value (xs ++ x ∷ []) ≡ value xs + x * weight (length xs)
unfolding value
value_push [] x = omega arith
value_push (y ∷ ys) x = omega (arith, value_push ys x, ap (λ (w : ℕ). x * w) (pow-suc (2 ^ 32) (length ys)))

-- ---- a product

-- One limb d more, with c carried into it, gives the limb x and carries y. The limbs so far stand for b, and those of their product for a.
step : (a b c d x y t w : ℕ) → a + c * w ≡ b * t → x + y * 2 ^ 32 ≡ d * t + c → a + x * w + y * (2 ^ 32 * w) ≡ (b + d * w) * t
step a b c d x y t w h e = omega (arith, h, ap (λ (v : ℕ). v * w) e)

product_push : (xs ys : List ℕ) (c d x y t : ℕ) → length xs ≡ length ys → value (ys ++ c ∷ []) ≡ value xs * t → x + y * 2 ^ 32 ≡ d * t + c
    → value ((ys ++ x ∷ []) ++ y ∷ []) ≡ value (xs ++ d ∷ []) * t
product_push xs ys c d x y t l h e =
    rw (value_push (ys ++ x ∷ []) y, value_push ys x, value_push xs d, length_push ys x, weight-more (length ys), l)
    (step (value ys) (value xs) c d x y t (weight (length ys)) (sym (value_push ys c) ∙ h) e)

-- no limb yet
pub no-limbs : (t : ℕ) → value (0 ∷ []) ≡ value [] * t
unfolding value
no-limbs t = omega arith

-- A step of the loop, at limb i: xs are the limbs as they were, and ys as they are, which from i on is the same.
module _ (xs ys : List ℕ) (i : ℕ) (same : drop i ys ≡ drop i xs) where
  same-limb : get_or ys i 0 ≡ get_or xs i 0
  same-limb =
      ap (λ (k : ℕ). get_or ys k 0) (sym (add-zero i)) ∙ sym (get_or-drop i ys 0 0) ∙ ap (λ (zs : List ℕ). get_or zs 0 0) same ∙ get_or-drop i xs 0 0
      ∙ ap (λ (k : ℕ). get_or xs k 0) (add-zero i)

  pub same-rest : (x : ℕ) → drop (i + 1) (set ys i x) ≡ drop (i + 1) xs
  same-rest x = drop-set-lt (i + 1) ys i x (omega arith) ∙ sym (drop-drop 1 i ys) ∙ ap (drop 1) same ∙ drop-drop 1 i xs

  pub times_more : (c x y t : ℕ) → i < length ys → length ys ≡ length xs → value (take i ys ++ c ∷ []) ≡ value (take i xs) * t → x + y * 2 ^ 32 ≡ get_or ys i 0 * t + c
      → value (take (i + 1) (set ys i x) ++ y ∷ []) ≡ value (take (i + 1) xs) * t
  times_more c x y t h l e p =
      let k : i < length xs = omega arith in
      let as-long = length-take-le i xs (omega arith) ∙ sym (length-take-le i ys (omega arith)) in
      rw (take_more_set ys i x h, take_more xs i 0 k)
      (product_push (take i xs) (take i ys) c (get_or xs i 0) x y t as-long e (p ∙ ap (λ (d : ℕ). d * t + c) same-limb))

pub ruleset products = (no-limbs, same-rest, times_more)

-- ---- a power

pub first-power : (t : ℕ) → value (t ∷ []) ≡ t ^ 1
unfolding value
first-power t = rw (pow-suc t 0, pow-zero t) (omega arith)

pub whole : (xs : List ℕ) (n : ℕ) → length xs ≤ n → value xs ≡ value (take n xs)
whole xs n h = ap value (sym (take_all n xs h))

pub ruleset powers = (first-power, whole)

-- ---- one limb among zeros

zeros : (n : ℕ) → value (replicate n 0) ≡ 0
unfolding value
zeros zero = refl
zeros (suc n) = omega (arith, zeros n)

pub alone : (n k x : ℕ) → k < n → value (set (replicate n 0) k x) ≡ x * weight k
unfolding value
alone zero k x h = absurd (omega arith)
alone (suc n) zero x h = omega (arith, zeros n)
alone (suc n) (suc k) x h = omega (arith, alone n k x (omega arith), ap (λ (w : ℕ). x * w) (pow-suc (2 ^ 32) k))

-- bit e is bit e % 32 of limb e / 32
bit-weight : (e : ℕ) → 2 ^ (e % 32) * weight (e / 32) ≡ 2 ^ e
bit-weight e =
    ap (λ (w : ℕ). 2 ^ (e % 32) * w) (pow-mul 2 32 (e / 32)) ∙ sym (pow-add 2 (e % 32) (e / 32 * 32)) ∙ ap (λ (k : ℕ). 2 ^ k) (omega arith)

pub bit-of-limb : (e limb : ℕ) → limb ≡ (1 * 2 ^ (e % 32)) % 2 ^ 32 → limb * weight (e / 32) ≡ 2 ^ e
bit-of-limb e limb h = ap (λ (x : ℕ). x * weight (e / 32)) (h ∙ one_shl (e % 32) 32 (omega arith)) ∙ bit-weight e

pub ruleset bits = (bit-of-limb)
