-- Numbers of up to eight bytes, read and written.
use Prim.Native.Nat.{ℕ, zero, suc, ◌+◌, ◌-◌, ◌*◌, ◌/◌, ◌%◌, ◌^◌, ◌≤◌, ◌<◌}
use native.Mathlib.Nat.{mul_assoc, pow-suc}
use native.Mathlib.Numerals.{add-one, unary_clauses}
use native.Mathlib.Omega.{arith}
use mathlib.Core.List.{List, [], ◌∷◌, ◌++◌}
use mathlib.Core.Path.{◌≡◌, refl, sym, ap, ◌∙◌}
use lib.ListN.{length, take, drop, get_or, set, replicate, length-append, length-drop}
use borrow.Rule.Slice.PartMut.{put_mid}
use lib.Seq.{length-take-le, take-length, paste}
use Rattle.std.specs.Int.{from_le_bytes, w64}
use Rattle.std.proofs.lemmas.List.{get_or-drop, take_more, take_more_set}
use Rattle.std.proofs.lemmas.Slice.{put_mid-paste}
use Rattle.records.specs.Bytes.{bytes_of, number, field}

-- ---- read

times-pow : (n m : ℕ) → 256 * (256 ^ n * m) ≡ 256 ^ suc n * m
times-pow n m = simp unary_clauses (omega (arith, mul_assoc 256 (256 ^ n) m))

number_append : (xs ys : List ℕ) → number (xs ++ ys) ≡ number xs + 256 ^ length xs * number ys
unfolding number
number_append [] ys = omega arith
number_append (x ∷ xs) ys = omega (arith, number_append xs ys, times-pow (length xs) (number ys))

-- zeros after the bytes make no difference
number-zeros : (k n : ℕ) → number (drop k (replicate n 0)) ≡ 0
unfolding number
number-zeros zero zero = refl
number-zeros (suc k) zero = refl
number-zeros zero (suc n) = omega (arith, number-zeros zero n)
number-zeros (suc k) (suc n) = number-zeros k n

eight : (bs : List ℕ) → length bs ≡ 8 → from_le_bytes w64 bs ≡ number bs
unfolding number
eight (a ∷ b ∷ c ∷ d ∷ e ∷ f ∷ g ∷ h ∷ []) l = omega arith
eight _ l = absurd (omega arith)

pub number_small : (w : ℕ) (bs : List ℕ) → ((i : ℕ) → get_or bs i 0 < 256) → number (take w bs) < 256 ^ w
unfolding number
number_small zero bs h = omega arith
number_small (suc w) [] h = let p = number_small w [] h in omega (arith, pow-suc 256 w)
number_small (suc w) (b ∷ bs) h = let p = number_small w bs (λ i. h (suc i)) in omega (arith, h 0, pow-suc 256 w)

-- the bytes of a part of a file, with zeros up to eight
pub read_field : (f xs : List ℕ) (at w k : ℕ) → at + w ≤ length f → w ≤ 8 → k ≡ w → xs ≡ take k (drop at f) → from_le_bytes w64 (xs ++ drop w (replicate 8 0)) ≡ field f at w
read_field f xs at w k h l e q =
    let zs : List ℕ = drop w (replicate 8 0) in
    let is : xs ≡ take w (drop at f) = q ∙ ap (λ (n : ℕ). take n (drop at f)) e in
    let n : length xs ≡ w = ap length is ∙ length-take-le w (drop at f) (omega (arith, length-drop at f)) in
    let z : length zs ≡ 8 - w = length-drop w (replicate 8 0) in
    let o : number zs ≡ 0 = number-zeros w 8 in
    eight (xs ++ zs) (length-append xs zs ∙ (omega arith)) ∙ number_append xs zs ∙ ap (λ (m : ℕ). number xs + 256 ^ length xs * m) o ∙ (omega arith) ∙ ap number is

pub field_small : (f : List ℕ) (at w : ℕ) → ((i : ℕ) → get_or f i 0 < 256) → field f at w < 256 ^ w
field_small f at w h = number_small w (drop at f) (λ i. rw (get_or-drop at f i 0) (h (at + i)))

-- ---- written: the j-th byte of a number

unfoldable pub shifted : ℕ → ℕ → ℕ
shifted zero v = v
shifted (suc j) v = shifted j v / 256

shifted-first : (j v : ℕ) → shifted j (v / 256) ≡ shifted (suc j) v
unfolding shifted
shifted-first zero v = refl
shifted-first (suc j) v = ap (λ (n : ℕ). n / 256) (shifted-first j v)

byte_at : (w v j : ℕ) → j < w → get_or (bytes_of w v) j 0 ≡ shifted j v % 256
unfolding bytes_of shifted
byte_at zero v j h = absurd (omega arith)
byte_at (suc w) v zero h = refl
byte_at (suc w) v (suc j) h = byte_at w (v / 256) j (omega arith) ∙ ap (λ (n : ℕ). n % 256) (shifted-first j v)

pub bytes-length : (w v : ℕ) → length (bytes_of w v) ≡ w
unfolding bytes_of
bytes-length zero v = refl
bytes-length (suc w) v = ap suc (bytes-length w (v / 256))

-- a turn of the loop that writes them: g is what stands there, x what is left of the number
pub put_next : (g : List ℕ) (w v j x : ℕ) → length g ≡ w → j < w → take j g ≡ take j (bytes_of w v) → x ≡ shifted j v → take (j + 1) (set g j (x % 256)) ≡ take (j + 1) (bytes_of w v)
put_next g w v j x l h p q =
    take_more_set g j (x % 256) (omega arith)
    ∙ (λ i. p i ++ (ap (λ (n : ℕ). n % 256) q ∙ sym (byte_at w v j h)) i ∷ [])
    ∙ sym (take_more (bytes_of w v) j 0 (omega (arith, bytes-length w v)))

pub shift-next : (v j x : ℕ) → x ≡ shifted j v → x / 256 ≡ shifted (j + 1) v
unfolding shifted
shift-next v j x q = ap (λ (n : ℕ). n / 256) q ∙ ap (λ (n : ℕ). shifted n v) (sym (add-one j))

pub part-length : (f : List ℕ) (at w k : ℕ) → at + w ≤ length f → k ≡ w → length (take k (drop at f)) ≡ w
part-length f at w k h e = length-take-le k (drop at f) (omega (arith, length-drop at f)) ∙ e

-- and all of them, in a part of a file
pub put_last : (f g : List ℕ) (at w v j k : ℕ) → length g ≡ w → j ≡ w → k ≡ w → take j g ≡ take j (bytes_of w v) → put_mid at k f g ≡ paste f at (bytes_of w v) w
put_last f g at w v j k l e q p =
    put_mid-paste at k f g (bytes_of w v) w
    (sym (take-all g j (l ∙ sym e)) ∙ p ∙ take-all (bytes_of w v) j (bytes-length w v ∙ sym e)) (sym q) (sym (bytes-length w v))
  where
    take-all : (xs : List ℕ) (n : ℕ) → length xs ≡ n → take n xs ≡ xs
    take-all xs n e = ap (λ (m : ℕ). take m xs) (sym e) ∙ take-length xs
