-- The digits of a byte as they are put down one by one, and those of a word's bytes.
use Rattle.std.proofs.Common.{◌≡◌, ◌≢◌, ℕ, zero, suc, ◌+◌, ◌-◌, ◌*◌, ◌/◌, ◌%◌, ◌^◌, ◌<◌, ◌≤◌, min, max, Bool, true, false, cond, ltb, eqb, List, [], ◌∷◌, ◌++◌}
use Rattle.std.proofs.Common.{length, replicate, take, set, get_or, flat_map, refl, sym, ap, ap₂, ◌∙◌, inl, inr, subst, arith, eq-eqb, ne_eqb, IsUtf8, IsAscii}
use Rattle.std.proofs.Common.{append_assoc, append-nil, length-append, length-set, take-suc, take-suc-set, pow-suc, mul_comm, sub-one, add-one, w64}
use native.Mathlib.Nat.{pow-le-pow_right, div-div-eq-div-mul}
use Rattle.std.specs.Int.{byte_at, bytes_high_first, to_be_bytes}
use Rattle.std.proofs.lemmas.Bool.{cases_lt}
use Rattle.std.proofs.lemmas.Grind.{flat_map-append}
use Rattle.std.proofs.lemmas.List.{length-replicate}
use Rattle.std.proofs.lemmas.Str.{IsUtf8-from_ascii, IsAscii-append}
use Rattle.std.proofs.lemmas.Str.Ascii.{IsAscii-nil, IsAscii-cons}
use Rattle.std.specs.Fmt.{digit_glyph, digits_onto, digits}
use Rattle.io.specs.Digits.{last_digits, hex_digit_ascii}
use Rattle.printed.specs.Rows.{hex_text}

last-length : (k n : ℕ) → length (last_digits 16 k n) ≡ k
last-length zero n = refl
last-length (suc k) n = omega (arith, length-append (last_digits 16 k (n / 16)) (hex_digit_ascii (n % 16) ∷ []), last-length k (n / 16))

-- the last digit, and what stands before it
module _ (n : ℕ) (acc : List ℕ) where
  abbrev with-last : List ℕ
  with-last = digit_glyph false (n % 16) ∷ acc

  by : (i : ℕ) (t : Bool) → eqb (n / 16) 0 ≡ t → digits_onto (suc i) 16 false n acc ≡ cond t with-last (digits_onto i 16 false (n / 16) with-last)
  by i t e = ap (λ (b : Bool). cond b with-last (digits_onto i 16 false (n / 16) with-last)) e

  one : (i : ℕ) → n / 16 ≡ 0 → digits_onto (suc i) 16 false n acc ≡ with-last
  one i e = by i true (eq-eqb _ 0 e)

  step : (i : ℕ) → n / 16 ≢ 0 → digits_onto (suc i) 16 false n acc ≡ digits_onto i 16 false (n / 16) with-last
  step i e = by i false (ne_eqb _ 0 e)

-- a number of just so many digits
onto : (j i n : ℕ) (acc : List ℕ) → n < 16 ^ suc j → (0 < j → 16 ^ j ≤ n) → j < i → digits_onto i 16 false n acc ≡ last_digits 16 (suc j) n ++ acc
onto j zero n acc h l m = absurd (omega arith)
onto zero (suc i) n acc h l m = one n acc i (omega (arith, h))
onto (suc j) (suc i) n acc h l m =
    let least = l (omega arith) in
    let some : n / 16 ≢ 0 = λ e. omega (arith, least, pow-suc 16 j, pow-le-pow_right {n = 16} (omega arith) {i = 0} {j = j} (omega arith)) in
    step n acc i some
    ∙ onto j i (n / 16) (digit_glyph false (n % 16) ∷ acc) (omega (arith, h, pow-suc 16 (suc j))) (λ p. omega (arith, least, pow-suc 16 j)) (omega arith)
    ∙ sym (append_assoc (last_digits 16 (suc j) (n / 16)) (hex_digit_ascii (n % 16) ∷ []) acc)

exact : (j n : ℕ) → n < 16 ^ suc j → (0 < j → 16 ^ j ≤ n) → j < 64 → digits 16 false n ≡ last_digits 16 (suc j) n
unfolding digits
exact j n h l m = onto j 64 n [] h l m ∙ append-nil (last_digits 16 (suc j) n)

-- one digit more than a number has is a zero in front
lead : (k n : ℕ) → n < 16 ^ k → last_digits 16 (suc k) n ≡ 48 ∷ last_digits 16 k n
lead zero n h = let e : n ≡ 0 = omega (arith, h) in rw e refl
lead (suc k) n h = ap (λ (l : List ℕ). l ++ hex_digit_ascii (n % 16) ∷ []) (lead k (n / 16) (omega (arith, h, pow-suc 16 k)))

-- as many digits as are asked for: all its own, or zeros in front
just : (k n : ℕ) → n < 16 ^ suc k → (0 < k → 16 ^ k ≤ n) → k < 64 → hex_text (suc k) n ≡ last_digits 16 (suc k) n
unfolding hex_text
just k n h l m =
    let e = exact k n h l m in
    let z : suc k - length (digits 16 false n) ≡ 0 = omega (arith, ap length e, last-length (suc k) n) in
    rw z e

more : (k n : ℕ) → n < 16 ^ k → hex_text k n ≡ last_digits 16 k n → hex_text (suc k) n ≡ last_digits 16 (suc k) n
unfolding hex_text
more k n f e =
    let ds = digits 16 false n in
    let zeros = k - length ds in
    let s : suc k - length ds ≡ suc zeros =
    omega (arith, ap length e, last-length k n, length-append (replicate zeros 48) ds, length-replicate {A = ℕ} zeros 48) in
    rw s (ap (λ (l : List ℕ). 48 ∷ l) e ∙ sym (lead k n f))

many : (k n : ℕ) → n < 16 ^ suc k → k < 64 → hex_text (suc k) n ≡ last_digits 16 (suc k) n
many zero n h m = just zero n h (λ p. absurd (omega arith)) m
many (suc j) n h m = elim (cases_lt n (16 ^ suc j)) [
  | inl f ↦ more (suc j) n f (many j n f (omega arith))
  | inr l ↦ just (suc j) n h (λ p. l) m
]

-- a byte is two digits
byte-is : (b : ℕ) → b < 256 → hex_text 2 b ≡ digit_glyph false (b / 16) ∷ digit_glyph false (b % 16) ∷ []
byte-is b h =
    let same : b / 16 % 16 ≡ b / 16 = omega arith in
    many 1 b (omega arith) (omega arith) ∙ ap (λ (d : ℕ). digit_glyph false d ∷ digit_glyph false (b % 16) ∷ []) same

-- the highest digit stands first
highest : (j n : ℕ) → last_digits 16 (suc j) n ≡ hex_digit_ascii (n / 16 ^ j % 16) ∷ last_digits 16 j n
highest zero n = let e : n % 16 ≡ n / 16 ^ 0 % 16 = omega arith in ap (λ (d : ℕ). hex_digit_ascii d ∷ []) e
highest (suc j) n =
    let e : n / 16 / 16 ^ j ≡ n / 16 ^ suc j = div-div-eq-div-mul n 16 (16 ^ j) ∙ ap (λ (p : ℕ). n / p) (mul_comm 16 (16 ^ j) ∙ sym (pow-suc 16 j)) in
    ap (λ (l : List ℕ). l ++ hex_digit_ascii (n % 16) ∷ []) (highest j (n / 16))
    ∙ ap (λ (q : ℕ). hex_digit_ascii (q % 16) ∷ last_digits 16 (suc j) n) e

abbrev twice : ℕ → ℕ
twice zero = zero
twice (suc k) = suc (suc (twice k))

bytes-power : (k : ℕ) → 16 ^ twice k ≡ 256 ^ k
bytes-power zero = refl
bytes-power (suc k) = omega (arith, bytes-power k, pow-suc 16 (twice k), pow-suc 16 (suc (twice k)), pow-suc 256 k)

byte-at : (k n : ℕ) → byte_at k n ≡ n / 16 ^ twice k % 256
byte-at zero n = let e : n % 256 ≡ n / 16 ^ 0 % 256 = omega arith in e
byte-at (suc k) n = ap (λ (p : ℕ). n / p % 256) (sym (bytes-power (suc k)))

of-bytes : (k n : ℕ) → flat_map (hex_text 2) (bytes_high_first k n) ≡ last_digits 16 (twice k) n
of-bytes zero n = refl
of-bytes (suc k) n =
    let t = twice k in
    let q = n / 16 ^ t in
    let small : q % 256 < 256 = omega arith in
    let next : q / 16 ≡ n / 16 ^ suc t = div-div-eq-div-mul n (16 ^ t) 16 ∙ ap (λ (p : ℕ). n / p) (sym (pow-suc 16 t)) in
    let high : q % 256 / 16 ≡ n / 16 ^ suc t % 16 = omega (arith, next) in
    let low : q % 256 % 16 ≡ q % 16 = omega arith in
    ap₂ (λ (k l : List ℕ). k ++ l) (ap (hex_text 2) (byte-at k n) ∙ byte-is (q % 256) small) (of-bytes k n)
    ∙ ap₂ (λ (c d : ℕ). digit_glyph false c ∷ digit_glyph false d ∷ last_digits 16 t n) high low
    ∙ sym (highest (suc t) n ∙ ap (λ (l : List ℕ). hex_digit_ascii (n / 16 ^ suc t % 16) ∷ l) (highest t n))

pub word-is : (n : ℕ) → n < 2 ^ 64 → flat_map (hex_text 2) (to_be_bytes w64 n) ≡ hex_text 16 n
word-is n h = of-bytes 8 n ∙ sym (many 15 n (omega arith) (omega arith))

pub ruleset word = (word-is)

-- two letters put behind those so far
two : (t : List ℕ) (m x y : ℕ) → suc m < length t → take (suc (suc m)) (set (set t m x) (suc m) y) ≡ take m t ++ x ∷ y ∷ []
two t m x y h =
    take-suc-set (set t m x) (suc m) y (omega (arith, h, length-set t m x)) ∙ ap (λ (l : List ℕ). l ++ y ∷ []) (take-suc-set t m x (omega (arith, h)))
    ∙ append_assoc (take m t) (x ∷ []) (y ∷ [])

module _ (bs t : List ℕ) (i x y : ℕ) (h : i < length bs) (w : length bs ≤ 32) (size : length t ≡ 64) where
  abbrev next : List ℕ
  next = take ((i + 1) * 2) (set (set t (i * 2) x) (i * 2 + 1) y)

  at : next ≡ take (i * 2) t ++ x ∷ y ∷ []
  at =
      let n : (i + 1) * 2 ≡ suc (suc (i * 2)) = omega arith in
      let j : i * 2 + 1 ≡ suc (i * 2) = omega arith in
      ap₂ (λ (a b : ℕ). take a (set (set t (i * 2) x) b y)) n j ∙ two t (i * 2) x y (omega (arith, h, w, size))

  pub byte-more : get_or bs i 0 < 256 → x ≡ digit_glyph false (get_or bs i 0 / 16) → y ≡ digit_glyph false (get_or bs i 0 % 16)
      → take (i * 2) t ≡ flat_map (hex_text 2) (take i bs) → next ≡ flat_map (hex_text 2) (take (i + 1) bs)
  byte-more small ex ey e =
      let b = get_or bs i 0 in
      let pair : hex_text 2 b ++ [] ≡ x ∷ y ∷ [] = append-nil (hex_text 2 b) ∙ byte-is b small ∙ ap₂ (λ (c d : ℕ). c ∷ d ∷ []) (sym ex) (sym ey) in
      at ∙ ap₂ (λ (k l : List ℕ). k ++ l) e (sym pair) ∙ sym (flat_map-append (hex_text 2) (take i bs) (b ∷ []))
      ∙ ap (flat_map (hex_text 2)) (sym (ap (λ (n : ℕ). take n bs) (add-one i) ∙ take-suc bs i 0 h))

  pub ascii-more : x < 128 → y < 128 → IsAscii (take (i * 2) t) → IsAscii next
  ascii-more p q a = subst IsAscii (sym at) (IsAscii-append (take (i * 2) t) (x ∷ y ∷ []) a (IsAscii-cons x (y ∷ []) p (IsAscii-cons y [] q IsAscii-nil)))

pub ruleset bytes = (byte-more, ascii-more, length-set, IsUtf8-from_ascii)
