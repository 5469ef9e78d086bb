-- HEX: its digits, and its bytes.
use Rattle.std.proofs.Common.{◌≡◌, ℕ, suc, ◌+◌, ◌*◌, ◌/◌, ◌<◌, ◌≤◌, List, [], ◌∷◌, ◌++◌, length, get_or, set, Option, Some, None, is_some, unwrap_or, refl, sym, ap, ◌∙◌, length-set, arith}
use Rattle.std.specs.List.{list_all}
use Rattle.numbers.specs.Numbers.{digit_of, all_digits}
use Rattle.numbers.proofs.Laws.{sixteen, digit_in-some}
use Rattle.script.specs.Hex.{hex_digit, hex_of, overwritten}

-- a digit fits four bits
pub small : (b : ℕ) → hex_digit b ≤ 15
unfolding hex_digit
small b = go (digit_of b) refl
  where
    go : (o : Option ℕ) → digit_of b ≡ o → unwrap_or o 0 ≤ 15
    go None e = omega arith
    go (Some d) e = omega (arith, digit_in-some 16 b d (sixteen b ∙ e))

-- every byte is a digit, as `all` tests it
pub all_are : (s : List ℕ) → list_all (λ b. is_some (digit_of b)) s ≡ all_digits 16 s
unfolding all_digits
all_are [] = refl
all_are (b ∷ s) = rw (sixteen b, all_are s)

-- ---- the bytes of a word

pub half : (s : List ℕ) → length (hex_of s) ≡ length s / 2
unfolding hex_of
half [] = omega arith
half (a ∷ []) = omega arith
half (a ∷ b ∷ s) = omega (arith, half s)

pair-first : (pair s : List ℕ) → length pair ≡ 2 → hex_of (pair ++ s) ≡ (hex_digit (get_or pair 0 0) * 16 + hex_digit (get_or pair 1 0)) ∷ hex_of s
unfolding hex_of
pair-first [] s h = absurd (omega arith)
pair-first (a ∷ []) s h = absurd (omega arith)
pair-first (a ∷ b ∷ []) s h = refl
pair-first (a ∷ b ∷ c ∷ more) s h = absurd (omega arith)

few : (s : List ℕ) → length s < 2 → hex_of s ≡ []
unfolding hex_of
few [] h = refl
few (a ∷ []) h = refl
few (a ∷ b ∷ s) h = absurd (omega arith)

-- ---- the stores

-- where a loop stands that has stored k bytes of the word in f, the digits of rest being left
pub record Storing (hex f₀ : List ℕ) (at k : ℕ) (f rest : List ℕ) : Type 0 where
  pub room : at + k + length (hex_of rest) ≤ length f
  pub bytes : overwritten (at + k) (hex_of rest) f ≡ overwritten at (hex_of hex) f₀

pub stored-none : (hex f : List ℕ) (at k : ℕ) (rest : List ℕ) → at + length (hex_of hex) ≤ length f → k ≡ 0 → rest ≡ hex → Storing hex f at k f rest
stored-none hex f at k rest h e r = let z : at + k ≡ at = omega arith in record { room = omega (arith, ap length (ap hex_of r)); bytes = rw (z, r) }

module _ (hex f₀ : List ℕ) (at k : ℕ) (f rest : List ℕ) (now : Storing hex f₀ at k f rest) (pair s : List ℕ) (two : length pair ≡ 2) (e : rest ≡ pair ++ s) where
  next_byte : hex_of rest ≡ (hex_digit (get_or pair 0 0) * 16 + hex_digit (get_or pair 1 0)) ∷ hex_of s
  next_byte = ap hex_of e ∙ pair-first pair s two

  pub stored-room : at + k < length f
  stored-room = omega (arith, now.room, ap length next_byte)

  pub stored-more : (a b i n : ℕ) → a ≡ hex_digit (get_or pair 0 0) → b ≡ hex_digit (get_or pair 1 0) → i ≡ k → n ≡ k + 1 → Storing hex f₀ at n (set f (at + i) (a * 16 + b)) s
  unfolding overwritten
  stored-more a b i n p q r t =
      let c = hex_digit (get_or pair 0 0) * 16 + hex_digit (get_or pair 1 0) in
      let next : at + n ≡ suc (at + k) = omega arith in
      record {
        room = omega (arith, now.room, ap length next_byte, length-set f (at + i) (a * 16 + b));
        bytes = rw (next, p, q, r) (sym (ap (λ (bs : List ℕ). overwritten (at + k) bs f) next_byte) ∙ now.bytes);
      }

pub stored-all : (hex f₀ : List ℕ) (at k : ℕ) (f rest : List ℕ) → Storing hex f₀ at k f rest → length rest < 2 → f ≡ overwritten at (hex_of hex) f₀
unfolding overwritten
stored-all hex f₀ at k f rest now h = sym (ap (λ (bs : List ℕ). overwritten (at + k) bs f) (few rest h)) ∙ now.bytes
