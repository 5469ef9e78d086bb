-- Which of two numbers is less, by their limbs: the lowest tell only where the others are the same.
use Rattle.std.proofs.Common.{ℕ, ◌+◌, ◌*◌, ◌^◌, ◌<◌, ◌≡◌, List, ◌∷◌, Bool, cond, eqb, ltb, ap, ◌∙◌, arith, ⊎_elim}
use Rattle.std.proofs.lemmas.Bool.{cases_order}
use Rattle.std.proofs.lemmas.Bool.Decides.{nat_tests}
use Rattle.ladder_table.specs.Number.{value}

-- the answer p where the numbers are the same, else whether the first is less
abbrev pub decided : Bool → ℕ → ℕ → Bool
decided p m n = cond (eqb m n) p (ltb m n)

module _ (p : Bool) (x y m n : ℕ) (h : x < 2 ^ 32) (k : y < 2 ^ 32) where
  same : m ≡ n → decided p (x + 2 ^ 32 * m) (y + 2 ^ 32 * n) ≡ decided (decided p x y) m n
  same e = grind (arith, nat_tests)

  less : m < n → decided p (x + 2 ^ 32 * m) (y + 2 ^ 32 * n) ≡ decided (decided p x y) m n
  less e = grind (arith, nat_tests)

  more : n < m → decided p (x + 2 ^ 32 * m) (y + 2 ^ 32 * n) ≡ decided (decided p x y) m n
  more e = grind (arith, nat_tests)

  lower : decided p (x + 2 ^ 32 * m) (y + 2 ^ 32 * n) ≡ decided (decided p x y) m n
  lower = ⊎_elim same (⊎_elim less more) (cases_order m n)

-- a step of the loop: x and y are the lowest of the limbs that are left
module _ (p : Bool) (x y : ℕ) (xs ys us vs : List ℕ) (a : us ≡ x ∷ xs) (b : vs ≡ y ∷ ys) (h : x < 2 ^ 32) (k : y < 2 ^ 32) where
  lowest : decided p (value us) (value vs) ≡ decided (decided p x y) (value xs) (value ys)
  unfolding value
  lowest = rw (a, b) (lower p x y (value xs) (value ys) h k)

  pub lowest-same : x ≡ y → decided p (value us) (value vs) ≡ decided p (value xs) (value ys)
  lowest-same e = lowest ∙ ap (λ (q : Bool). decided q (value xs) (value ys)) (grind (arith, nat_tests))

  pub lowest-apart : (x ≡ y → ⊥) → decided p (value us) (value vs) ≡ decided (ltb x y) (value xs) (value ys)
  lowest-apart e = lowest ∙ ap (λ (q : Bool). decided q (value xs) (value ys)) (grind (arith, nat_tests))

pub ruleset order = (lowest-same, lowest-apart)
