-- Several things made in order, each from the generator that the one before it left: what every loop that fills an array means.
use Rattle.std.specs.Prelude.{ℕ, zero, suc, ◌+◌, ◌-◌, List, [], ◌∷◌, ◌++◌, length, replicate}
use Rattle.rng_util.specs.declared.Gen.{Gen}
use Rattle.rng_util.specs.Gen.{Made, made}

-- a list in an array of n places: the rest are d, as in a fresh state
abbrev pub pad_to : {A : Type 0} → ℕ → A → List A → List A
pad_to n d xs = xs ++ replicate (n - length xs) d

-- the same of what was made
abbrev pub padded : {A : Type 0} → ℕ → A → Made (List A) → Made (List A)
padded n d m = made (pad_to n d m.out) m.after

abbrev pub cons_made : {A : Type 0} → A → Made (List A) → Made (List A)
cons_made a r = made (a ∷ r.out) r.after

module _ {A : Type 0} (make : ℕ → Gen → Made A) where
  -- k things, the first with number i
  unfoldable pub many : ℕ → ℕ → Gen → Made (List A)
  many zero i g = made [] g
  many (suc k) i g = cons_made (make i g).out (many k (i + 1) (make i g).after)

-- without draws: f i, f (i + 1), .., k of them
unfoldable pub listed : {A : Type 0} → (ℕ → A) → ℕ → ℕ → List A
listed f zero i = []
listed f (suc k) i = f i ∷ listed f k (i + 1)
