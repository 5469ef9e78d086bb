-- The wanted numbers lie between the least and the most of them: laws of a fold from the left, one for both. `ask` copies the numbers out.
use Prim.Native.Nat.{ℕ, zero, suc, ◌+◌, ◌<◌, ◌≤◌, ◌-◌, ◌^◌, min, max}
use Rattle.std.specs.Prelude.{fold}
use mathlib.Core.Path.{◌≡◌, refl, sym, ap, ◌∙◌}
use mathlib.Core.List.{List, [], ◌∷◌, ◌++◌}
use native.Mathlib.Nat.{not-suc-le-zero, le_of_suc-le-suc}
use native.Mathlib.Omega.{arith}
use native.Mathlib.Numerals.{add-one}
use lib.ListN.{length, get_or}
use Rattle.rng_util.specs.Many.{listed}
use Rattle.rng_util.proofs.Parts.{listed-last, listed-length}
use Rattle.state.specs.declared.TrialProgress.{TrialProgress}
use Rattle.de.specs.Ask.{least_of, most_of, number_at, first_numbers, asked_of}

least-down : (ns : List ℕ) (m : ℕ) → fold min m ns ≤ m
least-down [] m = omega arith
least-down (n ∷ ns) m = omega (arith, least-down ns (min m n))

least-each : (ns : List ℕ) (m i : ℕ) → i < length ns → fold min m ns ≤ get_or ns i 0
least-each [] m i h = absurd (not-suc-le-zero h)
least-each (n ∷ ns) m zero h = omega (arith, least-down ns (min m n))
least-each (n ∷ ns) m (suc i) h = least-each ns (min m n) i (le_of_suc-le-suc h)

most-up : (ns : List ℕ) (m : ℕ) → m ≤ fold max m ns
most-up [] m = omega arith
most-up (n ∷ ns) m = omega (arith, most-up ns (max m n))

most-each : (ns : List ℕ) (m i : ℕ) → i < length ns → get_or ns i 0 ≤ fold max m ns
most-each [] m i h = absurd (not-suc-le-zero h)
most-each (n ∷ ns) m zero h = omega (arith, most-up ns (max m n))
most-each (n ∷ ns) m (suc i) h = most-each ns (max m n) i (le_of_suc-le-suc h)

-- each number lies between the two
pub between : (ns : List ℕ) (i : ℕ) → i < length ns → (least_of ns ≤ get_or ns i 0) × (get_or ns i 0 ≤ most_of ns)
between ns i h = (least-each ns (2 ^ 64 - 1) i h, most-each ns 0 i h)

-- ---- what `ask` returns

-- of no trial, and of one more
pub numbers-none : (ts : List TrialProgress) → [] ≡ first_numbers ts 0
unfolding listed
numbers-none ts = refl

pub numbers-more : (ts : List TrialProgress) (i n : ℕ) (ns : List ℕ) → n ≡ number_at ts i → ns ≡ first_numbers ts i → ns ++ (n ∷ []) ≡ first_numbers ts (i + 1)
numbers-more ts i n ns e f =
    let last : n ≡ number_at ts (0 + i) = e ∙ ap (number_at ts) (omega arith) in
    (λ t. f t ++ (last t ∷ [])) ∙ sym (listed-last (number_at ts) i 0) ∙ ap (first_numbers ts) (sym (add-one i))

-- so there is room for the next
pub numbers-few : (ts : List TrialProgress) (i : ℕ) (ns : List ℕ) → ns ≡ first_numbers ts i → length ns ≡ i
numbers-few ts i ns e = ap length e ∙ listed-length (number_at ts) i 0

pub asked_is : (ns : List ℕ) (a b : List ℕ) (lo hi : ℕ) → a ≡ ns → b ≡ ns → lo ≡ least_of a → hi ≡ most_of b → record { lo = lo; hi = hi; numbers = ns } ≡ asked_of ns
unfolding asked_of
asked_is ns a b lo hi p q l m = λ i. record { lo = (l ∙ ap least_of p) i; hi = (m ∙ ap most_of q) i; numbers = ns }
