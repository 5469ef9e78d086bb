-- The open trials and the dimensions in their arrays: what the code reads and writes there is what the ledger's lists say.
use Rattle.std.specs.Prelude.{Some, slice_get}
use Prim.Native.Nat.{ℕ, zero, suc, ◌+◌, ◌-◌, ◌≤◌, min}
use mathlib.Core.Path.{◌≡◌, refl, sym, ap, ◌∙◌}
use mathlib.Core.Bool.{Bool, true, false, cond}
use mathlib.Core.List.{List, [], ◌∷◌, ◌++◌, map}
use native.Mathlib.Numerals.{add-one}
use native.Mathlib.Omega.{arith}
use borrow.Author.Tests.{eqb-true}
use lib.Dec.{eqb}
use lib.ListN.{length, get_or, set, replicate, length-map}
use Rattle.ledger.specs.State.{Trial, numbers}
use Rattle.ledger.specs.Assignment.{place_in, next_in, move}
use Rattle.ledger.proofs.Trials.{place-le}
use Rattle.state.specs.Blank.{blank_trial}
use Rattle.state.specs.View.{progress_of}
use Rattle.state.specs.declared.TrialProgress.{TrialProgress}
use Rattle.assignment.specs.Raw.{open_numbers}

pub at-get_or : {A : Type 0} (xs : List A) (i : ℕ) (a z : A) → slice_get xs i ≡ Some a → get_or xs i z ≡ a
at-get_or [] i a z e = let q : ◌≡◌ {A = ℕ} 0 1 = cc in absurd (omega arith)
at-get_or (x ∷ xs) zero a z e = cc
at-get_or (x ∷ xs) (suc i) a z e = at-get_or xs i a z e

pub place-numbers : (ts : List Trial) (n : ℕ) → place_in (numbers ts) n ≤ length ts
place-numbers ts n = omega (arith, place-le (numbers ts) n, length-map ts (λ (t : Trial). t.number))

pub numbers-laid : (ts : List Trial) (rest : List TrialProgress) → open_numbers (length ts) (map progress_of ts ++ rest) ≡ numbers ts
numbers-laid [] rest = refl
numbers-laid (t ∷ ts) rest = ap (λ (l : List ℕ). t.number ∷ l) (numbers-laid ts rest)

-- the trial's next place, and 0 at an unused place
pub next-laid : (ts : List Trial) (n k : ℕ) → (get_or (map progress_of ts ++ replicate k blank_trial) (place_in (numbers ts) n) blank_trial).next_dim ≡ next_in ts n
unfolding place_in next_in
next-laid [] n zero = refl
next-laid [] n (suc k) = refl
next-laid (t ∷ ts) n k = go (eqb t.number n) (next-laid ts n k)
  where
    go : (b : Bool) → (get_or (map progress_of ts ++ replicate k blank_trial) (place_in (numbers ts) n) blank_trial).next_dim ≡ next_in ts n
        → (get_or (progress_of t ∷ (map progress_of ts ++ replicate k blank_trial)) (cond b zero (suc (place_in (numbers ts) n))) blank_trial).next_dim ≡ cond b t.next (next_in ts n)
    go true h = refl
    go false h = h

-- a trial whose next place goes up by one and stops at D
abbrev pub moved : ℕ → ℕ → ℕ → TrialProgress
moved n k D = record { number = n; next_dim = min (k + 1) D }

abbrev onward : ℕ → Trial → Trial
onward D t = record { number = t.number; next = min (suc t.next) D }

-- stored at its place, it is the ledger's `move`
pub move-laid : (D : ℕ) (ts : List Trial) (n k : ℕ) → length (move D ts n) ≤ length ts + k
    → set (map progress_of ts ++ replicate k blank_trial) (place_in (numbers ts) n) (moved n (next_in ts n) D) ≡ map progress_of (move D ts n) ++ replicate (length ts + k - length (move D ts n)) blank_trial
unfolding place_in next_in move
move-laid D [] n zero h = absurd (omega arith)
move-laid D [] n (suc k) h = let j : k ≡ 0 + suc k - 1 = omega arith in ap (λ (j : ℕ). moved n 0 D ∷ replicate j blank_trial) j
move-laid D (t ∷ ts) n k h = go (eqb t.number n) refl h (move-laid D ts n k)
  where
    go : (b : Bool) → eqb t.number n ≡ b → length (cond b (onward D t ∷ ts) (t ∷ move D ts n)) ≤ suc (length ts) + k
        → (length (move D ts n) ≤ length ts + k → set (map progress_of ts ++ replicate k blank_trial) (place_in (numbers ts) n) (moved n (next_in ts n) D) ≡ map progress_of (move D ts n) ++ replicate (length ts + k - length (move D ts n)) blank_trial)
        → set (progress_of t ∷ (map progress_of ts ++ replicate k blank_trial)) (cond b zero (suc (place_in (numbers ts) n))) (moved n (cond b t.next (next_in ts n)) D)
        ≡ map progress_of (cond b (onward D t ∷ ts) (t ∷ move D ts n)) ++ replicate (suc (length ts) + k - length (cond b (onward D t ∷ ts) (t ∷ move D ts n))) blank_trial
    go true e h r =
        let q : n ≡ t.number = sym (eqb-true t.number n e) in
        let j : suc (length ts) + k - suc (length ts) ≡ k = omega arith in
        λ i. record { number = q i; next_dim = min (add-one t.next i) D } ∷ (map progress_of ts ++ replicate (sym j i) blank_trial)
    go false e h r =
        let j : length ts + k - length (move D ts n) ≡ suc (length ts) + k - suc (length (move D ts n)) = omega arith in
        ap (λ (l : List TrialProgress). progress_of t ∷ l) (r (omega (arith, h)) ∙ ap (λ (i : ℕ). map progress_of (move D ts n) ++ replicate i blank_trial) j)
