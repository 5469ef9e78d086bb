-- Lists of trial numbers: numbers that increase differ, and what the code's tests of either answer.
use Prim.Native.Nat.{ℕ, zero, suc, ◌+◌, ◌<◌}
use native.Mathlib.Numerals.{add-one}
use native.Mathlib.Omega.{arith}
use native.Mathlib.Nat.{not-suc-le-zero, le_of_suc-le-suc}
use mathlib.Core.Path.{◌≡◌, refl, sym, ap, ◌∙◌}
use mathlib.Core.Bool.{Bool, true, false, not, ◌&&◌, ◌||◌, cond}
use mathlib.Core.List.{List, [], ◌∷◌}
use borrow.Author.Tests.{ne_eqb, lt-ltb, ltb-true}
use lib.Dec.{eqb, ltb}
use lib.ListN.{length, get_or}
use Rattle.std.specs.List.{IsAllAdjacentAnswer, list_any}
use Rattle.ledger.specs.Words.{has, differing}
use Rattle.state.specs.Blank.{blank_trial}
use Rattle.state.specs.Places.{numbers_of, increasing}
use Rattle.state.specs.declared.TrialProgress.{TrialProgress}
use Rattle.std.proofs.lemmas.Bool.{and_parts}
use Rattle.state.proofs.Flags.{and-true}

-- ---- numbers that increase

abbrev rises : TrialProgress → TrialProgress → Bool
rises a b = ltb a.number b.number

rising : (ts : List TrialProgress) → ((k : ℕ) → k + 1 < length ts → true ≡ rises (get_or ts k blank_trial) (get_or ts (k + 1) blank_trial)) → true ≡ increasing (numbers_of ts)
unfolding increasing
rising [] h = refl
rising (t ∷ []) h = refl
rising (t ∷ u ∷ ts) h =
    sym (and-true (sym (h 0 (omega arith))) (sym (rising (u ∷ ts) (λ k l. let e : true ≡ rises (get_or (t ∷ u ∷ ts) (suc k) blank_trial) (get_or (t ∷ u ∷ ts) (suc k + 1) blank_trial) = h (suc k) (omega (arith, l)) in rw add-one (rw add-one at e)))))

not-rising : (ts : List TrialProgress) (k : ℕ) → suc k < length ts → false ≡ rises (get_or ts k blank_trial) (get_or ts (suc k) blank_trial) → false ≡ increasing (numbers_of ts)
unfolding increasing
not-rising [] k h e = absurd (not-suc-le-zero h)
not-rising (t ∷ []) k h e = absurd (not-suc-le-zero (le_of_suc-le-suc h))
not-rising (t ∷ u ∷ ts) zero h e = ap (λ (b : Bool). b && increasing (numbers_of (u ∷ ts))) e
not-rising (t ∷ u ∷ ts) (suc k) h e = and_no (rises t u) ∙ ap (λ (b : Bool). rises t u && b) (not-rising (u ∷ ts) k (le_of_suc-le-suc h) e)
  where
    and_no : (b : Bool) → false ≡ (b && false)
    and_no true = refl
    and_no false = refl

pub increasing-is : (ts : List TrialProgress) (r : Bool) → IsAllAdjacentAnswer (λ a b s. s ≡ rises a b) ts r → r ≡ increasing (numbers_of ts)
increasing-is ts true h = rising ts (λ k l. h k blank_trial l)
increasing-is ts false h = not-rising ts h.0 (rw add-one at h.1) (rw add-one at (h.2 blank_trial))

-- a number below the first of those is none of them
below_none : (k : ℕ) (ns : List ℕ) → increasing (k ∷ ns) ≡ true → has ns k ≡ false
unfolding increasing has
below_none k [] e = refl
below_none k (m ∷ ns) e =
    let a = and_parts (ltb k m) (increasing (m ∷ ns)) e in
    let l : k < m = ltb-true k m a.0 in
    rw (ne_eqb m k (λ q. omega arith)) (below_none k ns (skip ns a.1))
  where
    skip : (ns : List ℕ) → increasing (m ∷ ns) ≡ true → increasing (k ∷ ns) ≡ true
    skip [] q = refl
    skip (j ∷ js) q =
        let b = and_parts (ltb m j) (increasing (j ∷ js)) q in
        and-true (lt-ltb k j (omega (arith, ltb-true k m (and_parts (ltb k m) _ e).0, ltb-true m j b.0))) b.1

pub rising_differ : (ns : List ℕ) → increasing ns ≡ true → differing ns ≡ true
unfolding increasing differing
rising_differ [] e = refl
rising_differ (n ∷ []) e = unfold has in refl
rising_differ (n ∷ m ∷ ns) e = and-true (ap not (below_none n (m ∷ ns) e)) (rising_differ (m ∷ ns) (and_parts (ltb n m) (increasing (m ∷ ns)) e).1)

-- ---- a number among the trials'

pub has-any : (ts : List TrialProgress) (n : ℕ) → list_any (λ (t : TrialProgress). eqb t.number n) ts ≡ has (numbers_of ts) n
unfolding has
has-any [] n = refl
has-any (t ∷ ts) n = go (eqb t.number n) ∙ ap (λ (b : Bool). cond (eqb t.number n) true b) (has-any ts n)
  where
    go : (b : Bool) → (b || list_any (λ (t : TrialProgress). eqb t.number n) ts) ≡ cond b true (list_any (λ (t : TrialProgress). eqb t.number n) ts)
    go true = refl
    go false = refl

-- ---- numbers that differ: the first against those after it

module _ (rest later : List TrialProgress) (t : TrialProgress) (r : Bool) (e : rest ≡ t ∷ later) (q : r ≡ has (numbers_of later) t.number) where
  differ-next : differing (numbers_of rest) ≡ (not r && differing (numbers_of later))
  unfolding differing
  differ-next = rw (e, q)

  pub differ-found : r ≡ true → differing (numbers_of rest) ≡ false
  differ-found f = differ-next ∙ ap (λ (b : Bool). not b && differing (numbers_of later)) f

  pub differ-on : r ≡ false → differing (numbers_of rest) ≡ differing (numbers_of later)
  differ-on f = differ-next ∙ ap (λ (b : Bool). not b && differing (numbers_of later)) f

pub differ-none : (ts : List TrialProgress) → length ts ≡ 0 → differing (numbers_of ts) ≡ true
unfolding differing
differ-none [] e = refl
differ-none (t ∷ ts) e = absurd (let q : suc (length ts) ≡ 0 = e in omega arith)

pub ruleset differs = (differ-found, differ-on, differ-none)
