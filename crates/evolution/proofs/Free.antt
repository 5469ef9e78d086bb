-- One index: the loop a draw at a time, and that what is selected is below N and free. Of four indices, three that are taken hit at most three.
use Prim.Native.Nat.{ℕ, zero, suc, ◌+◌, ◌-◌, ◌<◌, ◌≤◌}
use native.Mathlib.Nat.{mod-lt}
use native.Mathlib.Omega.{arith}
use mathlib.Core.Path.{◌≡◌, refl, sym, ap, ◌∙◌}
use mathlib.Core.Bool.{Bool, true, false, cond, not, ◌||◌}
use mathlib.Core.List.{List, [], ◌∷◌}
use borrow.Author.Tests.{eqb-true, eqb-false}
use lib.Dec.{eqb}
use lib.ListN.{length}
use Rattle.std.specs.List.{list_any}
use Rattle.std.proofs.lemmas.Bool.Decides.{nat_tests}
use Rattle.rng_util.specs.Draws.{usize_of}
use Rattle.rng_util.specs.Gen.{draw_of, Made, made}
use Rattle.rng_util.specs.declared.Gen.{Gen}
use Rattle.evolution.specs.Select.{is_free, lowest_free, select_from}

-- ---- the code's test of what is taken

eqb_flip : (a b : ℕ) → eqb a b ≡ eqb b a
eqb_flip a b = grind (arith, nat_tests)

pub free_is : (ts : List ℕ) (r : ℕ) → is_free ts r ≡ not (list_any (λ (t : ℕ). eqb t r) ts)
unfolding is_free
free_is [] r = refl
free_is (t ∷ ts) r = rw (eqb_flip t r) (go (eqb r t) (free_is ts r))
  where
    go : (b : Bool) → is_free ts r ≡ not (list_any (λ (t : ℕ). eqb t r) ts) → cond b false (is_free ts r) ≡ not (b || list_any (λ (t : ℕ). eqb t r) ts)
    go true e = refl
    go false e = e

-- ---- the loop, a draw at a time

module _ (N : ℕ) (ts : List ℕ) (k : ℕ) (g : Gen) where
  module _ (o i : ℕ) (g' : Gen) (r : Bool) (h : k < 1024) (e : made o g' ≡ draw_of g) (q : i ≡ usize_of o N) (f : r ≡ is_free ts i) where
    left : 1024 - k ≡ suc (1024 - (k + 1))
    left = omega arith

    index_is : i ≡ usize_of (draw_of g).out N
    index_is = q ∙ ap (λ (x : Made ℕ). usize_of x.out N) e

    after-is : (draw_of g).after ≡ g'
    after-is = ap (λ (x : Made ℕ). x.after) (sym e)

    free-is : (t : Bool) → r ≡ t → is_free ts (usize_of (draw_of g).out N) ≡ t
    free-is t p = ap (is_free ts) (sym index_is) ∙ sym f ∙ p

    pub select_yes : r ≡ true → select_from N ts (1024 - k) g ≡ made i g'
    unfolding select_from
    select_yes p = rw (left, free-is true p, ← index_is, after-is)

    pub select_no : r ≡ false → select_from N ts (1024 - k) g ≡ select_from N ts (1024 - (k + 1)) g'
    unfolding select_from
    select_no p = rw (left, free-is false p, after-is)

  pub select-end : (r : ℕ) → 1024 ≤ k → r ≡ lowest_free ts → select_from N ts (1024 - k) g ≡ made r g
  unfolding select_from
  select-end r h e = let none : 1024 - k ≡ 0 = omega arith in rw (none, e)

-- ---- the lowest allowed index exists

abbrev hit : ℕ → ℕ → ℕ
hit r t = cond (eqb r t) 1 0

-- how many of those taken are r
unfoldable hits : List ℕ → ℕ → ℕ
hits [] r = 0
hits (t ∷ ts) r = hit r t + hits ts r

one_at_most : (t : Bool) → 0 + cond t 1 0 ≤ 1
one_at_most true = omega arith
one_at_most false = omega arith

pair_of : (i j a : ℕ) (s t : Bool) → eqb i a ≡ s → eqb j a ≡ t → (i ≡ j → ⊥) → cond s 1 0 + cond t 1 0 ≤ 1
pair_of i j a true true e f h = absurd (h (eqb-true i a e ∙ sym (eqb-true j a f)))
pair_of i j a true false e f h = omega arith
pair_of i j a false t e f h = one_at_most t

-- two indices are not both a
pair : (i j a : ℕ) → (i ≡ j → ⊥) → hit i a + hit j a ≤ 1
pair i j a h = pair_of i j a (eqb i a) (eqb j a) refl refl h

four : (a : ℕ) → hit 0 a + hit 1 a + hit 2 a + hit 3 a ≤ 1
four a = omega (arith, pair 0 1 a (λ e. omega arith), pair 0 2 a (λ e. omega arith), pair 0 3 a (λ e. omega arith), pair 1 2 a (λ e. omega arith), pair 1 3 a (λ e. omega arith), pair 2 3 a (λ e. omega arith))

all-four : (ts : List ℕ) → hits ts 0 + hits ts 1 + hits ts 2 + hits ts 3 ≤ length ts
unfolding hits
all-four [] = omega arith
all-four (t ∷ ts) = omega (arith, four t, all-four ts)

taken : (ts : List ℕ) (r : ℕ) → is_free ts r ≡ false → 1 ≤ hits ts r
unfolding is_free hits
taken [] r e = absurd (let q : ◌≡◌ {A = ℕ} 0 1 = cc in omega arith)
taken (t ∷ ts) r e = go (eqb r t) e (taken ts r)
  where
    go : (b : Bool) → cond b false (is_free ts r) ≡ false → (is_free ts r ≡ false → 1 ≤ hits ts r) → 1 ≤ cond b 1 0 + hits ts r
    go true f ih = omega arith
    go false f ih = omega (arith, ih f)

by_flag : (t : Bool) → (t ≡ false → ⊥) → t ≡ true
by_flag true h = refl
by_flag false h = absurd (h refl)

last-free : (ts : List ℕ) → length ts ≤ 3 → is_free ts 0 ≡ false → is_free ts 1 ≡ false → is_free ts 2 ≡ false → is_free ts 3 ≡ true
last-free ts h p q r = by_flag (is_free ts 3) (λ s. omega (arith, taken ts 0 p, taken ts 1 q, taken ts 2 r, taken ts 3 s, all-four ts))

pub lowest-free : (ts : List ℕ) → length ts ≤ 3 → is_free ts (lowest_free ts) ≡ true
unfolding lowest_free
lowest-free ts h = go (is_free ts 0) (is_free ts 1) (is_free ts 2) refl refl refl
  where
    go : (x y z : Bool) → is_free ts 0 ≡ x → is_free ts 1 ≡ y → is_free ts 2 ≡ z → is_free ts (cond x 0 (cond y 1 (cond z 2 3))) ≡ true
    go true y z p q r = p
    go false true z p q r = q
    go false false true p q r = r
    go false false false p q r = last-free ts h p q r

lowest-below : (N : ℕ) (ts : List ℕ) → 4 ≤ N → lowest_free ts < N
unfolding lowest_free
lowest-below N ts h = go (is_free ts 0) (is_free ts 1) (is_free ts 2)
  where
    go : (x y z : Bool) → cond x 0 (cond y 1 (cond z 2 3)) < N
    go true y z = omega arith
    go false true z = omega arith
    go false false true = omega arith
    go false false false = omega arith

-- ---- what is selected

module _ (N : ℕ) (ts : List ℕ) where
  pub select-free : length ts ≤ 3 → (k : ℕ) (g : Gen) → is_free ts (select_from N ts k g).out ≡ true
  unfolding select_from
  select-free h zero g = lowest-free ts h
  select-free h (suc k) g = go (is_free ts (usize_of (draw_of g).out N)) refl (select-free h k (draw_of g).after)
    where
      go : (t : Bool) → is_free ts (usize_of (draw_of g).out N) ≡ t → is_free ts (select_from N ts k (draw_of g).after).out ≡ true
          → is_free ts (cond t (made (usize_of (draw_of g).out N) (draw_of g).after) (select_from N ts k (draw_of g).after)).out ≡ true
      go true e r = e
      go false e r = r

  pub select-below : 4 ≤ N → (k : ℕ) (g : Gen) → (select_from N ts k g).out < N
  unfolding select_from
  select-below h zero g = lowest-below N ts h
  select-below h (suc k) g = go (is_free ts (usize_of (draw_of g).out N)) (select-below h k (draw_of g).after)
    where
      go : (t : Bool) → (select_from N ts k (draw_of g).after).out < N → (cond t (made (usize_of (draw_of g).out N) (draw_of g).after) (select_from N ts k (draw_of g).after)).out < N
      go true r = let p : 0 < N = omega arith in mod-lt (draw_of g).out p
      go false r = r

  -- by at most k draws
  pub select-draws : (k : ℕ) (g : Gen) → (select_from N ts k g).after.draws ≤ g.draws + k
  unfolding select_from draw_of
  select-draws zero g = omega arith
  select-draws (suc k) g = go (is_free ts (usize_of (draw_of g).out N)) (usize_of (draw_of g).out N) (select-draws k (draw_of g).after)
    where
      go : (t : Bool) (i : ℕ) → (select_from N ts k (draw_of g).after).after.draws ≤ g.draws + 1 + k → (cond t (made i (draw_of g).after) (select_from N ts k (draw_of g).after)).after.draws ≤ g.draws + suc k
      go true i r = omega arith
      go false i r = omega arith

-- a free index differs from each that is taken
pub free-first : (t : ℕ) (ts : List ℕ) (r : ℕ) → is_free (t ∷ ts) r ≡ true → r ≡ t → ⊥
unfolding is_free
free-first t ts r e = eqb-false r t (go (eqb r t) e)
  where
    go : (b : Bool) → cond b false (is_free ts r) ≡ true → b ≡ false
    go true f = absurd (let q : ◌≡◌ {A = ℕ} 0 1 = cc in omega arith)
    go false f = refl

pub free-rest : (t : ℕ) (ts : List ℕ) (r : ℕ) → is_free (t ∷ ts) r ≡ true → is_free ts r ≡ true
unfolding is_free
free-rest t ts r e = go (eqb r t) e
  where
    go : (b : Bool) → cond b false (is_free ts r) ≡ true → is_free ts r ≡ true
    go true f = absurd (let q : ◌≡◌ {A = ℕ} 0 1 = cc in omega arith)
    go false f = f
