-- A loop that makes things in order and stores them from place 0 on: what it has made and stored after i turns is `many` of i, padded with d to N places.
-- Three laws are the loop's needs: at its start, for a turn, and how much has been drawn. And what holds of all that is made.
use Rattle.std.proofs.Common.{◌≡◌, ℕ, zero, suc, ◌+◌, ◌-◌, ◌*◌, ◌<◌, ◌≤◌, List, [], ◌∷◌, ◌++◌, length, set, get_or, replicate, sym, refl, ap, ◌∙◌, append_assoc, arith, add-one, add-zero, length-append}
use native.Mathlib.Nat.{sub-zero}
use lib.ListN.{length-replicate, get_or-append}
use lib.Seq.{set-append_seam}
use Rattle.rng_util.specs.declared.Gen.{Gen}
use Rattle.rng_util.specs.Gen.{Made, made, draw_of}
use Rattle.rng_util.specs.Many.{pad_to, padded, cons_made, many, listed}

left : (n i : ℕ) → i < n → n - i ≡ suc (n - (i + 1))
left n i h = omega arith

module _ {A : Type 0} (N : ℕ) (d : A) where
  -- the place after the filled ones is stored
  pub pad-put : (v : A) (xs : List A) → length xs < N → set (pad_to N d xs) (length xs) v ≡ pad_to N d (xs ++ (v ∷ []))
  pad-put v xs h = rw (left N (length xs) h, set-append_seam, length-append) (rw (append_assoc xs (v ∷ [])))

  pub pad-length : (xs : List A) → length xs ≤ N → length (pad_to N d xs) ≡ N
  pad-length xs h = length-append xs (replicate (N - length xs) d) ∙ rw length-replicate (omega arith)

  -- none are filled
  pub pad-none : replicate N d ≡ pad_to N d []
  pad-none = rw (sub-zero N)

-- as many draws as the definition makes
pub drew : {A : Type 0} {m n : Made A} → m ≡ n → m.after.draws ≡ n.after.draws
drew {A} e = ap (λ (m : Made A). m.after.draws) e

pub draw-draws : (g : Gen) → (draw_of g).after.draws ≡ g.draws + 1
unfolding draw_of
draw-draws g = refl

pub drew-one : (o : ℕ) (g g' : Gen) → made o g' ≡ draw_of g → g'.draws ≡ g.draws + 1
drew-one o g g' e = drew e ∙ draw-draws g

-- one thing more
abbrev and_then : {A : Type 0} → Made (List A) → Made A → Made (List A)
and_then r m = made (r.out ++ (m.out ∷ [])) m.after

module _ {A : Type 0} (make : ℕ → Gen → Made A) where
  -- as many as asked for
  pub many-length : (k i : ℕ) (g : Gen) → length (many make k i g).out ≡ k
  unfolding many
  many-length zero i g = refl
  many-length (suc k) i g = ap suc (many-length k (i + 1) (make i g).after)

  -- each makes at most c draws
  pub many-draws : (c : ℕ) → ((i : ℕ) (g : Gen) → (make i g).after.draws ≤ g.draws + c) → (k i : ℕ) (g : Gen) → (many make k i g).after.draws ≤ g.draws + k * c
  unfolding many
  many-draws c few zero i g = omega arith
  many-draws c few (suc k) i g = omega (arith, many-draws c few k (i + 1) (make i g).after, few i g)

  -- the last of them is made from the generator that the ones before it left
  many-last : (k i : ℕ) (g : Gen) → many make (suc k) i g ≡ and_then (many make k i g) (make (i + k) (many make k i g).after)
  unfolding many
  many-last zero i g = rw (add-zero i)
  many-last (suc k) i g =
      let j : i + 1 + k ≡ i + suc k = omega arith in
      ap (cons_made (make i g).out) (many-last k (i + 1) (make i g).after)
      ∙ ap (λ (n : ℕ). cons_made (make i g).out (and_then (many make k (i + 1) (make i g).after) (make n (many make k (i + 1) (make i g).after).after))) j

  -- only what is made is asked of `make`
  same-from : (other : ℕ → Gen → Made A) (k i : ℕ) (g : Gen) → ((j : ℕ) (e : Gen) → i ≤ j → j < i + k → make j e ≡ other j e) → many make k i g ≡ many other k i g
  unfolding many
  same-from other zero i g same = refl
  same-from other (suc k) i g same =
      let here = same i g (omega arith) (omega arith) in
      let rest = same-from other k (i + 1) (make i g).after (λ j e p q. same j e (omega arith) (omega arith)) in
      (λ t. cons_made (make i g).out (rest t)) ∙ (λ t. cons_made (here t).out (many other k (i + 1) (here t).after))

  pub many-same : (other : ℕ → Gen → Made A) (k : ℕ) (g : Gen) → ((j : ℕ) (e : Gen) → j < k → make j e ≡ other j e) → many make k 0 g ≡ many other k 0 g
  many-same other k g same = same-from other k 0 g (λ j e p q. same j e (omega arith))

  module _ (N : ℕ) (d : A) (g₀ : Gen) where
    pub padded_none : made (replicate N d) g₀ ≡ padded N d (many make 0 0 g₀)
    unfolding many
    padded_none = rw (sub-zero N)

    module _ (i : ℕ) (arr : List A) (g : Gen) (e : made arr g ≡ padded N d (many make i 0 g₀)) where
      pub padded_more : (v : A) (g' : Gen) → i < N → made v g' ≡ make i g → made (set arr i v) g' ≡ padded N d (many make (i + 1) 0 g₀)
      padded_more v g' h q =
          let r = many make i 0 g₀ in
          let k : length r.out ≡ i = many-length i 0 g₀ in
          let at : i ≡ length r.out = sym k in
          let f : made v g' ≡ make (0 + i) r.after = q ∙ (λ t. make i (e t).after) ∙ ap (λ (n : ℕ). make n r.after) (omega arith) in
          (λ t. made (set (e t).out i v) g')
          ∙ (λ t. made (set (pad_to N d r.out) (at t) v) g')
          ∙ ap (λ (xs : List A). made xs g') (pad-put N d v r.out (omega (arith, k)))
          ∙ (λ t. made (pad_to N d (r.out ++ ((f t).out ∷ []))) (f t).after)
          ∙ ap (padded N d) (sym (many-last i 0 g₀))
          ∙ ap (λ (n : ℕ). padded N d (many make n 0 g₀)) (sym (add-one i))

-- without draws
module _ {A : Type 0} (f : ℕ → A) where
  pub listed-length : (k i : ℕ) → length (listed f k i) ≡ k
  unfolding listed
  listed-length zero i = refl
  listed-length (suc k) i = ap suc (listed-length k (i + 1))

  pub listed-last : (k i : ℕ) → listed f (suc k) i ≡ listed f k i ++ (f (i + k) ∷ [])
  unfolding listed
  listed-last zero i = rw (add-zero i)
  listed-last (suc k) i =
      let j : i + 1 + k ≡ i + suc k = omega arith in
      ap (λ (xs : List A). f i ∷ xs) (listed-last k (i + 1)) ∙ ap (λ (n : ℕ). f i ∷ (listed f k (i + 1) ++ (f n ∷ []))) j

  pub listed-read : (n a k : ℕ) (z : A) → k < n → get_or (listed f n a) k z ≡ f (a + k)
  unfolding listed
  listed-read zero a k z h = absurd (omega arith)
  listed-read (suc n) a zero z h = ap f (omega arith)
  listed-read (suc n) a (suc k) z h = listed-read n (a + 1) k z (omega arith) ∙ ap f (omega arith)

  module _ (N : ℕ) (d : A) where
    pub pad-listed_none : replicate N d ≡ pad_to N d (listed f 0 0)
    unfolding listed
    pad-listed_none = pad-none N d

    pub pad-listed_more : (i : ℕ) (arr : List A) (v : A) → i < N → v ≡ f i → arr ≡ pad_to N d (listed f i 0) → set arr i v ≡ pad_to N d (listed f (i + 1) 0)
    pad-listed_more i arr v h q e =
        let k : length (listed f i 0) ≡ i = listed-length i 0 in
        let at : i ≡ length (listed f i 0) = sym k in
        let p : v ≡ f (0 + i) = q ∙ ap f (omega arith) in
        (λ t. set (e t) (at t) v)
        ∙ pad-put N d v (listed f i 0) (omega (arith, k))
        ∙ ap (λ (x : A). pad_to N d (listed f i 0 ++ (x ∷ []))) p
        ∙ ap (pad_to N d) (sym (listed-last i 0))
        ∙ ap (λ (n : ℕ). pad_to N d (listed f n 0)) (sym (add-one i))

    -- a read of a list in an array
    pub pad-listed_read : (z : A) (n k : ℕ) → k < n → get_or (pad_to N d (listed f n 0)) k z ≡ f k
    pad-listed_read z n k h =
        let l : length (listed f n 0) ≡ n = listed-length n 0 in
        get_or-append (listed f n 0) _ z k (omega arith) ∙ listed-read n 0 k z h ∙ ap f (omega arith)
