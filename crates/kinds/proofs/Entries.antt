-- A candidate's words, as the loop makes them: what is left of them after i dimensions, ci of them continuous.
use Prim.Native.Nat.{ℕ, ◌+◌, ◌≤◌, ◌<◌}
use native.Mathlib.Numerals.{add-one}
use native.Mathlib.Omega.{arith}
use mathlib.Core.Bool.{Bool, true, false}
use mathlib.Core.List.{List, [], ◌∷◌, ◌++◌, append_assoc, append-nil}
use mathlib.Core.Path.{◌≡◌, sym, ap, ◌∙◌}
use lib.Ieee.{Float, nan}
use lib.ListN.{length, drop, get_or, length-append}
use lib.Seq.{drop-cons, drop-drop, get_or-drop, drop-length}
use Rattle.distribution.specs.Dims.{is_continuous}
use Rattle.distribution.specs.declared.DimensionInfo.{DimensionInfo}
use Rattle.kinds.specs.Rows.{double_word, vector_words}
use Rattle.kinds.proofs.Back.{words-by}

module _ (dims : List DimensionInfo) (x : List Float) (cs : List ℕ) where
  abbrev rest : ℕ → ℕ → List ℕ
  rest ci i = vector_words (drop i dims) (drop ci x) (drop i cs)

  -- s0 is what was there before the first of them
  pub record Going (s0 s : List ℕ) (ci i : ℕ) : Type 0 where
    pub behind : ci ≤ i
    pub many : length s ≡ length s0 + i
    pub whole : s ++ rest ci i ≡ s0 ++ vector_words dims x cs

  module _ (ci i : ℕ) (z d : DimensionInfo) (h : i < length dims) (q : d ≡ get_or dims i z) where
    split : drop i dims ≡ d ∷ drop (i + 1) dims
    split = drop-cons dims i z h ∙ (λ k. sym q k ∷ drop (sym (add-one i) k) dims)

    none_more : (n : ℕ) → n + 0 ≡ n
    none_more n = omega arith

    next-entry : is_continuous d ≡ true → rest ci i ≡ double_word (get_or x ci nan) ∷ rest (ci + 1) (i + 1)
    next-entry o =
        ap (λ (t : List DimensionInfo). vector_words t (drop ci x) (drop i cs)) split
        ∙ words-by d (drop (i + 1) dims) true (drop ci x) (drop i cs) o
        ∙ (λ k. ap double_word (get_or-drop ci x 0 nan ∙ ap (λ (j : ℕ). get_or x j nan) (none_more ci)) k ∷ vector_words (drop (i + 1) dims) (drop-drop 1 ci x k) (drop-drop 1 i cs k))

    next-choice : is_continuous d ≡ false → rest ci i ≡ get_or cs i 0 ∷ rest ci (i + 1)
    next-choice o =
        ap (λ (t : List DimensionInfo). vector_words t (drop ci x) (drop i cs)) split
        ∙ words-by d (drop (i + 1) dims) false (drop ci x) (drop i cs) o
        ∙ (λ k. (get_or-drop i cs 0 0 ∙ ap (λ (j : ℕ). get_or cs j 0) (none_more i)) k ∷ vector_words (drop (i + 1) dims) (drop ci x) (drop-drop 1 i cs k))

    more : (s0 s s' : List ℕ) (w m : ℕ) → m ≤ i + 1 → rest ci i ≡ w ∷ rest m (i + 1) → s' ≡ s ++ w ∷ [] → Going s0 s ci i → Going s0 s' m (i + 1)
    more s0 s s' w m b e p g =
        record {
          behind = b;
          many = ap length p ∙ length-append s (w ∷ []) ∙ (let k = g.many in omega arith);
          whole = ap (λ (t : List ℕ). t ++ rest m (i + 1)) p ∙ append_assoc s (w ∷ []) (rest m (i + 1)) ∙ ap (λ (t : List ℕ). s ++ t) (sym e) ∙ g.whole;
        }

    pub entry_put : (s0 s s' : List ℕ) (t : Bool) (w m : ℕ) → t ≡ is_continuous d → t ≡ true → w ≡ double_word (get_or x ci nan) → m ≡ ci + 1 → s' ≡ s ++ w ∷ []
        → Going s0 s ci i → Going s0 s' m (i + 1)
    entry_put s0 s s' t w m p o r q e g =
        more s0 s s' w m (let b = g.behind in omega arith) (next-entry (sym p ∙ o) ∙ (λ k. sym r k ∷ rest (sym q k) (i + 1))) e g

    pub choice_put : (s0 s s' : List ℕ) (t : Bool) (w m : ℕ) → t ≡ is_continuous d → t ≡ false → w ≡ get_or cs i 0 → m ≡ ci → s' ≡ s ++ w ∷ []
        → Going s0 s ci i → Going s0 s' m (i + 1)
    choice_put s0 s s' t w m p o r q e g =
        more s0 s s' w m (let b = g.behind in omega arith) (next-choice (sym p ∙ o) ∙ (λ k. sym r k ∷ rest (sym q k) (i + 1))) e g

  pub all_put : (s0 s : List ℕ) (ci i : ℕ) → i ≡ length dims → Going s0 s ci i → s ≡ s0 ++ vector_words dims x cs
  unfolding vector_words
  all_put s0 s ci i q g =
      let z : drop i dims ≡ [] = ap (λ (k : ℕ). drop k dims) q ∙ drop-length dims in
      sym (append-nil s) ∙ ap (λ (t : List DimensionInfo). s ++ vector_words t (drop ci x) (drop i cs)) (sym z) ∙ g.whole
