-- A candidate from its words, as the loop makes it: the first i dimensions are read, ci of them continuous.
use Prim.Native.Nat.{ℕ, zero, suc, ◌+◌, ◌-◌, ◌%◌, ◌^◌, ◌≤◌, ◌<◌}
use native.Mathlib.Numerals.{add-one}
use native.Mathlib.Omega.{arith}
use mathlib.Core.Bool.{Bool, true, false}
use mathlib.Core.List.{List, [], ◌∷◌, ◌++◌, append_assoc, append-nil}
use mathlib.Core.Path.{◌≡◌, refl, sym, ap, ◌∙◌}
use lib.Ieee.{Float}
use lib.ListN.{length, drop, get_or, set, replicate, length-append}
use lib.Seq.{drop-cons, drop-length}
use Rattle.rng_util.specs.Many.{pad_to}
use Rattle.rng_util.proofs.Parts.{pad-put}
use Rattle.distribution.specs.Dims.{is_continuous}
use Rattle.distribution.specs.declared.DimensionInfo.{DimensionInfo}
use Rattle.common.specs.Bounds.{zero_f}
use Rattle.candidates.specs.declared.Candidate.{Candidate}
use Rattle.kinds.specs.Rows.{word_double, entries_in, choices_in, candidate_in}
use Rattle.kinds.proofs.Back.{entries_by, choices-by}

-- the place of a choice that is not stored holds 0 already
blank : (ks : List ℕ) (i : ℕ) → length ks ≡ i → set (pad_to 16 0 ks) i 0 ≡ pad_to 16 0 ks
blank ks i e = ap (λ (j : ℕ). set (pad_to 16 0 ks) j 0) (sym e) ∙ at-end ks (16 - length ks)
  where
    zeros : (m : ℕ) → ◌≡◌ {A = List ℕ} (set (replicate m 0) 0 0) (replicate m 0)
    zeros zero = refl
    zeros (suc m) = refl

    at-end : (ks : List ℕ) (m : ℕ) → set (ks ++ replicate m 0) (length ks) 0 ≡ ks ++ replicate m 0
    at-end [] m = zeros m
    at-end (k ∷ ks) m = λ j. k ∷ at-end ks m j

module _ (ds : List DimensionInfo) (ws : List ℕ) where
  pub record Read (x : List Float) (choices : List ℕ) (ci i : ℕ) : Type 0 where
    pub xs : List Float
    pub ks : List ℕ
    pub x_is : x ≡ pad_to 16 zero_f xs
    pub choices_is : choices ≡ pad_to 16 0 ks
    pub ci_is : length xs ≡ ci
    pub i_is : length ks ≡ i
    pub behind : ci ≤ i
    pub entries : entries_in ds ws ≡ xs ++ entries_in (drop i ds) (drop i ws)
    pub chosen : choices_in ds ws ≡ ks ++ choices_in (drop i ds) (drop i ws)

  pub first : Read (replicate 16 zero_f) (replicate 16 0) 0 0
  first = record { xs = []; ks = []; x_is = refl; choices_is = refl; ci_is = refl; i_is = refl; behind = omega arith; entries = refl; chosen = refl }

  module _ (few : length ds ≤ 16) (long : length ds ≤ length ws) (x : List Float) (choices : List ℕ) (ci i : ℕ) (h : i < length ds) (g : Read x choices ci i)
      (z d : DimensionInfo) (q : d ≡ get_or ds i z) where
    split : drop i ds ≡ d ∷ drop (i + 1) ds
    split = drop-cons ds i z h ∙ (λ k. sym q k ∷ drop (sym (add-one i) k) ds)

    word : drop i ws ≡ get_or ws i 0 ∷ drop (i + 1) ws
    word = drop-cons ws i 0 (omega arith) ∙ ap (λ (m : ℕ). get_or ws i 0 ∷ drop m ws) (sym (add-one i))

    chosen_by : (k : ℕ) → choices_in (d ∷ drop (i + 1) ds) (get_or ws i 0 ∷ drop (i + 1) ws) ≡ k ∷ choices_in (drop (i + 1) ds) (drop (i + 1) ws)
        → choices_in ds ws ≡ (g.ks ++ (k ∷ [])) ++ choices_in (drop (i + 1) ds) (drop (i + 1) ws)
    chosen_by k e =
        g.chosen
        ∙ ap (λ (t : List ℕ). g.ks ++ t) ((λ j. choices_in (split j) (word j)) ∙ e)
        ∙ sym (append_assoc g.ks (k ∷ []) (choices_in (drop (i + 1) ds) (drop (i + 1) ws)))

    one_more : (k : ℕ) → length (g.ks ++ (k ∷ [])) ≡ i + 1
    one_more k = length-append g.ks (k ∷ []) ∙ ap (λ (j : ℕ). j + 1) g.i_is

    laid : (k : ℕ) → pad_to 16 0 (g.ks ++ (k ∷ [])) ≡ set choices i k
    laid k = sym ((λ j. set (g.choices_is j) (sym g.i_is j) k) ∙ pad-put 16 0 k g.ks (omega (arith, g.i_is)))

    pub next-entry : (t : Bool) (v : Float) (x' : List Float) (c' : List ℕ) (m : ℕ) → t ≡ is_continuous d → t ≡ true → v ≡ word_double (get_or ws i 0)
        → x' ≡ set x ci v → c' ≡ choices → m ≡ ci + 1 → Read x' c' m (i + 1)
    next-entry t v x' c' m p o r ex ec em =
        let e = sym p ∙ o in
        record {
          xs = g.xs ++ (v ∷ []);
          ks = g.ks ++ (0 ∷ []);
          x_is = ex ∙ (λ j. set (g.x_is j) (sym g.ci_is j) v) ∙ pad-put 16 zero_f v g.xs (omega (arith, g.ci_is, g.behind));
          choices_is = ec ∙ sym (laid 0 ∙ ap (λ (c : List ℕ). set c i 0) g.choices_is ∙ blank g.ks i g.i_is ∙ sym g.choices_is);
          ci_is = length-append g.xs (v ∷ []) ∙ ap (λ (j : ℕ). j + 1) g.ci_is ∙ sym em;
          i_is = one_more 0;
          behind = omega (arith, g.behind);
          entries = g.entries
              ∙ ap (λ (t : List Float). g.xs ++ t)
              ((λ j. entries_in (split j) (word j)) ∙ entries_by d (drop (i + 1) ds) true (get_or ws i 0) (drop (i + 1) ws) e ∙ (λ j. sym r j ∷ entries_in (drop (i + 1) ds) (drop (i + 1) ws)))
              ∙ sym (append_assoc g.xs (v ∷ []) (entries_in (drop (i + 1) ds) (drop (i + 1) ws)));
          chosen = chosen_by 0 (choices-by d (drop (i + 1) ds) true (get_or ws i 0) (drop (i + 1) ws) e);
        }

    pub next-choice : (t : Bool) (k : ℕ) (x' : List Float) (c' : List ℕ) (m : ℕ) → t ≡ is_continuous d → t ≡ false → k ≡ get_or ws i 0 % 2 ^ 16
        → x' ≡ x → c' ≡ set choices i k → m ≡ ci → Read x' c' m (i + 1)
    next-choice t k x' c' m p o r ex ec em =
        let e = sym p ∙ o in
        record {
          xs = g.xs;
          ks = g.ks ++ (k ∷ []);
          x_is = ex ∙ g.x_is;
          choices_is = ec ∙ sym (laid k);
          ci_is = g.ci_is ∙ sym em;
          i_is = one_more k;
          behind = omega (arith, g.behind);
          entries = g.entries ∙ ap (λ (t : List Float). g.xs ++ t) ((λ j. entries_in (split j) (word j)) ∙ entries_by d (drop (i + 1) ds) false (get_or ws i 0) (drop (i + 1) ws) e);
          chosen = chosen_by k (choices-by d (drop (i + 1) ds) false (get_or ws i 0) (drop (i + 1) ws) e ∙ (λ j. sym r j ∷ choices_in (drop (i + 1) ds) (drop (i + 1) ws)));
        }

  pub last : (x : List Float) (choices : List ℕ) (ci i : ℕ) → i ≡ length ds → Read x choices ci i → ◌≡◌ {A = Candidate} (record { x = x; choices = choices }) (candidate_in ds ws)
  unfolding entries_in choices_in
  last x choices ci i q g =
      let z : drop i ds ≡ [] = ap (λ (k : ℕ). drop k ds) q ∙ drop-length ds in
      let a : entries_in ds ws ≡ g.xs = g.entries ∙ ap (λ (t : List DimensionInfo). g.xs ++ entries_in t (drop i ws)) z ∙ append-nil g.xs in
      let b : choices_in ds ws ≡ g.ks = g.chosen ∙ ap (λ (t : List DimensionInfo). g.ks ++ choices_in t (drop i ws)) z ∙ append-nil g.ks in
      λ j. record { x = (g.x_is ∙ ap (pad_to 16 zero_f) (sym a)) j; choices = (g.choices_is ∙ ap (pad_to 16 0) (sym b)) j }
