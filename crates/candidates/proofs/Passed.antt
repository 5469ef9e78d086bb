-- Lists of dimensions: of each dimension passed the number of choices is stored, and of each continuous one the bounds.
use Rattle.std.proofs.Common.{◌≡◌, ℕ, ◌+◌, ◌<◌, ◌≤◌, Bool, true, false, cond, List, [], ◌∷◌, ◌++◌, map, length, get_or, set, take, append-nil, sym, ap, ◌∙◌, arith, length-append}
use lib.Seq.{length-take-le}
use Rattle.std.proofs.lemmas.List.{get_or_default, take_all}
use Rattle.std.proofs.lemmas.List.Elements.{filter_more}
use Rattle.std.proofs.lemmas.List.Sums.{length-filter, count_by-le-length}
use Rattle.rng_util.specs.Many.{pad_to}
use Rattle.distribution.specs.Dims.{is_continuous, choices_of, no_dim}
use Rattle.distribution.specs.declared.DimensionInfo.{DimensionInfo}
use Rattle.common.specs.Bounds.{no_bounds, bounds_of}
use Rattle.common.specs.declared.Bounds.{Bounds}
use Rattle.candidates.specs.Space.{continuous_dims, continuous_count, continuous_bounds, choice_counts, space_of, FewChoices}
use Rattle.candidates.specs.declared.Space.{Space}
use Rattle.candidates.proofs.Lists.{map-put, pad-map_more}

-- at most as many continuous dimensions as dimensions
pub few-continuous : (ds : List DimensionInfo) → continuous_count ds ≤ length ds
unfolding continuous_dims
few-continuous ds = omega (arith, length-filter is_continuous ds, count_by-le-length is_continuous ds)

-- so a search space of at most 16 dimensions fits its arrays
module _ (ds : List DimensionInfo) (s : Space) (few : length ds ≤ 16) (e : s ≡ space_of ds) where
  pub space-dims : s.n_dims ≤ 16
  unfolding space_of
  space-dims = rw e few

  pub space-few : s.n ≤ 16
  unfolding space_of
  space-few = rw e (omega (arith, few-continuous ds))

-- a number of choices fits a u16
pub count_fits : (ds : List DimensionInfo) (i k : ℕ) (d : DimensionInfo) → FewChoices ds → i < length ds → k ≡ choices_of (get_or ds i d) → k < 65536
unfolding FewChoices
count_fits ds i k d few h e = omega (arith, few i h, ap choices_of (get_or_default ds i d no_dim h))

-- i dimensions are passed
pub record Passed (ds : List DimensionInfo) (i : ℕ) (counts : List ℕ) (bounds : List Bounds) (n : ℕ) : Type 0 where
  pub counted : counts ≡ pad_to 16 0 (choice_counts (take i ds))
  pub kept : bounds ≡ pad_to 16 no_bounds (continuous_bounds (take i ds))
  pub continuous : n ≡ continuous_count (take i ds)

pub passed-few : (ds : List DimensionInfo) (i : ℕ) (counts : List ℕ) (bounds : List Bounds) (n : ℕ) → i ≤ length ds → Passed ds i counts bounds n → n ≤ i
passed-few ds i counts bounds n h p = omega (arith, p.continuous, few-continuous (take i ds), length-take-le i ds h)

module _ (ds : List DimensionInfo) (few : length ds ≤ 16) (i : ℕ) (d : DimensionInfo) (h : i < length ds) (counts : List ℕ) (bounds : List Bounds) (n : ℕ) (p : Passed ds i counts bounds n) (k : ℕ) (e : k ≡ choices_of (get_or ds i d)) where
  counted-more : set counts i k ≡ pad_to 16 0 (choice_counts (take (i + 1) ds))
  counted-more = pad-map_more choices_of 16 0 ds i d counts k h few e p.counted

  more : (t : Bool) → is_continuous (get_or ds i d) ≡ t → continuous_dims (take (i + 1) ds) ≡ continuous_dims (take i ds) ++ cond t (get_or ds i d ∷ []) []
  unfolding continuous_dims
  more t f = filter_more is_continuous ds i d h ∙ ap (λ (b : Bool). continuous_dims (take i ds) ++ cond b (get_or ds i d ∷ []) []) f

  pub passed-yes : (t : Bool) (b : Bounds) → t ≡ is_continuous (get_or ds i d) → t ≡ true → b ≡ bounds_of (get_or ds i d) → Passed ds (i + 1) (set counts i k) (set bounds n b) (n + 1)
  passed-yes t b f g q =
      let m = more true (sym f ∙ g) in
      record {
        counted = counted-more;
        kept =
            ap (set bounds n) q
            ∙ map-put 16 no_bounds bounds_of (continuous_dims (take i ds)) (get_or ds i d) bounds n p.continuous (omega (arith, passed-few ds i counts bounds n (omega arith) p)) p.kept
            ∙ ap (λ (l : List DimensionInfo). pad_to 16 no_bounds (map bounds_of l)) (sym m);
        continuous = omega (arith, p.continuous, ap length m, length-append (continuous_dims (take i ds)) (get_or ds i d ∷ []));
      }

  pub passed-no : (t : Bool) → t ≡ is_continuous (get_or ds i d) → t ≡ false → Passed ds (i + 1) (set counts i k) bounds n
  passed-no t f g =
      let m : continuous_dims (take (i + 1) ds) ≡ continuous_dims (take i ds) = more false (sym f ∙ g) ∙ append-nil _ in
      record {
        counted = counted-more;
        kept = p.kept ∙ ap (λ (l : List DimensionInfo). pad_to 16 no_bounds (map bounds_of l)) (sym m);
        continuous = p.continuous ∙ ap length (sym m);
      }

pub passed-all : (ds : List DimensionInfo) (i : ℕ) (counts : List ℕ) (bounds : List Bounds) (n : ℕ) → length ds ≤ i → Passed ds i counts bounds n
    → record { bounds = bounds; n = n; counts = counts; n_dims = length ds } ≡ space_of ds
unfolding space_of
passed-all ds i counts bounds n h p =
    let e : take i ds ≡ ds = take_all i ds h in
    λ t. record {
      bounds = (p.kept ∙ ap (λ (l : List DimensionInfo). pad_to 16 no_bounds (continuous_bounds l)) e) t;
      n = (p.continuous ∙ ap continuous_count e) t;
      counts = (p.counted ∙ ap (λ (l : List DimensionInfo). pad_to 16 0 (choice_counts l)) e) t;
      n_dims = length ds;
    }
