-- What the code works out of the axes is what the definition says of the dimensions: how many combinations there are, their numbers, 16 and 17.
use Rattle.std.proofs.Common.{◌≡◌, ℕ, List, [], ◌∷◌, ◌++◌, length, drop, true, false, Bool, Ok, Err, map, cond, sym, refl, ap, ◌∙◌, arith, filter_map, All, suc, ◌*◌, not, ◌&&◌, ◌||◌, eqb, ltb, flat_map, ℤ, ap₂}
use Rattle.std.specs.List.{list_all, range_with_len}
use Rattle.distribution.specs.declared.Distribution.{Distribution}
use Rattle.sweep.specs.Sweep.{is_sweepable, is_unsweepable, values_of, combinations, combinations_of, is_too_many, counted, numbers_of, left_after}
use Rattle.sweep.specs.Axes.{axis_of, axes_of, Fine, axis_values, product, combination, count_within}
use Rattle.sweep.specs.Gathered.{AllValid}
use Rattle.sweep.specs.declared.SweepRefusal.TheVariants.{Unsweepable, TooMany}
use Rattle.sweep.specs.declared.axis.Axis.{Axis}
use Rattle.std.proofs.lemmas.List.Folds.{flat_map-map}
use Rattle.std.proofs.lemmas.List.FromFn.{length-map-range_with_len}
use Rattle.sweep.specs.declared.SweepRefusal.{SweepRefusal}
use Rattle.sweep.proofs.Dimension.{sweepable-some, axis-is}
use Rattle.sweep.proofs.Listing.{combinations-are}
use Rattle.sweep.proofs.Rows.{rows-long}

both : (a b : Bool) → (a && b) ≡ true → (a ≡ true) × (b ≡ true)
both true b e = (refl, e)
both false b e = cc

all-are : (ds : List Distribution) → AllValid ds → list_all is_sweepable ds ≡ true → map values_of ds ≡ map axis_values (filter_map axis_of ds)
all-are [] v s = refl
all-are (d ∷ ds) v s =
    let p = both (is_sweepable d) (list_all is_sweepable ds) s in
    let a = sweepable-some d p.0 in
    rw a.1 (ap₂ (λ x xs. x ∷ xs) (axis-is d a.0 (v 0 d (omega arith)) a.1) (all-are ds (λ k x l. v (suc k) x (omega arith)) p.1))

as-many : (ds : List Distribution) → list_all is_sweepable ds ≡ true → length (filter_map axis_of ds) ≡ length ds
as-many [] s = refl
as-many (d ∷ ds) s =
    let p = both (is_sweepable d) (list_all is_sweepable ds) s in
    let a = sweepable-some d p.0 in
    rw a.1 (ap suc (as-many ds p.1))

all-sweepable : (ds : List Distribution) → is_unsweepable ds ≡ false → list_all is_sweepable ds ≡ true
unfolding is_unsweepable
all-sweepable ds e = go (eqb (length ds) 0) (ltb 16 (length ds)) (list_all is_sweepable ds) e
  where
    go : (a b s : Bool) → (a || b || not s) ≡ false → s ≡ true
    go true b s h = cc
    go false true s h = cc
    go false false true h = refl
    go false false false h = cc

passed : (ds : List Distribution) (axes : List Axis) → axes_of ds ≡ Ok axes → (is_unsweepable ds ≡ false) × (filter_map axis_of ds ≡ axes)
unfolding axes_of
passed ds axes e = go (is_unsweepable ds) e
  where
    go : (b : Bool) → cond b (Err Unsweepable) (Ok (filter_map axis_of ds)) ≡ Ok axes → (b ≡ false) × (filter_map axis_of ds ≡ axes)
    go true h = cc
    go false h = (refl, cc)

pub unsweepable : (ds : List Distribution) (why : SweepRefusal) (places : ℕ) → axes_of ds ≡ Err why → counted ds places ≡ Err why
unfolding axes_of counted
unsweepable ds why places e = go (is_unsweepable ds) e
  where
    go : (b : Bool) → cond b (Err Unsweepable) (Ok (filter_map axis_of ds)) ≡ Err why
        → cond b (Err Unsweepable) (cond (is_too_many ds places) (Err TooMany) (Ok (length (combinations_of ds)))) ≡ Err why
    go true h = cc
    go false h = cc

counted-product : (product n places count : ℕ) → count_within product n places ≡ Ok count → count ≡ product
counted-product product n places count e = go (ltb 65536 product || ltb places (product * n)) e
  where
    go : (b : Bool) → cond b (Err TooMany) (Ok product) ≡ Ok count → count ≡ product
    go true h = cc
    go false h = cc

module _ (ds : List Distribution) (axes : List Axis) (v : AllValid ds) (f : All Fine axes) (e : axes_of ds ≡ Ok axes) where
  rows-are : combinations_of ds ≡ map (combination axes) (range_with_len 0 (product axes))
  rows-are =
      let p = passed ds axes e in
      ap combinations (all-are ds v (all-sweepable ds p.0) ∙ ap (map axis_values) p.1) ∙ combinations-are axes f

  as-counted : length (combinations_of ds) ≡ product axes
  as-counted = ap length rows-are ∙ length-map-range_with_len (combination axes) 0 (product axes)

  pub counted-is : (places : ℕ) → counted ds places ≡ count_within (product axes) (length axes) places
  unfolding counted is_too_many
  counted-is places = let p = passed ds axes e in rw (p.0, as-counted, ← as-many ds (all-sweepable ds p.0), p.1) refl

  pub numbers-are : numbers_of ds ≡ flat_map (combination axes) (range_with_len 0 (product axes))
  unfolding numbers_of
  numbers-are = ap (flat_map (λ c. c)) rows-are ∙ flat_map-map (λ c. c) (combination axes) (range_with_len 0 (product axes))

  left-of : (lent : List ℤ) → flat_map (combination axes) (range_with_len 0 (product axes)) ++ drop (product axes * length axes) lent
      ≡ numbers_of ds ++ drop (length (numbers_of ds)) lent
  left-of lent = ap₂ (λ (xs : List ℤ) n. xs ++ drop n lent) (sym numbers-are) (sym (rows-long axes (product axes)) ∙ ap length (sym numbers-are))

  -- 17, or the count and the list
  pub list-answer : (count places : ℕ) → count_within (product axes) (length axes) places ≡ Ok count → Ok count ≡ counted ds places
  list-answer count places h = sym (counted-is places ∙ h)

  pub list-left : (count : ℕ) (lent : List ℤ) → count_within (product axes) (length axes) (length lent) ≡ Ok count
      → flat_map (combination axes) (range_with_len 0 count) ++ drop (count * length axes) lent ≡ left_after (counted ds (length lent)) (numbers_of ds) lent
  list-left count lent h = rw (counted-is (length lent), h) (rw (counted-product (product axes) (length axes) (length lent) count h) (left-of lent))

pub ruleset listing = (unsweepable, counted-is, list-answer, list-left)
