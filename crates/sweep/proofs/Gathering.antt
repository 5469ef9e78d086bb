-- What is kept of the dimensions, one more at a time, and that the checks and the list are the same of what is kept as of all of them: where more than 17
-- came in, 16 applies to both.
use Rattle.std.proofs.Common.{◌≡◌, ℕ, ◌+◌, ◌<◌, List, [], ◌∷◌, ◌++◌, length, take, true, false, Bool, Ok, Err, Result, leb, map, slice_index_or, sym, refl, ap, ◌∙◌, arith, not, ◌||◌, eqb, ℤ}
use Rattle.std.specs.List.{list_all}
use Rattle.std.specs.Prelude.{⊤}
use Rattle.std.specs.Result.{result_and}
use Rattle.std.proofs.lemmas.Bool.{leb-true, leb-false, lt-ltb}
use Rattle.std.proofs.lemmas.List.{take-append-le, take_all, length-take-le, map_more, length-take, get_or-take}
use Rattle.distribution.specs.declared.Refusal.{Refusal}
use Rattle.distribution.specs.declared.Distribution.{Distribution}
use Rattle.distribution.specs.Validate.{verdict_of}
use Rattle.sweep.specs.Sweep.{is_sweepable, is_unsweepable, first_verdict, counted, after_verdict, sweep_of, numbers_of, left_after, swept_in}
use Rattle.sweep.specs.Gathered.{Judged, gathered, absorbed, answer_of, left_by}
use Rattle.sweep.specs.declared.SweepRefusal.TheVariants.{Unsweepable}
use Rattle.sweep.proofs.Members.{all-valid}

-- ---- one more

pub full : {A : Type 0} (xs : List A) (x : A) → length xs ≡ 17 → take 17 (xs ++ x ∷ []) ≡ xs
full xs x e = take-append-le 17 xs (x ∷ []) (omega (arith, e)) ∙ take_all 17 xs (omega (arith, e))

first-more : (ds : List Distribution) (d : Distribution) → first_verdict (ds ++ d ∷ []) ≡ result_and (first_verdict ds) (verdict_of d)
unfolding first_verdict
first-more [] d = last (verdict_of d)
  where
    last : (v : Result ⊤ Refusal) → result_and v (Ok tt) ≡ v
    last (Ok tt) = refl
    last (Err r) = refl
first-more (x ∷ ds) d = ap (result_and (verdict_of x)) (first-more ds d) ∙ each (verdict_of x) (first_verdict ds) (verdict_of d)
  where
    each : (u v w : Result ⊤ Refusal) → result_and u (result_and v w) ≡ result_and (result_and u v) w
    each (Ok x) v w = refl
    each (Err r) v w = refl

kept-more : (ds : List Distribution) (d : Distribution) → take 17 (take 17 ds ++ d ∷ []) ≡ take 17 (ds ++ d ∷ [])
kept-more ds d = go (leb (length ds) 17) refl
  where
    go : (b : Bool) → leb (length ds) 17 ≡ b → take 17 (take 17 ds ++ d ∷ []) ≡ take 17 (ds ++ d ∷ [])
    go true e = let l = leb-true _ _ e in rw (take_all 17 ds l) refl
    go false e =
        let l = leb-false _ _ e in
        let long : length (take 17 ds) ≡ 17 = length-take-le 17 ds (omega arith) in
        full (take 17 ds) d long ∙ sym (take-append-le 17 ds (d ∷ []) (omega arith))

gathered-more : (ds : List Distribution) (d : Distribution) → absorbed (gathered ds) d ≡ gathered (ds ++ d ∷ [])
unfolding absorbed gathered
gathered-more ds d = λ i. record { verdict = sym (first-more ds d) i; kept = kept-more ds d i }

-- of what each item of a list stands for, as a dimension for its distribution
pub gathered-next : {A : Type 0} (give : A → Distribution) (dims : List A) (i : ℕ) (d : A) → i < length dims
    → absorbed (gathered (map give (take i dims))) (give (slice_index_or dims i d)) ≡ gathered (map give (take (i + 1) dims))
gathered-next give dims i d l = gathered-more (map give (take i dims)) (give (slice_index_or dims i d)) ∙ ap gathered (sym (map_more give dims i d l))

-- ---- all of them

-- with 17 dimensions 16 applies, whatever the rest are
many-unsweepable : (ds : List Distribution) → 16 < length ds → is_unsweepable ds ≡ true
unfolding is_unsweepable
many-unsweepable ds l = rw (lt-ltb 16 (length ds) l) (go (eqb (length ds) 0))
  where
    go : (b : Bool) → (b || true || not (list_all is_sweepable ds)) ≡ true
    go true = refl
    go false = refl

module _ (ds : List Distribution) where
  -- what 4 to 7 pass of all of them they pass of the first 17
  pub judged : Judged (gathered ds)
  unfolding gathered
  judged e k d l =
      let few : k < 17 = omega (arith, length-take 17 ds) in
      let in-all : k < length ds = omega (arith, length-take 17 ds) in
      rw (get_or-take 17 ds k d few) ((all-valid ds).0 e k d in-all)

  counted-first : (places : ℕ) → counted (take 17 ds) places ≡ counted ds places
  unfolding counted
  counted-first places = go (leb (length ds) 17) refl
    where
      go : (b : Bool) → leb (length ds) 17 ≡ b → counted (take 17 ds) places ≡ counted ds places
      go true h = rw (take_all 17 ds (leb-true (length ds) 17 h)) refl
      go false h =
          let more = leb-false (length ds) 17 h in
          rw (many-unsweepable (take 17 ds) (omega (arith, length-take 17 ds)), many-unsweepable ds (omega arith)) refl

  pub answer-is : (places : ℕ) → answer_of (gathered ds) places ≡ sweep_of ds places
  unfolding gathered sweep_of
  answer-is places = ap (after_verdict (first_verdict ds)) (counted-first places)

  pub left-is : (lent : List ℤ) → left_by (gathered ds) lent ≡ swept_in ds lent
  unfolding gathered sweep_of swept_in counted
  left-is lent = go (leb (length ds) 17) refl
    where
      none : (v : Result ⊤ Refusal) → left_after (after_verdict v (Err Unsweepable)) (numbers_of (take 17 ds)) lent
          ≡ left_after (after_verdict v (Err Unsweepable)) (numbers_of ds) lent
      none (Ok tt) = refl
      none (Err why) = refl

      go : (b : Bool) → leb (length ds) 17 ≡ b
          → left_after (after_verdict (first_verdict ds) (counted (take 17 ds) (length lent))) (numbers_of (take 17 ds)) lent
          ≡ left_after (after_verdict (first_verdict ds) (counted ds (length lent))) (numbers_of ds) lent
      go true h = rw (take_all 17 ds (leb-true (length ds) 17 h)) refl
      go false h =
          let more = leb-false (length ds) 17 h in
          rw (many-unsweepable (take 17 ds) (omega (arith, length-take 17 ds)), many-unsweepable ds (omega arith)) (none (first_verdict ds))
