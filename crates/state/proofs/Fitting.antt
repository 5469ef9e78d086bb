-- A candidate's test by limits is the definition's by dimensions; and what the limits of dimensions that pass 4 to 7 are.
use Prim.Native.Nat.{ℕ, zero, suc, ◌+◌, ◌-◌, ◌≤◌, ◌<◌}
use native.Mathlib.Omega.{arith}
use native.Mathlib.Nat.{not-suc-le-zero, le_of_suc-le-suc}
use mathlib.Core.Path.{◌≡◌, refl, sym, ap, ap₂, ◌∙◌}
use mathlib.Core.Bool.{Bool, ◌&&◌, and_assoc}
use mathlib.Core.List.{List, [], ◌∷◌, ◌++◌, map}
use borrow.Author.Tests.{le-ltb, ne_eqb}
use lib.Dec.{eqb, ltb}
use lib.Ieee.{Float}
use lib.ListN.{length, get_or, set, take, replicate, length-map}
use Rattle.rng_util.specs.Many.{pad_to}
use Rattle.distribution.specs.declared.DimensionInfo.{DimensionInfo}
use Rattle.distribution.specs.Dims.{choices_of, no_dim}
use Rattle.candidates.specs.Space.{continuous_dims, continuous_count, FewChoices}
use Rattle.candidates.specs.declared.Candidate.{Candidate}
use Rattle.candidates.proofs.Lists.{pad-map_more}
use Rattle.candidates.proofs.Passed.{few-continuous}
use Rattle.ledger.specs.Words.{all}
use Rattle.kernel.specs.Fits.{is_zero, entry_fits, entries_fit, choice_limit, choices_fit, fits}
use Rattle.state.specs.Blank.{is_blank_candidate}
use Rattle.state.specs.Places.{places_fit, choices_below, limits_of}
use Rattle.state.specs.declared.places.Limits.{Limits}
use Rattle.state.proofs.Measured.{Sized}

entries-are : (n : ℕ) (xs : List Float) → n ≤ length xs → places_fit entry_fits is_zero n xs ≡ entries_fit n xs
unfolding places_fit entries_fit all
entries-are zero xs h = refl
entries-are (suc n) [] h = absurd (not-suc-le-zero h)
entries-are (suc n) (x ∷ xs) h = and_assoc (entry_fits x) _ _ ∙ ap (λ (b : Bool). entry_fits x && b) (entries-are n xs (le_of_suc-le-suc h))

-- below 1 is 0
below_one : (c : ℕ) → ltb c 1 ≡ eqb 0 c
below_one zero = refl
below_one (suc c) = le-ltb (suc c) 1 (omega arith) ∙ sym (ne_eqb 0 (suc c) (λ e. omega arith))

blank-choices : (cs : List ℕ) → choices_below cs (replicate (length cs) 1) ≡ all (eqb 0) cs
unfolding choices_below all
blank-choices [] = refl
blank-choices (c ∷ cs) = ap₂ (λ (a b : Bool). a && b) (below_one c) (blank-choices cs)

choices-are : (ds : List DimensionInfo) (cs : List ℕ) (r : ℕ) → length ds + r ≡ length cs → choices_below cs (map choice_limit ds ++ replicate r 1) ≡ choices_fit ds cs
unfolding choices_below choices_fit all
choices-are [] cs r h = let e : r ≡ length cs = omega (arith, h) in ap (λ (k : ℕ). choices_below cs (replicate k 1)) e ∙ blank-choices cs
choices-are (d ∷ ds) [] r h = absurd (omega (arith, h))
choices-are (d ∷ ds) (c ∷ cs) r h = ap (λ (b : Bool). ltb c (choice_limit d) && b) (choices-are ds cs r (omega (arith, h)))

pub fits_by : (c : Candidate) (l : Limits) {a b : Bool} → Sized c → a ≡ places_fit entry_fits is_zero l.n c.x → b ≡ choices_below c.choices l.choices → (ds : List DimensionInfo) → length ds ≤ 16 → l ≡ limits_of ds → (a && b) ≡ fits ds c
unfolding fits
fits_by c l z p q ds few e =
    ap₂ (λ (x y : Bool). x && y)
    (p ∙ ap (λ (k : Limits). places_fit entry_fits is_zero k.n c.x) e ∙ entries-are (continuous_count ds) c.x (omega (arith, few-continuous ds, z.x)))
    (q ∙ ap (λ (k : Limits). choices_below c.choices k.choices) e
    ∙ choices-are ds c.choices (16 - length (map choice_limit ds)) (omega (arith, length-map ds choice_limit, z.choices)))

pub blank-by : (c : Candidate) {a b : Bool} → a ≡ all is_zero c.x → b ≡ all (eqb 0) c.choices → (a && b) ≡ is_blank_candidate c
unfolding fits entries_fit choices_fit continuous_dims
blank-by c p q = ap₂ (λ (x y : Bool). x && y) p q

-- ---- the limits, read out of the dimensions

pub limit-more : (ds : List DimensionInfo) (k : ℕ) (limits : List ℕ) (v : ℕ) → k < length ds → length ds ≤ 16 → v ≡ choice_limit (get_or ds k no_dim) → limits ≡ pad_to 16 1 (map choice_limit (take k ds))
    → set limits k v ≡ pad_to 16 1 (map choice_limit (take (k + 1) ds))
limit-more ds k limits v = pad-map_more choice_limit 16 1 ds k no_dim limits v

pub limit-few : (ds : List DimensionInfo) (k : ℕ) → FewChoices ds → k < length ds → choices_of (get_or ds k no_dim) ≤ 65535
unfolding FewChoices
limit-few ds k few h = few k h

pub ruleset limits = (limit-more, limit-few)

pub ruleset blanks = (blank-by)
