-- What a scan gathers, said of the history as a whole. Entries that cannot matter are left out without loss (`nothing-lost`); then by induction on the history, place by place.
use Rattle.std.specs.Prelude.{Option, Some, None}
use mathlib.Core.Path.{◌≡◌, refl, sym, ap, ◌∙◌}
use mathlib.Core.Logic.{◌≢◌}
use Prim.Native.Nat.{ℕ, ◌<◌, ◌≤◌}
use native.Mathlib.Omega.{arith}
use mathlib.Core.Bool.{Bool, true, false, ◌&&◌, ◌||◌, cond, true≢false}
use mathlib.Core.List.{List, [], ◌∷◌, ◌++◌}
use lib.Dec.{eqb, ltb, leb}
use lib.Ieee.{Float, inf, nan, is_nan}
use lib.ListN.{length, get_or}
use borrow.Author.Tests.{ltb-true, le-leb, ne_eqb}
use Rattle.std.specs.List.{list_all, list_any}
use Rattle.std.proofs.lemmas.Bool.{and_parts}
use Rattle.history.specs.Entry.{is_complete, is_bad, counted_value}
use Rattle.history.specs.Scan.{wanted, number_at, Within, wanting, put_where, absorbed, may_matter, gathered, gathered_all}
use Rattle.history.specs.History.{any_nan, latest, last_of, last_value}
use Rattle.history.specs.declared.CompletedTrial.{CompletedTrial}
use Rattle.history.specs.declared.Gathered.{Gathered}
use Rattle.history.proofs.Places.{put-none, put-length, put-at, wants-in}

-- ---- what one entry stores
stored : (ns : List ℕ) (g : Gathered) (e : CompletedTrial) → (absorbed ns g e).values ≡ put_where (wanting ns e.number) (Some (counted_value e)) g.values
unfolding absorbed
stored ns g e = refl

-- ---- an entry that cannot matter
-- no number from lo to hi is its, and it is not bad
passed_over : (a b : Bool) → (a || b) ≡ false → (a ≡ false) × (b ≡ false)
passed_over true b e = absurd (true≢false e)
passed_over false b e = (refl, e)

module _ (lo hi : ℕ) (e : CompletedTrial) (w : may_matter lo hi e ≡ false) where
  not-bad : is_bad e ≡ false
  unfolding may_matter
  not-bad = (passed_over (leb lo e.number && leb e.number hi) (is_bad e) w).1

  elsewhere : (k : ℕ) → lo ≤ k → k ≤ hi → e.number ≡ k → ⊥
  unfolding may_matter
  elsewhere k l r z = true≢false (sym inside ∙ (passed_over (leb lo e.number && leb e.number hi) (is_bad e) w).0)
    where
      inside : (leb lo e.number && leb e.number hi) ≡ true
      inside = rw (le-leb lo e.number (omega arith), le-leb e.number hi (omega arith))

  -- no place wants its number
  no-place : (ns : List ℕ) → Within lo hi ns → (i : ℕ) → wanting ns e.number i ≡ false
  no-place ns in-range i = go (ltb i (wanted ns)) refl
    where
      go : (b : Bool) → ltb i (wanted ns) ≡ b → (b && eqb e.number (number_at ns i)) ≡ false
      go false z = refl
      go true z = let l = ltb-true i (wanted ns) z in ne_eqb e.number (number_at ns i) (elsewhere (number_at ns i) (in-range i l).0 (in-range i l).1)

  left_out : (ns : List ℕ) (g : Gathered) → Within lo hi ns → absorbed ns g e ≡ g
  unfolding absorbed
  left_out ns g in-range = rw (not-bad, put-none (Some (counted_value e)) (wanting ns e.number) g.values (no-place ns in-range))

-- ---- where every wanted number is from lo to hi, the scan is that of every entry
pub nothing-lost : (lo hi : ℕ) (ns : List ℕ) (h : List CompletedTrial) (g : Gathered) → Within lo hi ns → gathered lo hi ns h g ≡ gathered_all ns h g
unfolding gathered gathered_all
nothing-lost lo hi ns [] g in-range = refl
nothing-lost lo hi ns (e ∷ es) g in-range = ap (gathered lo hi ns es) (by-case (may_matter lo hi e) refl) ∙ nothing-lost lo hi ns es (absorbed ns g e) in-range
  where
    by-case : (t : Bool) → may_matter lo hi e ≡ t → cond t (absorbed ns g e) g ≡ absorbed ns g e
    by-case true w = refl
    by-case false w = sym (left_out lo hi e w ns g in-range)

-- ---- the NaN flag, for every lo and hi
either_order : (a b c : Bool) → (b || (a || c)) ≡ ((a || b) || c)
either_order true true c = refl
either_order true false c = refl
either_order false b c = refl

pub gathered-nan : (lo hi : ℕ) (ns : List ℕ) (h : List CompletedTrial) (g : Gathered) → (gathered lo hi ns h g).nan ≡ (any_nan h || g.nan)
unfolding gathered any_nan absorbed
gathered-nan lo hi ns [] g = refl
gathered-nan lo hi ns (e ∷ es) g =
    gathered-nan lo hi ns es (cond (may_matter lo hi e) (absorbed ns g e) g) ∙ ap (λ (b : Bool). any_nan es || b) (by-case (may_matter lo hi e) refl) ∙ either_order (is_bad e) (any_nan es) g.nan
  where
    by-case : (t : Bool) → may_matter lo hi e ≡ t → (cond t (absorbed ns g e) g).nan ≡ (is_bad e || g.nan)
    by-case true w = refl
    by-case false w = sym (ap (λ (b : Bool). b || g.nan) (not-bad lo hi e w))

-- ---- place by place
module _ (ns : List ℕ) where
  absorbed-at : (g : Gathered) (e : CompletedTrial) (i : ℕ) → i < wanted ns → i < length g.values
      → get_or (absorbed ns g e).values i None ≡ cond (eqb e.number (number_at ns i)) (Some (counted_value e)) (get_or g.values i None)
  absorbed-at g e i l s =
      ap (λ (xs : List (Option Float)). get_or xs i None) (stored ns g e) ∙ put-at (Some (counted_value e)) (wanting ns e.number) g.values i None s
      ∙ ap (λ (b : Bool). cond b (Some (counted_value e)) (get_or g.values i None)) (wants-in ns e.number (wanted ns) i l)

  as_long : (g : Gathered) (e : CompletedTrial) → length (absorbed ns g e).values ≡ length g.values
  as_long g e = ap (λ (xs : List (Option Float)). length xs) (stored ns g e) ∙ put-length (Some (counted_value e)) (wanting ns e.number) g.values

  all-at : (h : List CompletedTrial) (g : Gathered) (i : ℕ) → i < wanted ns → i < length g.values → get_or (gathered_all ns h g).values i None ≡ last_of (number_at ns i) h (get_or g.values i None)
  unfolding gathered_all latest
  all-at [] g i l s = refl
  all-at (e ∷ es) g i l s = all-at es (absorbed ns g e) i l (rw (as_long g e) s) ∙ ap (last_of (number_at ns i) es) (absorbed-at g e i l s)

-- ---- the theorems
-- "its last entry counts": an entry that is added at the end counts for its number, and for no other
pub last_entry : (m : ℕ) (h : List CompletedTrial) (e : CompletedTrial) → last_value m (h ++ (e ∷ [])) ≡ cond (eqb e.number m) (Some (counted_value e)) (last_value m h)
unfolding latest
last_entry m h e = go h None
  where
    go : (es : List CompletedTrial) (o : Option Float) → last_of m (es ++ (e ∷ [])) o ≡ cond (eqb e.number m) (Some (counted_value e)) (last_of m es o)
    go [] o = refl
    go (x ∷ xs) o = go xs (cond (eqb x.number m) (Some (counted_value x)) o)

-- a complete entry counts as it is, and refusal 8 goes by its value, as before there were states
pub complete-as-before : (e : CompletedTrial) → is_complete e.state ≡ true → (counted_value e ≡ e.value) × (is_bad e ≡ is_nan e.value)
unfolding is_bad counted_value
complete-as-before e c = (ap (λ (b : Bool). cond b e.value (inf false)) c, ap (λ (b : Bool). b && is_nan e.value) c)

-- where every entry is complete, a history says what it said before there were states: refusal 8 goes by the values, and the last value of a number counts
pub all-complete-as-before : (h : List CompletedTrial) → list_all (λ (e : CompletedTrial). is_complete e.state) h ≡ true
    → (any_nan h ≡ list_any (λ (e : CompletedTrial). is_nan e.value) h)
    × ((m : ℕ) → last_value m h ≡ latest (λ (e : CompletedTrial). Some e.value) m h None)
unfolding any_nan latest
all-complete-as-before h all = (nan h all, λ m. last m h None all)
  where
    nan : (es : List CompletedTrial) → list_all (λ (e : CompletedTrial). is_complete e.state) es ≡ true → any_nan es ≡ list_any (λ (e : CompletedTrial). is_nan e.value) es
    nan [] z = refl
    nan (e ∷ es) z = let p = and_parts (is_complete e.state) _ z in λ i. (complete-as-before e p.0).1 i || nan es p.1 i

    last : (m : ℕ) (es : List CompletedTrial) (o : Option Float) → list_all (λ (e : CompletedTrial). is_complete e.state) es ≡ true
        → last_of m es o ≡ latest (λ (e : CompletedTrial). Some e.value) m es o
    last m [] o z = refl
    last m (e ∷ es) o z =
        let p = and_parts (is_complete e.state) _ z in
        ap (λ (v : Float). last_of m es (cond (eqb e.number m) (Some v) o)) (complete-as-before e p.0).0 ∙ last m es (cond (eqb e.number m) (Some e.value) o) p.1

-- of another neither its value nor NaN in it matters
pub incomplete-is-infinite : (e : CompletedTrial) → is_complete e.state ≡ false → (counted_value e ≡ inf false) × (is_bad e ≡ false)
unfolding is_bad counted_value
incomplete-is-infinite e c = (ap (λ (b : Bool). cond b e.value (inf false)) c, ap (λ (b : Bool). b && is_nan e.value) c)

-- an entry that refusal 8 is not for does not count as NaN
pub counted-not-nan : (e : CompletedTrial) → is_bad e ≡ false → counted_value e ≢ nan
unfolding is_nan
counted-not-nan e w z = go (is_complete e.state) refl
  where
    go : (b : Bool) → is_complete e.state ≡ b → ⊥
    go true c = let same = complete-as-before e c in true≢false (sym (ap is_nan (sym same.0 ∙ z)) ∙ sym same.1 ∙ w)
    go false c = true≢false (ap is_nan (sym z ∙ (incomplete-is-infinite e c).0))

module _ (lo hi : ℕ) (ns : List ℕ) where
  pub values_length : (h : List CompletedTrial) (g : Gathered) → length (gathered lo hi ns h g).values ≡ length g.values
  unfolding gathered
  values_length [] g = refl
  values_length (e ∷ es) g = values_length es (cond (may_matter lo hi e) (absorbed ns g e) g) ∙ by-case (may_matter lo hi e)
    where
      by-case : (t : Bool) → length (cond t (absorbed ns g e) g).values ≡ length g.values
      by-case true = as_long ns g e
      by-case false = refl

  module _ (h : List CompletedTrial) (g : Gathered) (in-range : Within lo hi ns) (i : ℕ) (l : i < wanted ns) (s : i < length g.values) where
    -- a place's value: that of the last entry with its number, or as before
    pub gathered-value : get_or (gathered lo hi ns h g).values i None ≡ last_of (number_at ns i) h (get_or g.values i None)
    gathered-value = ap (λ (x : Gathered). get_or x.values i None) (nothing-lost lo hi ns h g in-range) ∙ all-at ns h g i l s

    -- from a place where nothing was found before: the value of the last entry with its number, and nothing where no entry has it
    pub gathered-last : get_or g.values i None ≡ None → get_or (gathered lo hi ns h g).values i None ≡ last_value (number_at ns i) h
    gathered-last fresh = gathered-value ∙ ap (last_of (number_at ns i) h) fresh
