-- What has a place in the words: the set-up and each dimension where the whole state has one, and all that is read from words.
use Rattle.std.specs.Prelude.{not, is_some}
use Rattle.std.specs.List.{list_all}
use Prim.Native.Nat.{ℕ, ◌<◌, min}
use native.Mathlib.Omega.{arith}
use mathlib.Core.Bool.{Bool, true, false, cond, true≢false}
use mathlib.Core.List.Memᴰ
use mathlib.Core.List.{List, [], ◌∷◌}
use mathlib.Core.Path.{◌≡◌, refl, sym, ap, subst, ◌∙◌}
use lib.Dec.{eqb}
use lib.ListN.{get_or}
use Rattle.std.proofs.lemmas.Bool.{and_parts}
use Rattle.distribution.specs.declared.DimensionInfo.{DimensionInfo}
use Rattle.distribution.specs.declared.Distribution.{Distribution}
use Rattle.distribution.specs.declared.Distribution.TheVariants as D
use Rattle.distribution.specs.Dims.{is_ladder}
use Rattle.ledger.specs.Words.{All}
use Rattle.state.specs.Blank.{blank_dim}
use Rattle.state.specs.declared.State.{State}
use Rattle.state.proofs.Flags.{and-true}
use Rattle.records.proofs.Lists.{all_listed, all-padded, all_take}
use Rattle.kinds.specs.Kinds.{dims_of, has_place}
use Rattle.kinds.specs.Ladder.{HasLadder, OtherWords}
use Rattle.kinds.specs.Opened.{dim_at, state_in}
use Rattle.kinds.specs.Rows.{dim_has_place, distribution_words, dim_words, dim_in, flag, float_in, int_in, setup_has_place, setup_in}

-- ---- a test of all, and of each

each-of : {A : Type 0} (q : A → Bool) (xs : List A) → list_all q xs ≡ true → All (λ x. q x ≡ true) xs
each-of q [] e a m = absurd (Memᴰ.not-nil m)
each-of q (x ∷ xs) e a (Memᴰ.head r) = subst (λ y. q y ≡ true) (sym r) (and_parts (q x) (list_all q xs) e).0
each-of q (x ∷ xs) e a (Memᴰ.tail m) = each-of q xs (and_parts (q x) (list_all q xs) e).1 a m

all-of-each : {A : Type 0} (q : A → Bool) (xs : List A) → All (λ x. q x ≡ true) xs → list_all q xs ≡ true
all-of-each q [] h = refl
all-of-each q (x ∷ xs) h = and-true (h x (Memᴰ.head refl)) (all-of-each q xs (λ a m. h a (Memᴰ.tail m)))

abbrev pub PlacedDim : DimensionInfo → Type 0
PlacedDim d = dim_has_place d ≡ true

pub placed : (s : State) → setup_has_place s.setup ≡ true → All PlacedDim (dims_of s) → has_place s ≡ true
placed s e h = and-true e (all-of-each dim_has_place (dims_of s) h)

module _ (s : State) (h : has_place s ≡ true) where
  pub setup-placed : setup_has_place s.setup ≡ true
  setup-placed = (and_parts (setup_has_place s.setup) (list_all dim_has_place (dims_of s)) h).0

  pub dims-placed : All PlacedDim (dims_of s)
  dims-placed = each-of dim_has_place (dims_of s) (and_parts (setup_has_place s.setup) (list_all dim_has_place (dims_of s)) h).1

-- ---- ladders

pub ladder-not-placed : (s : State) → HasLadder s → has_place s ≡ false
ladder-not-placed s l = unless (has_place s) (λ h. true≢false (sym (dims-placed s h l.dim l.of) ∙ ap not l.ladder))
  where
    unless : (b : Bool) → (b ≡ true → ⊥) → b ≡ false
    unless true h = absurd (h refl)
    unless false h = refl

pub no-ladder-placed : (s : State) → (HasLadder s → ⊥) → All PlacedDim (dims_of s)
no-ladder-placed s n d m = go (is_ladder d.distribution) refl
  where
    go : (b : Bool) → is_ladder d.distribution ≡ b → not b ≡ true
    go true q = absurd (n (record { dim = d; of = m; ladder = q }))
    go false q = refl

-- for instance: words whose case is above 3, or whose flag is above 1, are those of no dimension without the log flag
pub other-case : (ws : List ℕ) → 3 < get_or ws 0 0 → OtherWords ws
unfolding dim_words
other-case ws h d p e = go d.distribution (ap (λ (us : List ℕ). get_or us 0 0) e)
  where
    go : (t : Distribution) → get_or ws 0 0 ≡ get_or (distribution_words t) 0 0 → ⊥
    go (D.Float t) q = omega arith
    go (D.Int t) q = omega arith
    go (D.Categorical t) q = omega arith

pub other-flag : (ws : List ℕ) → 1 < get_or ws 3 0 → OtherWords ws
unfolding dim_words
other-flag ws h d p e = go d.distribution (ap (λ (us : List ℕ). get_or us 3 0) e)
  where
    small : (b : Bool) → get_or ws 3 0 ≡ flag b → ⊥
    small true q = omega arith
    small false q = omega arith

    go : (t : Distribution) → get_or ws 3 0 ≡ get_or (distribution_words t) 3 0 → ⊥
    go (D.Float t) q = small (is_some t.step) q
    go (D.Int t) q = small (is_some t.step) q
    go (D.Categorical t) q = omega arith

-- ---- what is read

dim-in-placed : (ws : List ℕ) → PlacedDim (dim_in ws)
unfolding dim_in
dim-in-placed ws = go (eqb (get_or ws 0 0) 1) (eqb (get_or ws 0 0) 2)
  where
    go : (b c : Bool) → PlacedDim (record {
      distribution = cond b (D.Float (float_in (get_or ws 1 0) (get_or ws 2 0) (get_or ws 3 0) (get_or ws 4 0)))
          (cond c (D.Int (int_in (get_or ws 1 0) (get_or ws 2 0) (get_or ws 3 0) (get_or ws 4 0))) (D.Categorical (record { n_choices = get_or ws 1 0 })));
    })
    go true c = refl
    go false true = refl
    go false false = refl

-- WHATEVER WORDS STAND FOR HAS A PLACE in them
pub read-placed : (us ns ds ts ps cs : List ℕ) → has_place (state_in us ns ds ts ps cs) ≡ true
unfolding state_in setup_in
read-placed us ns ds ts ps cs =
    let D = min (get_or ns 4 0) 16 in
    placed (state_in us ns ds ts ps cs) refl
    (all_take PlacedDim (get_or ns 4 0) _ (all-padded PlacedDim 16 blank_dim _ (all_listed PlacedDim (dim_at ds) D 0 (λ i. dim-in-placed _)) refl))
