-- THE RECORDS ON A CHAIN: they are taken exactly where they are those of a sound state of the machine with clamp, each once, in any order; else 13.
use Rattle.std.specs.Prelude.{Ok, Err, Result}
use Prim.Native.Nat.{ℕ, ◌≤◌}
use native.Mathlib.Omega.{arith}
use mathlib.Core.List.Permᴰ
use mathlib.Core.List.{Permᴰ, List}
use mathlib.Core.Logic.{◌↔◌, ◌⊎◌, inl, inr, ⊎_elim}
use mathlib.Core.Path.{◌≡◌, refl, sym, ap, ◌∙◌, subst}
use mathlib.Core.Bool.{true, cond, Bool, false, ◌&&◌}
use lib.ListN.{length}
use Rattle.rng_util.specs.Many.{pad_to}
use Rattle.state.specs.Sound.{sound_state}
use Rattle.state.specs.declared.State.{State}
use Rattle.std.proofs.lemmas.Bool.{and_parts}
use Rattle.state.proofs.Flags.{and-true}
use Rattle.records.specs.Tables.{agrees, table_of}
use Rattle.records.specs.declared.Piece.{Piece}
use Rattle.records.specs.declared.Table.{Table}
use Rattle.records.proofs.Sections.{tables-of, agrees-perm, agrees-exactly}
use Rattle.records.proofs.Tabled.{full_table}
use Rattle.kinds.specs.Typed.{TypedState}
use Rattle.kinds.specs.Kinds.{has_place, kind_words, Roomy}
use Rattle.kinds.specs.Opened.{state_in}
use Rattle.kinds.proofs.Typed.{measured-of}
use Rattle.kinds.proofs.Decoded.{decoded}
use Rattle.kinds.proofs.Place.{read-placed}
use Rattle.kinds.proofs.Saving.{state-back}
use Rattle.kinds.proofs.Few.{kind-few}
use Rattle.saved.specs.File.{pieces_of}
use Rattle.saved.specs.Saves.{Of}
use Rattle.saved.specs.Restore.{state_on, content_of}
use Rattle.saved.specs.declared.FileRefusal.TheVariants.{BadContent}
use Rattle.saved.specs.declared.FileRefusal.{FileRefusal}
use Rattle.saved.proofs.Wrote.{roomy}

-- ---- a sound state's own records, in any order

module _ (s : State) (e : sound_state s ≡ true) (h : has_place s ≡ true) (p : TypedState s) where
  room : Roomy s
  room = roomy s (measured-of s p) e

  few : (kind : ℕ) → length (kind_words s kind) ≤ 3600
  few kind = kind-few s (measured-of s p) room kind

  module _ (rs : List Piece) (r : Permᴰ rs (pieces_of s)) where
    table : (kind : ℕ) → 1 ≤ kind → kind ≤ 6 → table_of kind rs ≡ full_table kind (kind_words s kind) (few kind)
    unfolding pieces_of
    table kind a b = tables-of (kind_words s) 6 rs r kind a b (few kind)

    pub words : (kind : ℕ) → 1 ≤ kind → kind ≤ 6 → (table_of kind rs).words ≡ pad_to 3600 0 (kind_words s kind)
    words kind a b = ap (λ (t : Table). t.words) (table kind a b)

    state-on : state_on rs ≡ s
    unfolding kind_words
    state-on =
        (λ i. state_in (words 1 (omega arith) (omega arith) i) (words 2 (omega arith) (omega arith) i) (words 3 (omega arith) (omega arith) i) (words 4 (omega arith) (omega arith) i)
        (words 5 (omega arith) (omega arith) i) (words 6 (omega arith) (omega arith) i))
        ∙ state-back s e p h

    pub own-taken : content_of rs ≡ Ok s
    unfolding content_of pieces_of
    own-taken =
        (λ i. cond (sound_state (state-on i) && agrees 6 rs (kind_words (state-on i))) (Ok (state-on i)) (Err BadContent))
        ∙ ap (λ (b : Bool). cond b (Ok s) (Err BadContent)) (and-true e ((agrees-exactly (kind_words s) 6 rs few).1 r))

-- ---- what is read

pub apart : {S : Type 0} {s : S} (r : FileRefusal) → ◌≡◌ {A = Result S FileRefusal} (Err r) (Ok s) → ⊥
apart r e = let z : ◌≡◌ {A = ℕ} 0 1 = cc in omega arith

-- a state that is read
given : State → Result State FileRefusal → State
given s (Ok t) = t
given s (Err r) = s

pub record Read (rs : List Piece) (s : State) : Type 0 where
  pub is : state_on rs ≡ s
  pub sound : sound_state s ≡ true
  pub agree : agrees 6 rs (kind_words s) ≡ true

module _ (rs : List Piece) where
  -- one of two: taken or refused
  pub content-cases : (content_of rs ≡ Ok (state_on rs)) ⊎ (content_of rs ≡ Err BadContent)
  unfolding content_of
  content-cases = go (sound_state (state_on rs) && agrees 6 rs (kind_words (state_on rs)))
    where
      go : (b : Bool) → (cond b (Ok (state_on rs)) (Err BadContent) ≡ Ok (state_on rs)) ⊎ (cond b (Ok (state_on rs)) (Err BadContent) ≡ Err BadContent)
      go true = inl refl
      go false = inr refl

  module _ (s : State) where
    pub read : content_of rs ≡ Ok s → Read rs s
    unfolding content_of given
    read e = go (sound_state (state_on rs) && agrees 6 rs (kind_words (state_on rs))) refl e
      where
        go : (b : Bool) → (sound_state (state_on rs) && agrees 6 rs (kind_words (state_on rs))) ≡ b → cond b (Ok (state_on rs)) (Err BadContent) ≡ Ok s → Read rs s
        go true q d =
            let r = and_parts (sound_state (state_on rs)) (agrees 6 rs (kind_words (state_on rs))) q in
            let is : state_on rs ≡ s = ap (given s) d in
            record { is = is; sound = subst (λ (t : State). sound_state t ≡ true) is r.0; agree = subst (λ (t : State). agrees 6 rs (kind_words t) ≡ true) is r.1 }
        go false q d = absurd (apart BadContent d)

    -- THE CONVERSE
    pub content-exactly : content_of rs ≡ Ok s → (sound_state s ≡ true) × Permᴰ rs (pieces_of s)
    unfolding pieces_of
    content-exactly e = let r = read e in (r.sound, agrees-perm (kind_words s) 6 rs r.agree)

  -- what is not taken is refused by 13
  pub refused-unless : ((s : State) → content_of rs ≡ Ok s → ⊥) → content_of rs ≡ Err BadContent
  refused-unless h = ⊎_elim (λ e. absurd (h (state_on rs) e)) (λ e. e) content-cases

  pub refused-not-taken : (s : State) → content_of rs ≡ Err BadContent → content_of rs ≡ Ok s → ⊥
  refused-not-taken s e d = apart BadContent (sym e ∙ d)

-- what is taken has a place
taken-place : (rs : List Piece) (s : State) → content_of rs ≡ Ok s → has_place s ≡ true
taken-place rs s e =
    subst (λ (t : State). has_place t ≡ true) (read rs s e).is
    (read-placed (table_of 1 rs).words (table_of 2 rs).words (table_of 3 rs).words (table_of 4 rs).words (table_of 5 rs).words (table_of 6 rs).words)

-- what is taken is a state of the machine
taken-typed : (rs : List Piece) (s : State) → content_of rs ≡ Ok s → TypedState s
taken-typed rs s e =
    let r = read rs s e in
    subst TypedState r.is (decoded (table_of 1 rs).words (table_of 2 rs).words (table_of 3 rs).words (table_of 4 rs).words (table_of 5 rs).words (table_of 6 rs).words
    (subst (λ (t : State). sound_state t ≡ true) (sym r.is) r.sound))

-- ---- exactly

module _ (rs : List Piece) where
  pub taken-exactly : (s : State) → (content_of rs ≡ Ok s) ↔ Of rs s
  taken-exactly s = (
    λ e. let r = content-exactly rs s e in record { sound = r.0; place = taken-place rs s e; typed = taken-typed rs s e; records = r.1 },
    λ o. own-taken s o.sound o.place o.typed rs o.records,
  )

  pub refused-exactly : (content_of rs ≡ Err BadContent) ↔ ((s : State) → Of rs s → ⊥)
  refused-exactly = (
    λ e s o. refused-not-taken rs s e ((taken-exactly s).1 o),
    λ h. refused-unless rs (λ s e. h s ((taken-exactly s).0 e)),
  )

-- "The reader follows the chain wherever its records stand": the same records in another order are read the same
pub any_order : (rs qs : List Piece) → Permᴰ rs qs → content_of rs ≡ content_of qs
any_order rs qs r = ⊎_elim
    (λ e. e ∙ sym ((taken-exactly qs (state_on rs)).1 (moved (Permᴰ.symm r) ((taken-exactly rs (state_on rs)).0 e))))
    (λ e. e ∙ sym (refused-unless qs (λ s d. refused-not-taken rs s e ((taken-exactly rs s).1 (moved r ((taken-exactly qs s).0 d))))))
    (content-cases rs)
  where
    moved : {ps qs : List Piece} {s : State} → Permᴰ ps qs → Of qs s → Of ps s
    moved t o = record { sound = o.sound; place = o.place; typed = o.typed; records = Permᴰ.trans t o.records }
