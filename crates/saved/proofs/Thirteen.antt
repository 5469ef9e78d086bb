-- CHECK 13, sentence by sentence: "a kind unknown, a kind with its position missing or repeated, a word that its kind doesn't allow, or a state that isn't sound". Each follows from the
-- converse: records that are taken are exactly those of a sound state.
use Rattle.std.specs.Prelude.{Some, Ok, Err, slice_get}
use Prim.Native.Nat.{ℕ, ◌≤◌, ◌<◌, ◌*◌, ◌+◌}
use native.Mathlib.Omega.{arith}
use mathlib.Core.List.Permᴰ
use mathlib.Core.List.{Permᴰ, List, Memᴰ}
use mathlib.Core.Path.{◌≡◌, refl, sym, ap, ◌∙◌}
use mathlib.Core.Bool.{true, false, true≢false, Bool}
use lib.ListN.{get_or}
use Rattle.ledger.specs.Words.{All}
use Rattle.evolution.specs.Strategy.{strategy_number}
use Rattle.evolution.specs.declared.DEStrategy.{DEStrategy}
use Rattle.evolution.specs.declared.DEStrategy.TheVariants.{Rand1, Best1, CurrentToBest1}
use Rattle.state.specs.Sound.{sound_state}
use Rattle.state.specs.declared.State.{State}
use Rattle.records.specs.declared.Piece.{Piece}
use Rattle.records.specs.Tables.{piece_of, section}
use Rattle.records.proofs.Sections.{sections-keyed, section-within, Stands, stands, once, section-mem}
use Rattle.records.proofs.Orders.{Keyed, keyed-rearranged, all-rearranged}
use Rattle.kinds.specs.Typed.{TypedState}
use Rattle.kinds.specs.Kinds.{kind_words, count_words}
use Rattle.kinds.specs.Rows.{setup_words, flag}
use Rattle.saved.specs.File.{pieces_of}
use Rattle.saved.specs.Restore.{state_on, content_of}
use Rattle.saved.specs.declared.FileRefusal.TheVariants.{BadContent}
use Rattle.saved.proofs.Content.{read, content-exactly, refused-unless, taken-exactly}

-- a kind's section is among a state's records
pub within : {p : Piece} (s : State) (kind : ℕ) → 1 ≤ kind → kind ≤ 6 → Memᴰ p (section kind (kind_words s kind)) → Memᴰ p (pieces_of s)
unfolding pieces_of
within {p} s kind a b m = section-within (kind_words s) 6 kind a b p m

own-keyed : (s : State) → Keyed (pieces_of s)
unfolding pieces_of
own-keyed s = sections-keyed (kind_words s) 6

-- ---- the sentences

module _ (rs : List Piece) where
  abbrev pub Thirteen : Type 0
  Thirteen = content_of rs ≡ Err BadContent

  -- what is taken: its state's records are on the chain, and the chain's are its state's
  module _ (s : State) (e : content_of rs ≡ Ok s) where
    r : Permᴰ rs (pieces_of s)
    r = (content-exactly rs s e).1

    pub own : All (λ (p : Piece). Memᴰ p (pieces_of s)) rs
    own = all-rearranged (λ (p : Piece). Memᴰ p (pieces_of s)) r (λ p m. m)

    pub here : All (λ (p : Piece). Memᴰ p rs) (pieces_of s)
    here = all-rearranged (λ (p : Piece). Memᴰ p rs) (Permᴰ.symm r) (λ p m. m)

    pub place : All (Stands (kind_words s) 6) rs
    unfolding pieces_of
    place p m = stands (kind_words s) 6 p (own p m)

    -- a record's words are those of its kind and position
    pub words_are : (p : Piece) → Memᴰ p rs → (kind k : ℕ) → p.kind ≡ kind → p.position ≡ k
        → (p.first ≡ get_or (kind_words s kind) (3 * k) 0) × (p.second ≡ get_or (kind_words s kind) (3 * k + 1) 0) × (p.third ≡ get_or (kind_words s kind) (3 * k + 2) 0)
    words_are p m kind k a b =
        let t : p ≡ piece_of kind (kind_words s kind) k = (place p m).is ∙ (λ i. piece_of (a i) (kind_words s (a i)) (b i)) in
        (ap (λ (q : Piece). q.first) t, ap (λ (q : Piece). q.second) t, ap (λ (q : Piece). q.third) t)

  -- "a kind unknown"
  pub unknown-kind : (p : Piece) → Memᴰ p rs → ((1 ≤ p.kind) × (p.kind ≤ 6) → ⊥) → Thirteen
  unknown-kind p m h = refused-unless rs (λ s e. h (place s e p m).known)

  -- "a kind with its position missing": a later one is there
  pub missing-before : (p : Piece) → Memᴰ p rs → (k : ℕ) → k < p.position → All (λ (q : Piece). q.kind ≡ p.kind → q.position ≡ k → ⊥) rs → Thirteen
  unfolding pieces_of
  missing-before p m k l h =
      refused-unless rs (λ s e. let t = place s e p m in h (piece_of p.kind (kind_words s p.kind) k) (here s e _ (t.others k (let w = t.within in omega arith))) refl refl)

  -- or the position is one of the set-up's two or of the counts' four
  pub missing-setup : (k : ℕ) → k < 2 → All (λ (q : Piece). q.kind ≡ 1 → q.position ≡ k → ⊥) rs → Thirteen
  unfolding setup_words kind_words
  missing-setup k l h = refused-unless rs (λ s e. h (piece_of 1 (setup_words s.setup) k) (here s e _ (within s 1 (omega arith) (omega arith) (section-mem 1 (setup_words s.setup) k (omega arith)))) refl refl)

  pub missing-counts : (k : ℕ) → k < 4 → All (λ (q : Piece). q.kind ≡ 2 → q.position ≡ k → ⊥) rs → Thirteen
  unfolding count_words kind_words
  missing-counts k l h = refused-unless rs (λ s e. h (piece_of 2 (count_words s) k) (here s e _ (within s 2 (omega arith) (omega arith) (section-mem 2 (count_words s) k (omega arith)))) refl refl)

  -- "or repeated"
  pub repeated : (i j : ℕ) (p q : Piece) → (i ≡ j → ⊥) → slice_get rs i ≡ Some p → slice_get rs j ≡ Some q → p.kind ≡ q.kind → p.position ≡ q.position → Thirteen
  repeated i j p q d a b x y = refused-unless rs (λ s e. d (once rs (keyed-rearranged (r s e) (own-keyed s)) i j p q a b x y))

  -- "a word that its kind doesn't allow": a record that no sound state has
  pub not-allowed : (p : Piece) → Memᴰ p rs → ((s : State) → sound_state s ≡ true → TypedState s → Memᴰ p (pieces_of s) → ⊥) → Thirteen
  not-allowed p m h = refused-unless rs (λ s e. let o = (taken-exactly rs s).0 e in h s o.sound o.typed (own s e p m))

  -- "or a state that isn't sound"
  pub not-sound : sound_state (state_on rs) ≡ false → Thirteen
  not-sound h = refused-unless rs (λ s e. let t = read rs s e in true≢false (sym t.sound ∙ ap sound_state (sym t.is) ∙ h))

  -- for instance: a strategy above 2, a flag above 1, a word past the list's end that is not 0
  pub strategy-refused : (p : Piece) → Memᴰ p rs → p.kind ≡ 1 → p.position ≡ 0 → 2 < p.third → Thirteen
  unfolding kind_words setup_words
  strategy-refused p m k d h = refused-unless rs (λ s e. go s.setup.strategy (words_are s e p m 1 0 k d).2)
    where
      go : (t : DEStrategy) → p.third ≡ strategy_number t → ⊥
      go Rand1 q = omega arith
      go Best1 q = omega arith
      go CurrentToBest1 q = omega arith

  pub flag-refused : (p : Piece) → Memᴰ p rs → p.kind ≡ 2 → p.position ≡ 0 → 1 < p.third → Thirteen
  unfolding kind_words count_words
  flag-refused p m k d h = refused-unless rs (λ s e. go s.discovered (words_are s e p m 2 0 k d).2)
    where
      go : (b : Bool) → p.third ≡ flag b → ⊥
      go true q = omega arith
      go false q = omega arith

  pub spare-refused : (p : Piece) → Memᴰ p rs → p.kind ≡ 2 → p.position ≡ 3 → (p.third ≡ 0 → ⊥) → Thirteen
  unfolding kind_words count_words
  spare-refused p m k d h = refused-unless rs (λ s e. h (words_are s e p m 2 3 k d).2)
