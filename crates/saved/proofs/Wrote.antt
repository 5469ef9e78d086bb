-- The writer: the records of a state, kind by kind, and how many there are.
use Prim.Native.Nat.{ℕ, zero, suc, ◌+◌, ◌*◌, ◌-◌, ◌≤◌, ◌<◌}
use native.Mathlib.Omega.{arith}
use native.Mathlib.Numerals.{add-one}
use mathlib.Core.Path.{◌≡◌, refl, sym, ap, ◌∙◌, subst}
use mathlib.Core.Bool.{true}
use mathlib.Core.List.{List, [], ◌∷◌, ◌++◌}
use lib.ListN.{length, drop, get_or, length-append, length-drop}
use lib.Seq.{paste}
use Rattle.state.specs.Sound.{sound_state, Few}
use Rattle.state.specs.View.{candidate_count, parent_count}
use Rattle.state.specs.declared.State.{State}
use Rattle.state.proofs.Measured.{Measured}
use Rattle.state.proofs.Tidy.{sound-few}
use Rattle.state.proofs.Whole.{few-candidates, few-parents}
use Rattle.records.specs.Tables.{sections_to, records_for, pieces_from, section}
use Rattle.records.specs.declared.Piece.{Piece}
use Rattle.records.specs.Chain.{records_from, file_of_pieces}
use Rattle.records.proofs.Pasted.{front-more}
use Rattle.records.proofs.Written.{records-length}
use Rattle.records.proofs.Recorded.{pieces-length, records-append}
use Rattle.kinds.specs.Kinds.{kind_number, kind_words, Roomy, count_words}
use Rattle.kinds.specs.Rows.{setup_words}
use Rattle.kinds.specs.declared.kind.Kind.{Kind}
use Rattle.kinds.specs.declared.kind.Kind.TheVariants as K
use Rattle.kinds.proofs.Few.{few_words}
use Rattle.kinds.proofs.Sectioned.{dims_length, trials_length, parents_length, candidates_length}
use Rattle.saved.specs.File.{pieces_of, file_of}

-- ---- the records of a state

-- those of the kinds below one, as the loop goes through them
pub pieces_below : State → ℕ → List Piece
pieces_below s zero = []
pieces_below s (suc n) = sections_to n (kind_words s)

pub all-below : (s : State) → pieces_below s 7 ≡ pieces_of s
unfolding pieces_below pieces_of
all-below s = refl

below_next : (s : State) (kind : ℕ) → pieces_below s (suc kind) ≡ pieces_below s kind ++ section kind (kind_words s kind)
unfolding pieces_below sections_to pieces_from kind_words
below_next s zero = refl
below_next s (suc n) = refl

below_length : (s : State) (kind : ℕ) → length (pieces_below s (suc kind)) ≡ length (pieces_below s kind) + records_for (length (kind_words s kind))
below_length s kind =
    ap length (below_next s kind)
    ∙ length-append (pieces_below s kind) (section kind (kind_words s kind)) ∙ ap (λ (n : ℕ). length (pieces_below s kind) + n) (pieces-length kind (kind_words s kind) (records_for (length (kind_words s kind))) 0)

below-least : (s : State) (kind more : ℕ) → length (pieces_below s kind) ≤ length (pieces_below s (kind + more))
below-least s kind zero = let e : kind + 0 ≡ kind = omega arith in subst (λ (n : ℕ). length (pieces_below s kind) ≤ length (pieces_below s n)) (sym e) (omega arith)
below-least s kind (suc more) =
    let e : kind + suc more ≡ suc (kind + more) = omega arith in
    subst (λ (n : ℕ). length (pieces_below s kind) ≤ length (pieces_below s n)) (sym e) (omega (arith, below-least s kind more, below_length s (kind + more)))

pub none_below : (s : State) → pieces_below s 1 ≡ []
unfolding pieces_below sections_to
none_below s = refl

-- the kinds in the writer's order have the numbers from 1 up
abbrev pub all_kinds : List Kind
all_kinds = K.Setup ∷ K.Counts ∷ K.Dimensions ∷ K.Trials ∷ K.Parents ∷ K.Candidates ∷ []

pub numbered : (i : ℕ) (d : Kind) → i < 6 → kind_number (get_or all_kinds i d) ≡ i + 1
numbered zero d h = refl
numbered (suc zero) d h = refl
numbered (suc (suc zero)) d h = refl
numbered (suc (suc (suc zero))) d h = refl
numbered (suc (suc (suc (suc zero)))) d h = refl
numbered (suc (suc (suc (suc (suc zero))))) d h = refl
numbered (suc (suc (suc (suc (suc (suc i)))))) d h = absurd (omega arith)

-- the records so far and what the file had after them
abbrev pub Sofar : State → ℕ → List ℕ → ℕ → ℕ → List ℕ → Type 0
Sofar s count f kind k g = (k ≡ length (pieces_below s kind)) × (g ≡ records_from count 0 (pieces_below s kind) ++ drop (32 * k) f)

module _ (s : State) (count : ℕ) (f : List ℕ) (c : count ≡ length (pieces_of s)) (h : 32 * count ≤ length f) where
  pub sofar-first : Sofar s count f 1 0 f
  unfolding records_from
  sofar-first = (sym (ap length (none_below s)), ap (λ (ps : List Piece). records_from count 0 ps ++ drop 0 f) (sym (none_below s)))

  module _ (kind k : ℕ) (g ws : List ℕ) (l : kind < 7) (p : Sofar s count f kind k g) (e : ws ≡ kind_words s kind) where
    abbrev m : ℕ
    m = records_for (length ws)

    m-is : m ≡ records_for (length (kind_words s kind))
    m-is = ap (λ (u : List ℕ). records_for (length u)) e

    pub sofar-room : k + m ≤ count
    sofar-room =
        let a = below_length s kind in
        let b = below-least s (suc kind) (6 - kind) in
        let n : suc kind + (6 - kind) ≡ 7 = omega arith in
        let d : length (pieces_below s (suc kind)) ≤ length (pieces_of s) = subst (λ (j : ℕ). length (pieces_below s (suc kind)) ≤ j) (ap (λ (j : ℕ). length (pieces_below s j)) n ∙ ap length (all-below s)) b in
        omega (arith, p.0, m-is, a, d)

    pub sofar-length : length g ≡ length f
    sofar-length =
        ap length p.1
        ∙ (let a = length-append (records_from count 0 (pieces_below s kind)) (drop (32 * k) f) in
        let b = records-length count 0 (pieces_below s kind) in
        let d = length-drop (32 * k) f in
        let r = sofar-room in
        let z = p.0 in
        omega arith)

    pub sofar-next : (g' : List ℕ) (kd : ℕ) → kd ≡ kind → g' ≡ paste g (32 * k) (records_from count k (section kd ws)) (32 * m) → Sofar s count f (kind + 1) (k + m) g'
    sofar-next g' kd z w =
        let ps = pieces_below s kind in
        let qs = section kd ws in
        let is : qs ≡ section kind (kind_words s kind) = λ i. section (z i) (e i) in
        let la : length (records_from count 0 ps) ≡ 32 * k = records-length count 0 ps ∙ ap (λ (n : ℕ). 32 * n) (sym p.0) in
        let lb : length (records_from count k qs) ≡ 32 * m = records-length count k qs ∙ ap (λ (n : ℕ). 32 * n) (pieces-length kd ws m 0) in
        let long : 32 * (k + m) ≡ 32 * k + 32 * m = omega arith in
        let from : k ≡ 0 + length ps = let z = p.0 in omega arith in (
          let a = below_length s kind in let b = p.0 in let d = m-is in more a b d,
          front-more f g g' (records_from count 0 ps) (records_from count k qs) (32 * k) (32 * m) (32 * (k + m)) la lb long p.1 w
              ∙ ap (λ (r : List ℕ). (records_from count 0 ps ++ r) ++ drop (32 * (k + m)) f) (λ i. records_from count (from i) (is i))
              ∙ ap (λ (r : List ℕ). r ++ drop (32 * (k + m)) f)
              (sym (records-append count 0 ps (section kind (kind_words s kind))) ∙ ap (records_from count 0) (sym (below_next s kind)) ∙ ap (λ (j : ℕ). records_from count 0 (pieces_below s j)) (sym (add-one kind))),
        )
      where
        more : length (pieces_below s (suc kind)) ≡ length (pieces_below s kind) + records_for (length (kind_words s kind)) → k ≡ length (pieces_below s kind) → m ≡ records_for (length (kind_words s kind))
            → k + m ≡ length (pieces_below s (kind + 1))
        more a b d = omega (arith, ap (λ (j : ℕ). length (pieces_below s j)) (add-one kind))

  pub sofar-last : (kind k : ℕ) (g : List ℕ) → kind ≡ 7 → Sofar s count f kind k g → g ≡ file_of s ++ drop (length (file_of s)) f
  unfolding file_of
  sofar-last kind k g e p =
      let whole : records_from count 0 (pieces_below s kind) ≡ file_of_pieces (pieces_of s) =
      ap (λ (j : ℕ). records_from count 0 (pieces_below s j)) e ∙ ap (records_from count 0) (all-below s) ∙ ap (λ (n : ℕ). records_from n 0 (pieces_of s)) c in
      let long : 32 * k ≡ length (file_of_pieces (pieces_of s)) =
      ap (λ (n : ℕ). 32 * n) (p.0 ∙ ap (λ (j : ℕ). length (pieces_below s j)) e ∙ ap length (all-below s)) ∙ sym (records-length (length (pieces_of s)) 0 (pieces_of s)) in
      p.1 ∙ (λ i. whole i ++ drop (long i) f)

-- ---- how many records

pub few-roomy : (s : State) → Few s → Roomy s
few-roomy s f = record { dims = f.dims; trials = f.trials; candidates = few-candidates s f; parents = few-parents s f }

pub roomy : (s : State) → Measured s → sound_state s ≡ true → Roomy s
roomy s m e = few-roomy s (sound-few s e m)

module _ (s : State) (m : Measured s) (r : Roomy s) where
  pub total : 6 + records_for (s.n_dims * 5) + records_for (s.n_trials * 2) + records_for (parent_count s * (s.n_dims + 1)) + records_for (candidate_count s * s.n_dims) ≡ length (pieces_of s)
  unfolding kind_words setup_words count_words
  total =
      let b1 = below_length s 1 in
      let b2 = below_length s 2 in
      let b3 = below_length s 3 in
      let b4 = below_length s 4 in
      let b5 = below_length s 5 in
      let b6 = below_length s 6 in
      let n = ap length (none_below s) in
      let w = ap length (all-below s) in
      let l3 = ap records_for (dims_length s m r) in
      let l4 = ap records_for (trials_length s m r) in
      let l5 = ap records_for (parents_length s m r) in
      let l6 = ap records_for (candidates_length s m r) in
      omega arith

  -- the sum as the code makes it
  pub total-is : (a b x y p c : ℕ) → a ≡ records_for (s.n_dims * 5) → b ≡ records_for (s.n_trials * 2) → p ≡ parent_count s → x ≡ records_for (p * (s.n_dims + 1)) → c ≡ candidate_count s
      → y ≡ records_for (c * s.n_dims) → 6 + a + b + x + y ≡ length (pieces_of s)
  total-is a b x y p c ea eb ep ex ec ey =
      (λ i. 6 + ea i + eb i + (ex ∙ ap (λ (n : ℕ). records_for (n * (s.n_dims + 1))) ep) i + (ey ∙ ap (λ (n : ℕ). records_for (n * s.n_dims)) ec) i) ∙ total

  pub pieces-few : length (pieces_of s) ≤ 2285
  pieces-few =
      let t = total in
      let w = few_words s m r (parent_count s) (candidate_count s) refl refl in
      omega (arith, w.0, w.1, r.dims, r.trials)
