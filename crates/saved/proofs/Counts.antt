-- "a kind with its position missing", by the counts that the records of kind 2 hold: how many records each of the kinds 3 to 6 has to have. One that is missing is refused
-- by 13, and so is a dimension or an open trial past them. (Of every other record too many it is `answer-13` that says so.)
use Rattle.std.specs.Prelude.{Ok}
use Prim.Native.Nat.{ℕ, ◌+◌, ◌*◌, ◌≤◌, ◌<◌, max}
use native.Mathlib.Omega.{arith}
use mathlib.Core.Path.{◌≡◌, refl, sym, ap, ◌∙◌, subst}
use mathlib.Core.Bool.{true, cond, Bool, false}
use mathlib.Core.List.{List, Memᴰ}
use borrow.Author.Tests.{ne_eqb}
use lib.ListN.{length}
use Rattle.ledger.specs.Words.{All}
use Rattle.state.specs.Sound.{sound_state}
use Rattle.state.specs.View.{candidate_count, parent_count}
use Rattle.state.specs.declared.State.{State}
use Rattle.state.proofs.Measured.{Measured}
use Rattle.records.specs.declared.Piece.{Piece}
use Rattle.records.specs.Tables.{records_for, piece_of}
use Rattle.records.proofs.Sections.{section-mem}
use Rattle.kinds.specs.Typed.{TypedState}
use Rattle.kinds.specs.Kinds.{kind_words, count_words, dims_words, trials_words, parents_words, candidates_words}
use Rattle.kinds.specs.Rows.{flag}
use Rattle.kinds.proofs.Sectioned.{dims_length, trials_length, parents_length, candidates_length}
use Rattle.kinds.proofs.Typed.{measured-of}
use Rattle.saved.specs.Saves.{Of}
use Rattle.saved.specs.Restore.{content_of}
use Rattle.saved.proofs.Content.{refused-unless, taken-exactly}
use Rattle.saved.proofs.Thirteen.{Thirteen, place, words_are, here, within}
use Rattle.saved.proofs.Wrote.{roomy}

module _ (s : State) (e : sound_state s ≡ true) (p : TypedState s) where
  measure : Measured s
  measure = measured-of s p

  dims-long : length (dims_words s) ≡ s.n_dims * 5
  dims-long = dims_length s measure (roomy s measure e)

  trials-long : length (trials_words s) ≡ s.n_trials * 2
  trials-long = trials_length s measure (roomy s measure e)

  parents-long : length (parents_words s) ≡ parent_count s * (s.n_dims + 1)
  parents-long = parents_length s measure (roomy s measure e)

  candidates-long : length (candidates_words s) ≡ candidate_count s * s.n_dims
  candidates-long = candidates_length s measure (roomy s measure e)

-- ---- what the counts' records say

module _ (rs : List Piece) where
  module _ (s : State) (e : content_of rs ≡ Ok s) where
    of : Of rs s
    of = (taken-exactly rs s).0 e

    -- N, D and open trials; whether discovery has ended; closed generations
    three : (p : Piece) → Memᴰ p rs → p.kind ≡ 2 → p.position ≡ 1 → (p.first ≡ s.n) × (p.second ≡ s.n_dims) × (p.third ≡ s.n_trials)
    unfolding kind_words count_words
    three p m a b = words_are rs s e p m 2 1 a b

    ended : (p : Piece) → Memᴰ p rs → p.kind ≡ 2 → p.position ≡ 0 → p.third ≡ flag s.discovered
    unfolding kind_words count_words
    ended p m a b = (words_are rs s e p m 2 0 a b).2

    closings : (p : Piece) → Memᴰ p rs → p.kind ≡ 2 → p.position ≡ 2 → p.first ≡ s.closed
    unfolding kind_words count_words
    closings p m a b = (words_are rs s e p m 2 2 a b).0

    flag_true : (b : Bool) → flag b ≡ 1 → b ≡ true
    flag_true true q = refl
    flag_true false q = absurd (omega arith)

  -- no record of a kind at a position
  abbrev pub Lacks : ℕ → ℕ → Type 0
  Lacks kind k = All (λ (q : Piece). q.kind ≡ kind → q.position ≡ k → ⊥) rs

  module _ (p : Piece) (m : Memᴰ p rs) (a : p.kind ≡ 2) (b : p.position ≡ 1) where
    -- "a kind with its position missing": D dimensions have 5 D words, T open trials 2 T
    pub missing-dimension : (k : ℕ) → k < records_for (p.second * 5) → Lacks 3 k → Thirteen rs
    unfolding kind_words
    missing-dimension k h l =
        refused-unless rs (λ s e.
        let o = of s e in
        let q : p.second * 5 ≡ length (dims_words s) = ap (λ (n : ℕ). n * 5) (three s e p m a b).1 ∙ sym (dims-long s o.sound o.typed) in
        l (piece_of 3 (dims_words s) k) (here rs s e _ (within s 3 (omega arith) (omega arith) (section-mem 3 (dims_words s) k (subst (λ (n : ℕ). k < records_for n) q h)))) refl refl)

    pub missing-trial : (k : ℕ) → k < records_for (p.third * 2) → Lacks 4 k → Thirteen rs
    unfolding kind_words
    missing-trial k h l =
        refused-unless rs (λ s e.
        let o = of s e in
        let q : p.third * 2 ≡ length (trials_words s) = ap (λ (n : ℕ). n * 2) (three s e p m a b).2 ∙ sym (trials-long s o.sound o.typed) in
        l (piece_of 4 (trials_words s) k) (here rs s e _ (within s 4 (omega arith) (omega arith) (section-mem 4 (trials_words s) k (subst (λ (n : ℕ). k < records_for n) q h)))) refl refl)

    -- after a closing there are N parents, of D + 1 words each
    pub missing-parent : (r : Piece) → Memᴰ r rs → r.kind ≡ 2 → r.position ≡ 2 → (r.first ≡ 0 → ⊥) → (k : ℕ) → k < records_for (p.first * (p.second + 1)) → Lacks 5 k → Thirteen rs
    unfolding kind_words
    missing-parent r n c d z k h l =
        refused-unless rs (λ s e.
        let o = of s e in
        let t = three s e p m a b in
        let some : parent_count s ≡ s.n = ap (λ (x : Bool). cond x 0 s.n) (ne_eqb s.closed 0 (λ y. z (closings s e r n c d ∙ y))) in
        let q : p.first * (p.second + 1) ≡ length (parents_words s) = (λ i. (t.0 ∙ sym some) i * (t.1 i + 1)) ∙ sym (parents-long s o.sound o.typed) in
        l (piece_of 5 (parents_words s) k) (here rs s e _ (within s 5 (omega arith) (omega arith) (section-mem 5 (parents_words s) k (subst (λ (n : ℕ). k < records_for n) q h)))) refl refl)

    -- after discovery there are as many candidates as slots, or as open trials if these are more, of D words each
    pub missing-candidate : (r : Piece) → Memᴰ r rs → r.kind ≡ 2 → r.position ≡ 0 → r.third ≡ 1 → (k : ℕ) → k < records_for (max p.first p.third * p.second) → Lacks 6 k → Thirteen rs
    unfolding kind_words
    missing-candidate r n c d z k h l =
        refused-unless rs (λ s e.
        let o = of s e in
        let t = three s e p m a b in
        let some : candidate_count s ≡ max s.n s.n_trials = ap (λ (x : Bool). cond x (max s.n s.n_trials) 0) (flag_true s e s.discovered (sym (ended s e r n c d) ∙ z)) in
        let q : max p.first p.third * p.second ≡ length (candidates_words s) = (λ i. (ap (λ (x : ℕ). max x p.third) t.0 ∙ ap (max s.n) t.2 ∙ sym some) i * t.1 i) ∙ sym (candidates-long s o.sound o.typed) in
        l (piece_of 6 (candidates_words s) k) (here rs s e _ (within s 6 (omega arith) (omega arith) (section-mem 6 (candidates_words s) k (subst (λ (n : ℕ). k < records_for n) q h)))) refl refl)

    -- and no position past them
    pub past-dimension : (r : Piece) → Memᴰ r rs → r.kind ≡ 3 → records_for (p.second * 5) ≤ r.position → Thirteen rs
    unfolding kind_words
    past-dimension r n c h =
        refused-unless rs (λ s e.
        let o = of s e in
        let w = (place rs s e r n).within in
        let q : length (kind_words s r.kind) ≡ p.second * 5 = ap (λ (x : ℕ). length (kind_words s x)) c ∙ dims-long s o.sound o.typed ∙ ap (λ (n : ℕ). n * 5) (sym (three s e p m a b).1) in
        let k : r.position < records_for (p.second * 5) = subst (λ (n : ℕ). r.position < records_for n) q w in
        apart r.position (records_for (p.second * 5)) h k)
      where
        apart : (x y : ℕ) → y ≤ x → x < y → ⊥
        apart x y l m = omega arith

    pub past-trial : (r : Piece) → Memᴰ r rs → r.kind ≡ 4 → records_for (p.third * 2) ≤ r.position → Thirteen rs
    unfolding kind_words
    past-trial r n c h =
        refused-unless rs (λ s e.
        let o = of s e in
        let w = (place rs s e r n).within in
        let q : length (kind_words s r.kind) ≡ p.third * 2 = ap (λ (x : ℕ). length (kind_words s x)) c ∙ trials-long s o.sound o.typed ∙ ap (λ (n : ℕ). n * 2) (sym (three s e p m a b).2) in
        let k : r.position < records_for (p.third * 2) = subst (λ (n : ℕ). r.position < records_for n) q w in
        apart r.position (records_for (p.third * 2)) h k)
      where
        apart : (x y : ℕ) → y ≤ x → x < y → ⊥
        apart x y l m = omega arith
