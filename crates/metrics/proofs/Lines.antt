-- The export a line at a time: what is left of it behind each line.
use Rattle.std.proofs.Common.{◌≡◌, ◌≢◌, ℕ, suc, ◌+◌, ◌≤◌, ◌<◌, cond, List, [], ◌∷◌, length, leb, eqb, Option, Some, None, Result, Ok, Err, refl, sym, ◌∙◌, ap, zero-add, add-one, arith}
use Prim.Native.Char.{code}
use Rattle.std.specs.Prelude.{option_map}
use Rattle.std.proofs.lemmas.Bool.{ne_eqb, eq-eqb, le-leb, lt-leb}
use Rattle.history.specs.declared.CompletedTrial.{CompletedTrial}
use Rattle.metrics.specs.Pieces.{Halves, whole, halves, cut_at, split_at}
use Rattle.metrics.specs.Line.{line_of}
use Rattle.metrics.specs.Export.{Export, well, malformed, after, lines_from, export_of, answer_of}
use Rattle.metrics.specs.Steps.{next_in, next_of, before, entries_in, entries_of, answer_from}
use Rattle.metrics.specs.declared.ExportRefusal.{ExportRefusal}
use Rattle.metrics.specs.declared.ExportRefusal.TheVariants.{MalformedLine, ShortHistory}
use Rattle.metrics.proofs.Cuts.{cut-whole, cut-halves, some-piece, behind-shorter}

abbrev pub LF : ℕ
LF = code "\n"

-- a line in front of more pieces, of which there is one at least
pub lines_of : (k : ℕ) (line s : List ℕ) → lines_from k (line ∷ cut_at LF s) ≡ after k (line_of line) (lines_from (suc k) (cut_at LF s))
unfolding lines_from
lines_of k line s = let p = some-piece LF s in rw p.2

before_of : (line s : List ℕ) → entries_in (line ∷ cut_at LF s) ≡ before (line_of line) (entries_in (cut_at LF s))
unfolding entries_in
before_of line s = let p = some-piece LF s in rw p.2

-- ---- the first line
module _ (s : List ℕ) where
  -- what the halves of the text say of its first line
  abbrev First : Option (CompletedTrial × List ℕ) → Type 0
  First None = (entries_of s ≡ []) × ((k : ℕ) → lines_from k (cut_at LF s) ≡ cond (eqb (length s) 0) (well []) (malformed k))
  First (Some step) = (entries_of s ≡ step.0 ∷ entries_of step.1) × ((k : ℕ) → lines_from k (cut_at LF s) ≡ after k (Some step.0) (lines_from (suc k) (cut_at LF step.1))) × (length step.1 < length s)

  first : First (next_of s)
  unfolding next_of entries_of entries_in lines_from
  first = by-halves (split_at LF s) refl
    where
      by-line : (u v : List ℕ) → split_at LF s ≡ halves u v → (r : Option CompletedTrial) → line_of u ≡ r → First (option_map (λ t. (t, v)) r)
      by-line u v h None e = (
        ap entries_in (cut-halves LF s u v h) ∙ before_of u v ∙ rw e,
        λ k. ap (lines_from k) (cut-halves LF s u v h) ∙ lines_of k u v ∙ rw (e, ne_eqb (length s) 0 (λ z. omega (arith, behind-shorter LF s u v h))),
      )
      by-line u v h (Some t) e = (
        ap entries_in (cut-halves LF s u v h) ∙ before_of u v ∙ rw e,
        λ k. ap (lines_from k) (cut-halves LF s u v h) ∙ lines_of k u v ∙ rw e,
        behind-shorter LF s u v h,
      )

      by-halves : (h : Halves) → split_at LF s ≡ h → First (next_in h)
      by-halves (whole w) e = (ap entries_in (cut-whole LF s w e), λ k. ap (lines_from k) (cut-whole LF s w e))
      by-halves (halves u v) e = by-line u v e (line_of u) refl

  module _ (e : next_of s ≡ None) where
    none : First None
    none = rw e at first

    pub entries-end : entries_of s ≡ []
    entries-end = none.0

    lines-end : (k : ℕ) → lines_from k (cut_at LF s) ≡ cond (eqb (length s) 0) (well []) (malformed k)
    lines-end = none.1

  module _ (t : CompletedTrial) (rest : List ℕ) (e : next_of s ≡ Some (t, rest)) where
    some : First (Some (t, rest))
    some = rw e at first

    pub entries-more : entries_of s ≡ t ∷ entries_of rest
    entries-more = some.0

    lines-more : (k : ℕ) → lines_from k (cut_at LF s) ≡ after k (Some t) (lines_from (suc k) (cut_at LF rest))
    lines-more = some.1

    pub shorter : length rest < length s
    shorter = some.2

-- ---- the answer, n entries on
pub answer-first : (places : ℕ) (text : List ℕ) → answer_of places (export_of text) ≡ answer_from 0 places (lines_from (0 + 1) (cut_at LF text))
unfolding answer_of answer_from export_of
answer-first places text = go (lines_from 1 (cut_at LF text))
  where
    go : (x : Export) → answer_of places x ≡ answer_from 0 places x
    go (well ts) = sym (ap (λ (m : ℕ). cond (leb m places) (Ok m) (Err ShortHistory)) (zero-add (length ts)))
    go (malformed k) = refl

answer-next : (n places : ℕ) (t : CompletedTrial) (k : ℕ) (x : Export) → answer_from n places (after k (Some t) x) ≡ answer_from (n + 1) places x
unfolding answer_from
answer-next n places t k (well ts) = let e : n + suc (length ts) ≡ n + 1 + length ts = omega arith in ap (λ (m : ℕ). cond (leb m places) (Ok m) (Err ShortHistory)) e
answer-next n places t k (malformed m) = refl

-- what is left is s
abbrev pub left_from : ℕ → ℕ → List ℕ → Result ℕ ExportRefusal
left_from n places s = answer_from n places (lines_from (n + 1) (cut_at LF s))

module _ (n places : ℕ) (s : List ℕ) where
  pub judge-more : (t : CompletedTrial) (rest : List ℕ) → next_of s ≡ Some (t, rest) → left_from n places s ≡ left_from (n + 1) places rest
  judge-more t rest e =
      ap (answer_from n places) (lines-more s t rest e (n + 1)) ∙ answer-next n places t (n + 1) (lines_from (suc (n + 1)) (cut_at LF rest))
      ∙ ap (λ (k : ℕ). answer_from (n + 1) places (lines_from k (cut_at LF rest))) (sym (add-one (n + 1)))

  module _ (e : next_of s ≡ None) where
    pub judge-malformed : length s ≢ 0 → left_from n places s ≡ Err (MalformedLine (n + 1))
    unfolding answer_from
    judge-malformed h = ap (answer_from n places) (lines-end s e (n + 1)) ∙ rw (ne_eqb (length s) 0 h)

    ended : length s ≡ 0 → left_from n places s ≡ cond (leb n places) (Ok n) (Err ShortHistory)
    unfolding answer_from
    ended h =
        let z : n + 0 ≡ n = omega arith in
        ap (answer_from n places) (lines-end s e (n + 1)) ∙ rw (eq-eqb (length s) 0 h) (ap (λ (m : ℕ). cond (leb m places) (Ok m) (Err ShortHistory)) z)

    pub judge-count : length s ≡ 0 → n ≤ places → left_from n places s ≡ Ok n
    judge-count h l = ended h ∙ rw (le-leb n places l)

    pub judge-short : length s ≡ 0 → places < n → left_from n places s ≡ Err ShortHistory
    judge-short h l = ended h ∙ rw (lt-leb n places l)

pub ruleset judged = (answer-first, judge-more, judge-malformed, judge-count, judge-short, shorter)

pub ruleset yielded = (entries-end, entries-more)
