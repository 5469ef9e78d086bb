-- What both forms go by: the entries of what is left of the text, written over what lies there now, make what is to be left.
use Rattle.std.proofs.Common.{◌≡◌, ℕ, suc, ◌+◌, ◌≤◌, Bool, true, false, cond, List, [], ◌∷◌, ◌++◌, map, length, drop, leb, eqb, Option, Some, None, Result, Ok, Err, refl, ◌∙◌, zero-add, add-one, arith}
use Rattle.std.proofs.Math.ListN.{length-map}
use Rattle.std.proofs.Math.ListN.{set}
use Rattle.std.proofs.lemmas.List.Edits.{sets, sets-eq}
use Rattle.std.proofs.lemmas.Bool.{leb-true, le-leb}
use Rattle.history.specs.declared.CompletedTrial.{CompletedTrial}
use Rattle.metrics.specs.Line.{line_of}
use Rattle.metrics.specs.Export.{Export, well, malformed, after, lines_from, export_of, answer_of, left_in}
use Rattle.metrics.specs.Steps.{before, entries_in, entries_of}
use Rattle.metrics.specs.declared.ExportRefusal.{ExportRefusal}
use Rattle.metrics.specs.declared.ExportRefusal.TheVariants.{ShortHistory}
use Rattle.metrics.specs.Pieces.{cut_at}

-- the entries of the text, written over what is lent, from place i on
unfoldable pub filled : {A : Type 0} → (CompletedTrial → A) → List A → ℕ → List ℕ → List A
filled give lent i text = sets lent i (map give (entries_of text))

-- the first entry written, at i, and those of the rest from j on
pub filled-more : {A : Type 0} (give : CompletedTrial → A) (lent all : List A) (k i j : ℕ) (text rest : List ℕ) (t : CompletedTrial) → entries_of text ≡ t ∷ entries_of rest
    → i ≡ k → j ≡ k + 1 → filled give lent k text ≡ all → filled give (set lent i (give t)) j rest ≡ all
unfolding filled
filled-more give lent all k i j text rest t e p q w = rw (p, q, add-one k) (rw e at w)

pub filled-end : {A : Type 0} (give : CompletedTrial → A) (lent : List A) (i : ℕ) (text : List ℕ) → entries_of text ≡ [] → filled give lent i text ≡ lent
unfolding filled
filled-end give lent i text e = rw e

-- an export that is read well has the entries before its end
lines-well : (k : ℕ) (ps : List (List ℕ)) (ts : List CompletedTrial) → lines_from k ps ≡ well ts → entries_in ps ≡ ts
unfolding lines_from entries_in
lines-well k [] ts e = cc
lines-well k (last ∷ []) ts e = go (eqb (length last) 0) e
  where
    go : (b : Bool) → cond b (well []) (malformed k) ≡ well ts → [] ≡ ts
    go true h = cc
    go false h = cc
lines-well k (line ∷ next ∷ more) ts e = go (line_of line) (lines_from (suc k) (next ∷ more)) (lines-well (suc k) (next ∷ more)) e
  where
    go : (r : Option CompletedTrial) (x : Export) → ((us : List CompletedTrial) → x ≡ well us → entries_in (next ∷ more) ≡ us) → after k r x ≡ well ts → before r (entries_in (next ∷ more)) ≡ ts
    go None x h q = cc
    go (Some t) (well us) h q = rw (h us refl) (cc)
    go (Some t) (malformed n) h q = cc

module _ (places : ℕ) (text : List ℕ) where
  abbrev answer : Result ℕ ExportRefusal
  answer = answer_of places (export_of text)

  Read : Export → ℕ → Type 0
  Read x n = (x ≡ well (entries_of text)) × (length (entries_of text) ≡ n) × (n ≤ places)

  read : (n : ℕ) → answer ≡ Ok n → Read (export_of text) n
  unfolding answer_of export_of entries_of Read
  read n e = go (lines_from 1 (cut_at 10 text)) (lines-well 1 (cut_at 10 text)) e
    where
      go : (x : Export) → ((ts : List CompletedTrial) → x ≡ well ts → entries_in (cut_at 10 text) ≡ ts) → answer_of places x ≡ Ok n
          → (x ≡ well (entries_in (cut_at 10 text))) × (length (entries_in (cut_at 10 text)) ≡ n) × (n ≤ places)
      go (malformed k) w q = cc
      go (well ts) w q = rw (w ts refl) (few (leb (length ts) places) refl q)
        where
          few : (b : Bool) → leb (length ts) places ≡ b → cond b (Ok (length ts)) (Err ShortHistory) ≡ Ok n → (well ts ≡ well ts) × (length ts ≡ n) × (n ≤ places)
          few true z h = let same : length ts ≡ n = cc in (refl, same, rw (← same) (leb-true (length ts) places z))
          few false z h = cc

  pub count-read : (n : ℕ) → answer ≡ Ok n → (length (entries_of text) ≡ n) × (n ≤ places)
  unfolding Read
  count-read n e = ((read n e).1, (read n e).2)

  -- all of it written is what is to be left, and a refusal leaves all as it was
  module _ {A : Type 0} (give : CompletedTrial → A) (lent : List A) where
    pub filled-all : (n : ℕ) → answer ≡ Ok n → places ≤ length lent → filled give lent 0 text ≡ left_in give places (export_of text) lent
    unfolding Read filled left_in
    filled-all n e l = let (is, count, fits) = read n e in
        sets-eq (map give (entries_of text)) lent 0 (omega (arith, length-map (entries_of text) give))
        ∙ rw (is, length-map (entries_of text) give, zero-add (length (entries_of text)), le-leb (length (entries_of text)) places (omega arith))

    pub refused-as-it-was : (why : ExportRefusal) → answer ≡ Err why → left_in give places (export_of text) lent ≡ lent
    unfolding answer_of left_in
    refused-as-it-was why e = go (export_of text) e
      where
        go : (x : Export) → answer_of places x ≡ Err why → left_in give places x lent ≡ lent
        go (malformed k) q = refl
        go (well ts) q = few (leb (length ts) places) q
          where
            few : (b : Bool) → cond b (Ok (length ts)) (Err ShortHistory) ≡ Err why → cond b (map give ts ++ drop (length ts) lent) lent ≡ lent
            few true h = cc
            few false h = refl

pub ruleset writes = (filled-end, filled-all, count-read, refused-as-it-was)
