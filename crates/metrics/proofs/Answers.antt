-- THE ANSWER, in document 02's words: 14 exactly where the text leaves the grammar, 15 exactly where it does not and has more entries than places,
-- and else their count. Idea: the two cases of what is read (Grammar), and of the comparison with the places.
use Prim.Native.Nat.{ℕ, ◌≤◌, ◌<◌}
use mathlib.Core.Path.{◌≡◌, refl, ap, ◌∙◌, subst}
use mathlib.Core.Bool.{Bool, true, false, cond}
use mathlib.Core.List.{List}
use mathlib.Core.Logic.{◌↔◌}
use lib.Dec.{leb}
use lib.ListN.{length}
use borrow.Author.Tests.{leb-true, leb-false, le-leb, lt-leb}
use Rattle.std.specs.Prelude.{Result, Ok, Err}
use Rattle.history.specs.declared.CompletedTrial.{CompletedTrial}
use Rattle.metrics.specs.Grammar.{Accepted, MalformedAt}
use Rattle.metrics.specs.Export.{Export, well, malformed, export_of, answer_of}
use Rattle.metrics.specs.declared.ExportRefusal.{ExportRefusal}
use Rattle.metrics.specs.declared.ExportRefusal.TheVariants.{MalformedLine, ShortHistory}
use Rattle.metrics.proofs.Grammar.{accepted-exactly, malformed-exactly}

module _ (text : List ℕ) (places : ℕ) where
  abbrev answer : Result ℕ ExportRefusal
  answer = answer_of places (export_of text)

  -- what the answer says of the export
  abbrev Says : Result ℕ ExportRefusal → Export → Type 0
  Says (Ok n) x = (ts : List CompletedTrial) × ((x ≡ well ts) × (length ts ≤ places) × (n ≡ length ts))
  Says (Err (MalformedLine k)) x = x ≡ malformed k
  Says (Err ShortHistory) x = (ts : List CompletedTrial) × ((x ≡ well ts) × (places < length ts))

  says : (x : Export) → Says (answer_of places x) x
  unfolding answer_of
  says (malformed k) = refl
  says (well ts) = go (leb (length ts) places) refl
    where
      go : (t : Bool) → leb (length ts) places ≡ t → Says (cond t (Ok (length ts)) (Err ShortHistory)) (well ts)
      go true z = (ts, (refl, leb-true (length ts) places z, refl))
      go false z = (ts, (refl, leb-false (length ts) places z))

  said : (r : Result ℕ ExportRefusal) → answer ≡ r → Says r (export_of text)
  said r e = subst (λ (a : Result ℕ ExportRefusal). Says a (export_of text)) e (says (export_of text))

  -- "14, the first malformed line, carries its number from 1"
  pub answer-14 : (k : ℕ) → (answer ≡ Err (MalformedLine k)) ↔ MalformedAt text k
  unfolding answer_of
  answer-14 k = (
    λ e. (malformed-exactly text k).0 (said (Err (MalformedLine k)) e),
    λ m. ap (answer_of places) ((malformed-exactly text k).1 m),
  )

  -- "15, the lent history is too short, is judged after every line has been read well"
  pub answer-15 : (answer ≡ Err ShortHistory) ↔ ((ts : List CompletedTrial) × (Accepted text ts × (places < length ts)))
  unfolding answer_of
  answer-15 = (
    λ e. let s = said (Err ShortHistory) e in (s.0, ((accepted-exactly text s.0).0 s.1.0, s.1.1)),
    λ a. ap (answer_of places) ((accepted-exactly text a.0).1 a.1.0) ∙ rw (lt-leb (length a.0) places a.1.1),
  )

  -- "return their count"
  pub answer-count : (n : ℕ) → (answer ≡ Ok n) ↔ ((ts : List CompletedTrial) × (Accepted text ts × (length ts ≤ places) × (n ≡ length ts)))
  unfolding answer_of
  answer-count n = (
    λ e. let s = said (Ok n) e in (s.0, ((accepted-exactly text s.0).0 s.1.0, s.1.1, s.1.2)),
    λ a. ap (answer_of places) ((accepted-exactly text a.0).1 a.1.0) ∙ rw (le-leb (length a.0) places a.1.1, a.1.2),
  )
