-- An export that is read has as many entries as line feeds, so a caller that counts these knows the places. Idea: each line feed ends one piece.
use Prim.Native.Nat.{ℕ, suc, ◌+◌}
use Prim.Native.Char.{code}
use mathlib.Core.Path.{◌≡◌, refl, ap, ◌∙◌}
use mathlib.Core.Bool.{Bool, true, false, cond}
use mathlib.Core.List.{List, [], ◌∷◌}
use native.Mathlib.Omega.{arith}
use lib.Dec.{eqb}
use lib.ListN.{length}
use Rattle.std.specs.Prelude.{Option, Some, None}
use Rattle.history.specs.declared.CompletedTrial.{CompletedTrial}
use Rattle.std.specs.List.{onto_first}
use Rattle.metrics.specs.Pieces.{cut_at}
use Rattle.metrics.specs.Line.{line_of}
use Rattle.metrics.specs.Grammar.{line_feeds}
use Rattle.metrics.specs.Export.{Export, well, malformed, after, lines_from, export_of}

-- one piece more than there are line feeds
piece-count : (s : List ℕ) → length (cut_at (code "\n") s) ≡ line_feeds s + 1
unfolding cut_at line_feeds
piece-count [] = refl
piece-count (b ∷ bs) = go (eqb b (code "\n")) (cut_at (code "\n") bs) (piece-count bs)
  where
    go : (t : Bool) (ps : List (List ℕ)) → length ps ≡ line_feeds bs + 1 → length (cond t ([] ∷ ps) (onto_first b ps)) ≡ cond t (line_feeds bs + 1) (line_feeds bs) + 1
    go true ps e = ap suc e ∙ omega arith
    go false (p ∷ ps) e = e
    go false [] e = absurd (omega arith)

-- the entries and what stands behind the last line feed
entry-count : (k : ℕ) (ps : List (List ℕ)) (ts : List CompletedTrial) → (ps ≡ [] → ⊥) → lines_from k ps ≡ well ts → length ps ≡ length ts + 1
unfolding lines_from
entry-count k [] ts n e = absurd (n refl)
entry-count k (last ∷ []) ts n e = go (eqb (length last) 0) e
  where
    go : (t : Bool) → cond t (well []) (malformed k) ≡ well ts → 1 ≡ length ts + 1
    go true h = let none : ◌≡◌ {A = List CompletedTrial} [] ts = cc in ap (λ (us : List CompletedTrial). length us + 1) none
    go false h = cc
entry-count k (line ∷ next ∷ more) ts n e = go (line_of line) (lines_from (suc k) (next ∷ more)) (λ us. entry-count (suc k) (next ∷ more) us (λ h. cc)) e
  where
    go : (r : Option CompletedTrial) (x : Export) → ((us : List CompletedTrial) → x ≡ well us → length (next ∷ more) ≡ length us + 1) → after k r x ≡ well ts → length (line ∷ next ∷ more) ≡ length ts + 1
    go (Some t) (well us) h q =
        let all : t ∷ us ≡ ts = cc in
        let count : suc (length us) ≡ length ts = ap (length {A = CompletedTrial}) all in
        omega (arith, h us refl, count)
    go (Some t) (malformed m) h q = cc
    go None x h q = cc

pub entries-are-line-feeds : (text : List ℕ) (ts : List CompletedTrial) → export_of text ≡ well ts → length ts ≡ line_feeds text
unfolding export_of
entries-are-line-feeds text ts e =
    let some : cut_at (code "\n") text ≡ [] → ⊥ = λ h. let c = ap length h in omega (arith, piece-count text) in
    omega (arith, piece-count text, entry-count 1 (cut_at (code "\n") text) ts some e)
