-- THE GRAMMAR: the reader takes exactly the texts that are lines of the grammar, with what they mean, and names the line at which any other text leaves it.
-- Idea: a line of the grammar has no line feed within it, so the text is cut where its lines meet; by the lines of the grammar, and back by the pieces.
use Prim.Native.Nat.{ℕ, suc, ◌+◌}
use mathlib.Core.Path.{◌≡◌, refl, sym, ap, ◌∙◌, subst}
use mathlib.Core.Bool.{Bool, true, false, cond}
use mathlib.Core.List.{List, [], ◌∷◌, ◌++◌, map, append-nil, append_assoc}
use mathlib.Core.Logic.{◌↔◌}
use native.Mathlib.Omega.{arith}
use lib.Dec.{eqb}
use lib.ListN.{length}
use borrow.Author.Tests.{eqb-true}
use Rattle.std.specs.Prelude.{Option, Some, None}
use Rattle.history.specs.declared.CompletedTrial.{CompletedTrial}
use Rattle.metrics.specs.Pieces.{cut_at}
use Rattle.metrics.specs.Line.{line_of}
use Rattle.metrics.specs.Grammar.{Parts, Lawful, AllLawful, body_text, line_text, text_of, meant, NoLine, Accepted, MalformedAt}
use Rattle.metrics.specs.Export.{Export, well, malformed, after, lines_from, export_of}
use Rattle.metrics.proofs.Joined.{cut-clear, CutBack, cut-back}
use Rattle.metrics.proofs.LineParts.{line_taken, line_clear, line-back}
use Rattle.metrics.proofs.Lines.{LF, lines_of}

-- a line with its line feed, in front of more
line_before : (p : Parts) (rest : List ℕ) → line_text p ++ rest ≡ body_text p ++ LF ∷ rest
line_before p rest = append_assoc (body_text p) (LF ∷ []) rest

-- ---- lines of the grammar, read
line_read : (k : ℕ) (p : Parts) (rest : List ℕ) → Lawful p → lines_from k (cut_at LF (line_text p ++ rest)) ≡ after k (Some (meant p)) (lines_from (suc k) (cut_at LF rest))
line_read k p rest l =
    ap (λ (s : List ℕ). lines_from k (cut_at LF s)) (line_before p rest) ∙ ap (lines_from k) (cut-clear LF (body_text p) rest (line_clear p l))
    ∙ lines_of k (body_text p) rest ∙ ap (λ (r : Option CompletedTrial). after k r (lines_from (suc k) (cut_at LF rest))) (line_taken p l)

-- what the lines behind are, with entries in front
abbrev behind : List CompletedTrial → Export → Export
behind ts (well us) = well (ts ++ us)
behind ts (malformed k) = malformed k

behind_more : (k : ℕ) (t : CompletedTrial) (ts : List CompletedTrial) (x : Export) → after k (Some t) (behind ts x) ≡ behind (t ∷ ts) x
behind_more k t ts (well us) = refl
behind_more k t ts (malformed n) = refl

lines-read : (k : ℕ) (ps : List Parts) (rest : List ℕ) → AllLawful ps → lines_from k (cut_at LF (text_of ps ++ rest)) ≡ behind (map meant ps) (lines_from (length ps + k) (cut_at LF rest))
lines-read k [] rest l = none (lines_from k (cut_at LF rest)) ∙ ap (λ (n : ℕ). behind [] (lines_from n (cut_at LF rest))) (omega arith)
  where
    none : (x : Export) → x ≡ behind [] x
    none (well us) = refl
    none (malformed n) = refl
lines-read k (p ∷ ps) rest l =
    let n : length ps + suc k ≡ suc (length ps) + k = omega arith in
    ap (λ (s : List ℕ). lines_from k (cut_at LF s)) (append_assoc (line_text p) (text_of ps) rest) ∙ line_read k p (text_of ps ++ rest) l.0
    ∙ ap (after k (Some (meant p))) (lines-read (suc k) ps rest l.1)
    ∙ behind_more k (meant p) (map meant ps) (lines_from (length ps + suc k) (cut_at LF rest))
    ∙ ap (λ (m : ℕ). behind (meant p ∷ map meant ps) (lines_from m (cut_at LF rest))) n

-- ---- a text that begins with no line of the grammar
no-line-read : (k : ℕ) (rest : List ℕ) → NoLine rest → lines_from k (cut_at LF rest) ≡ malformed k
unfolding lines_from
no-line-read k rest n = go (cut_at LF rest) (cut-back LF rest)
  where
    by-line : (r : Option CompletedTrial) (line t : List ℕ) (x : Export) → line_of line ≡ r → rest ≡ line ++ LF ∷ t → after k r x ≡ malformed k
    by-line (Some e) line t x q b =
        let p = line-back line e q in
        absurd (n.no_line p.0 t p.1.0 (b ∙ ap (λ (s : List ℕ). s ++ LF ∷ t) p.1.1 ∙ sym (line_before p.0 t)))
    by-line None line t x q b = refl

    last : (piece : List ℕ) (t : Bool) → eqb (length piece) 0 ≡ t → rest ≡ piece → cond t (well []) (malformed k) ≡ malformed k
    last [] t z b = absurd (n.something b)
    last (c ∷ cs) true z b = absurd (omega (arith, eqb-true (length (c ∷ cs)) 0 z))
    last (c ∷ cs) false z b = refl

    go : (pieces : List (List ℕ)) → CutBack LF pieces rest → lines_from k pieces ≡ malformed k
    go [] b = absurd b
    go (piece ∷ []) b = last piece (eqb (length piece) 0) refl b
    go (line ∷ next ∷ more) b = by-line (line_of line) line b.0 (lines_from (suc k) (next ∷ more)) refl b.1.0

-- ---- and back: what is read of a text says how it begins
-- the first piece of a text that begins with a line of the grammar
begins : (s : List ℕ) (p : Parts) (rest : List ℕ) → Lawful p → s ≡ line_text p ++ rest → cut_at LF s ≡ body_text p ∷ cut_at LF rest
begins s p rest l e = ap (cut_at LF) (e ∙ line_before p rest) ∙ cut-clear LF (body_text p) rest (line_clear p l)

some-piece : (s : List ℕ) → cut_at LF s ≡ [] → ⊥
some-piece s e = subst (λ (ps : List (List ℕ)). CutBack LF ps s) e (cut-back LF s)

-- lines numbered from k
abbrev Read : ℕ → List ℕ → Export → Type 0
Read k s (well ts) = Accepted s ts
Read k s (malformed n) = (ps : List Parts) × (rest : List ℕ) × (AllLawful ps × (s ≡ text_of ps ++ rest) × NoLine rest × (n ≡ length ps + k))

read-last : (k : ℕ) (s last : List ℕ) → cut_at LF s ≡ last ∷ [] → s ≡ last → Read k s (cond (eqb (length last) 0) (well []) (malformed k))
read-last k s [] q e = ([], (tt, e, refl))
read-last k s (c ∷ cs) q e = go (eqb (length (c ∷ cs)) 0) refl
  where
    go : (t : Bool) → eqb (length (c ∷ cs)) 0 ≡ t → Read k s (cond t (well []) (malformed k))
    go true z = absurd (omega (arith, eqb-true (length (c ∷ cs)) 0 z))
    go false z = (
      [],
      s,
      (
        tt,
        refl,
        record {
          something = λ h. cc;
          no_line = λ p rest l h. let b = begins s p rest l h in some-piece rest (let none : cut_at LF rest ≡ [] = cc in none);
        },
        omega arith,
      ),
    )

read-line : (k : ℕ) (s line t : List ℕ) (next : List ℕ) (more : List (List ℕ)) → cut_at LF s ≡ line ∷ next ∷ more → s ≡ line ++ LF ∷ t
    → (r : Option CompletedTrial) → line_of line ≡ r → (x : Export) → Read (suc k) t x → Read k s (after k r x)
read-line k s line t next more q e (Some d) r (well ts) w =
    let p = line-back line d r in (
      p.0 ∷ w.0,
      (
        (p.1.0, w.1.0),
        e ∙ ap (λ (y : List ℕ). y ++ LF ∷ t) p.1.1 ∙ sym (line_before p.0 t) ∙ ap (λ (y : List ℕ). line_text p.0 ++ y) w.1.1,
        ap (λ (y : CompletedTrial). y ∷ ts) p.1.2 ∙ ap (λ (y : List CompletedTrial). meant p.0 ∷ y) w.1.2,
      ),
    )
read-line k s line t next more q e (Some d) r (malformed n) w =
    let p = line-back line d r in (
      p.0 ∷ w.0,
      w.1,
      (
        (p.1.0, w.2.0),
        e ∙ ap (λ (y : List ℕ). y ++ LF ∷ t) p.1.1 ∙ sym (line_before p.0 t) ∙ ap (λ (y : List ℕ). line_text p.0 ++ y) w.2.1
            ∙ sym (append_assoc (line_text p.0) (text_of w.0) w.1),
        w.2.2,
        omega (arith, w.2.3),
      ),
    )
read-line k s line t next more q e None r x w = (
  [],
  s,
  (
    tt,
    refl,
    record {
      something = λ h. some-text line (sym e ∙ h);
      no_line = λ p rest l h.
          let b = begins s p rest l h in
          let same : line ≡ body_text p = cc in
          let two : None ≡ Some (meant p) = sym r ∙ ap line_of same ∙ line_taken p l in
          cc;
    },
    omega arith,
  ),
)
  where
    some-text : (y : List ℕ) → y ++ LF ∷ t ≡ [] → ⊥
    some-text [] h = cc
    some-text (c ∷ cs) h = cc

read_back : (k : ℕ) (pieces : List (List ℕ)) (s : List ℕ) → cut_at LF s ≡ pieces → Read k s (lines_from k pieces)
unfolding lines_from
read_back k [] s q = absurd (some-piece s q)
read_back k (last ∷ []) s q = read-last k s last q (subst (λ (ps : List (List ℕ)). CutBack LF ps s) q (cut-back LF s))
read_back k (line ∷ next ∷ more) s q =
    let b = subst (λ (ps : List (List ℕ)). CutBack LF ps s) q (cut-back LF s) in
    read-line k s line b.0 next more q b.1.0 (line_of line) refl (lines_from (suc k) (next ∷ more)) (read_back (suc k) (next ∷ more) b.0 b.1.1)

-- ---- the theorems
module _ (text : List ℕ) where
  abbrev pieces : List (List ℕ)
  pieces = cut_at LF text

  -- THE GRAMMAR: these texts are read, and so
  pub accepted-exactly : (ts : List CompletedTrial) → (export_of text ≡ well ts) ↔ Accepted text ts
  unfolding export_of lines_from cut_at
  accepted-exactly ts = (
    λ e. subst (Read 1 text) e (read_back 1 pieces text refl),
    λ a.
        ap (λ (s : List ℕ). lines_from 1 (cut_at LF s)) (a.1.1 ∙ sym (append-nil (text_of a.0))) ∙ lines-read 1 a.0 [] a.1.0
        ∙ ap well (append-nil (map meant a.0) ∙ sym a.1.2),
  )

  -- every other text is refused by 14, with the number of the line at which it leaves the grammar
  pub malformed-exactly : (k : ℕ) → (export_of text ≡ malformed k) ↔ MalformedAt text k
  unfolding export_of
  malformed-exactly k = (
    λ e. subst (Read 1 text) e (read_back 1 pieces text refl),
    λ m.
        ap (λ (s : List ℕ). lines_from 1 (cut_at LF s)) m.2.1 ∙ lines-read 1 m.0 m.1 m.2.0
        ∙ ap (behind (map meant m.0)) (no-line-read (length m.0 + 1) m.1 m.2.2) ∙ ap malformed (sym m.2.3),
  )
