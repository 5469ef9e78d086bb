use Rattle.std.proofs.Common.{ℕ, List, [], ◌∷◌, length, min, sym, ap, ◌∙◌, subst, arith, Bor}
use Rattle.std.proofs.lemmas.Grind.{common_steps}
use Rattle.std.proofs.lemmas.List.{map-append}
use Rattle.printed.proofs.Chunks.{Cut, cut-more}
use Rattle.printed.proofs.rows.RowsDisplay.fmt.Goals as goal

pub loop-row-preserved : goal.loop-row-preserved
loop-row-preserved g c =
    let l = c.loop-row in
    let i = l.invariant in
    let s = c.in-Some.ensures.steps in
    let rest = l.row-iterator.rest.now in
    let row = c.in-Some.row in record {
      size = s.0 ∙ i.size;
      cut = subst (λ (rows : List (List ℕ)). Cut c.args.self.now.0.now rows c.next.new.self.rest.now)
          (sym (map-append (λ (r : Bor (List ℕ)). r.now) l.yielded (row ∷ [])))
          (cut-more _ _ rest i.cut row.now _ s.1.0 (s.1.1 ∙ ap (λ (n : ℕ). min n (length rest)) i.size) s.1.2);
      written = grind (arith, common_steps);
    }
