use Rattle.std.proofs.Common.{◌≡◌, ℕ, List, [], ◌∷◌, ◌++◌, sym, ap, ◌∙◌, arith, Bor, append_assoc, append-nil, map}
use Rattle.std.proofs.lemmas.Grind.{common_steps, flat_map-append}
use Rattle.std.proofs.lemmas.List.{map-append}
use Rattle.std.proofs.lemmas.List.Folds.{concat-append}
use Rattle.std.specs.List.{concat}
use Rattle.printed.proofs.rows.put_row.Goals as goal

pub loop-part-preserved : goal.loop-part-preserved
loop-part-preserved g c =
    let l = c.loop-part in
    let i = l.invariant in
    let s = c.in-Some.ensures.steps in
    let now = λ (r : Bor (List ℕ)). r.now in
    let come = concat (map now l.yielded) in
    let rest = c.next.new.self.rest.now in
    let part = c.in-Some.part in
    let more : concat (map now (l.yielded ++ part ∷ [])) ≡ come ++ part.now =
    ap concat (map-append now l.yielded (part ∷ [])) ∙ concat-append (map now l.yielded) (part.now ∷ [])
    ∙ ap (λ (k : List ℕ). come ++ k) (append-nil part.now) in record {
      size = s.0 ∙ i.size;
      cut = ap (λ (k : List ℕ). k ++ rest) more ∙ append_assoc come part.now rest ∙ ap (λ (k : List ℕ). come ++ k) (sym s.1.0) ∙ i.cut;
      written = rw (more, flat_map-append) (grind (arith, common_steps));
    }
