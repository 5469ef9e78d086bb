-- What an iterator of entries gives is known, and so is what is made of it.
use Rattle.std.proofs.Common.{◌≡◌, List, Option, ap, sym, ◌∙◌}
use Rattle.std.specs.Iterator.{Drains}
use Rattle.std.proofs.lemmas.List.{map-id}
use Rattle.std.proofs.lemmas.Iterator.{YieldsList, items_from_drains}
use Rattle.history.specs.declared.CompletedTrial.{CompletedTrial}

pub told : {S X : Type 0} {steps : S → Option CompletedTrial → S → Type 0} {s : S} {all : List CompletedTrial} (f : List CompletedTrial → X) (r : X)
    → (es : List CompletedTrial) × Drains steps s es × (r ≡ f es) → YieldsList steps (λ x. x) s all → r ≡ f all
told f r (es, (u, (t, ran, ended)), is) gives = is ∙ ap f (sym (map-id es) ∙ items_from_drains es (t, ran, λ _. (u, ended)) gives)
