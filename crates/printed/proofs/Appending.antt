-- What was written to a sink after several writes is what was written before, and what they wrote.
use Rattle.std.proofs.Common.{ℕ, List, [], ◌∷◌, ◌++◌, Option, Some, None, sym, ap, ◌∙◌, subst, append_assoc, append-nil}
use Rattle.std.specs.List.{FoldsTo, concat}
use Rattle.std.specs.Fmt.{WritesInCalls}
use Rattle.std.specs.Io.KnownBytes.{Appends}
use Rattle.printed.specs.Sunk.{Sunk}

both : (u v w : Option (List ℕ)) (a b : List ℕ) → Appends u v a → Appends v w b → Appends u w (a ++ b)
both None v w a b p q = tt
both (Some x) None w a b p q = absurd p
both (Some x) (Some y) None a b p q = absurd q
both (Some x) (Some y) (Some z) a b p q = q ∙ ap (λ (l : List ℕ). l ++ b) p ∙ append_assoc x a b

nothing : (u : Option (List ℕ)) → Appends u u []
nothing None = tt
nothing (Some x) = sym (append-nil x)

module _ {W : Type 0} where
  abbrev took : Sunk W → List ℕ → Sunk W → Type 0
  took old text new = Appends old.written new.written text

  all : (parts : List (List ℕ)) (u w : Sunk W) → FoldsTo took u parts w → Appends u.written w.written (concat parts)
  all [] u w f = subst (λ (v : Sunk W). Appends u.written v.written []) f (nothing u.written)
  all (part ∷ parts) u w (v, first, rest) = both u.written v.written w.written part (concat parts) first (all parts v w rest)

  pub appended : (u : Sunk W) (text : List ℕ) (w : Sunk W) → WritesInCalls took u text w → Appends u.written w.written text
  appended u text w h = rw (← h.whole) (all h.parts u w h.calls)
