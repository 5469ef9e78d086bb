-- Dimensions opened one after the other: where all so far name cases, whether all do is whether the rest do.
use Rattle.std.proofs.Common.{◌≡◌, ℕ, ◌+◌, ◌<◌, Bool, true, List, length, drop, slice_index_or, refl, ap, ◌∙◌}
use Rattle.std.specs.List.{list_all}
use Rattle.std.proofs.lemmas.List.{drop_more}

module _ {A : Type 0} (known : A → Bool) (dims : List A) (i : ℕ) where
  pub known-next : (d : A) → i < length dims → known (slice_index_or dims i d) ≡ true → list_all known (drop i dims) ≡ list_all known (drop (i + 1) dims)
  known-next d l k = ap (list_all known) (drop_more dims i d l) ∙ rw k refl
