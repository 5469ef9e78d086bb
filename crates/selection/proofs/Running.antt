-- The running best, a value at a time: the values not yet looked at decide, from the least so far.
use Rattle.std.proofs.Common.{◌≡◌, ℕ, ◌+◌, ◌<◌, ◌≤◌, false, cond, List, length, get_or, drop, Bor, sym, ap, ◌∙◌}
use Rattle.std.specs.Prelude.{Option, Some, None, MatchOption}
use Rattle.std.specs.List.{HoldsAt}
use lib.Ieee.{Float, nan, inf, lt}
use lib.ListN.{length-map, drop_of_length-le, get_or-map, get_or-eq_default}
use Rattle.std.proofs.lemmas.List.{get_or_default}
use Rattle.candidates.proofs.Lists.{next-drop}
use Rattle.evolution.specs.Mutant.{no_member}
use Rattle.evolution.specs.declared.Member.{Member}
use Rattle.selection.specs.Best.{values, best_from}

module _ (ps : List Member) (i : ℕ) (v : Float) (b : ℕ) where
  as_many : length (values ps) ≡ length ps
  as_many = length-map ps _

  pub best_more : i < length ps → best_from (drop i (values ps)) i v b
      ≡ cond (lt (get_or ps i no_member).value v) (best_from (drop (i + 1) (values ps)) (i + 1) (get_or ps i no_member).value i) (best_from (drop (i + 1) (values ps)) (i + 1) v b)
  unfolding best_from
  best_more h = rw (next-drop (values ps) i nan (rw as_many h)) (rw (get_or-map (λ (p : Member). p.value) ps i no_member))

  pub best_all : length ps ≤ i → best_from (drop i (values ps)) i v b ≡ b
  unfolding best_from
  best_all h = rw (drop_of_length-le (values ps) {i = i} (rw as_many h))

-- the read of the least value, in bounds or not
pub least-read : (ps : List Member) (b : ℕ) (o : Option (Bor Member)) (r : Float) (Q : Bor Member → Type 0) → ((x : Bor Member) → Q x → r ≡ x.now.value) → MatchOption o (r ≡ inf false) Q
    → MatchOption o (length ps ≤ b) (λ (x : Bor Member). (b < length ps) × HoldsAt (λ (y : Member). x.now ≡ y) ps b) → r ≡ get_or (values ps) b (inf false)
least-read ps b None r Q q h k = h ∙ sym (get_or-eq_default (values ps) (inf false) (rw (length-map ps _) k))
least-read ps b (Some x) r Q q h k =
    q x h
    ∙ ap (λ (p : Member). p.value) (k.1 no_member)
    ∙ sym (get_or_default (values ps) b (inf false) nan (rw (length-map ps _) k.0) ∙ get_or-map (λ (p : Member). p.value) ps b no_member)
