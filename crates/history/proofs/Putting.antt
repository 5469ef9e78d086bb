-- One number, place by place: the first places that want it hold its value, all else is as before.
use Rattle.std.proofs.Common.{◌≡◌, ◌≢◌, ℕ, ◌+◌, ◌≤◌, Bool, true, false, ◌&&◌, List, Option, Some, length, get_or, take, refl, sym, ap, ◌∙◌, arith}
use Rattle.std.proofs.Math.ListN.{set}
use Rattle.std.specs.Prelude.{Float, eqb, ltb}
use Rattle.std.proofs.lemmas.Bool.{eq-eqb, ne_eqb}
use Rattle.std.proofs.lemmas.List.{length-take, get_or-take}
use borrow.Author.Tests.{ltb-true}
use Rattle.history.specs.Scan.{wanted, wants, wanting, put_where}
use Rattle.history.proofs.Places.{put_same, put-none, put_one, wants-in, wants-zero, wants-more, wants-miss}

-- the first k places are done
unfoldable pub filled : List ℕ → List (Option Float) → ℕ → Float → ℕ → List (Option Float)
filled ns xs m v k = put_where (wants k ns m) (Some v) xs

module _ (ns : List ℕ) (xs : List (Option Float)) (m : ℕ) (v : Float) where
  pub filled_none : xs ≡ filled ns xs m v 0
  unfolding filled
  filled_none = sym (put-none (Some v) _ xs (wants-zero ns m))

  module _ (s : List (Option Float)) (j : ℕ) (so_far : s ≡ filled ns xs m v j) where
    pub hit : get_or ns j 0 ≡ m → set s j (Some v) ≡ filled ns xs m v (j + 1)
    unfolding filled
    hit e = rw so_far (sym (put_one (Some v) _ _ xs j at_j (wants-more ns m j)))
      where
        at_j : wants (j + 1) ns m j ≡ true
        at_j = wants-in ns m (j + 1) j (omega arith) ∙ eq-eqb _ _ (sym e)

    pub miss : get_or ns j 0 ≢ m → s ≡ filled ns xs m v (j + 1)
    unfolding filled
    miss ne = so_far ∙ sym (put_same (Some v) _ _ xs same)
      where
        same : (i : ℕ) → wants (j + 1) ns m i ≡ wants j ns m i
        same = wants-miss ns m j (ne_eqb _ _ (λ z. ne (sym z)))

-- all places are done: they are as many as are wanted, and no more than there are
pub all-filled : (ns : List ℕ) (n : ℕ) (xs : List (Option Float)) (m : ℕ) (v : Float) (k : ℕ)
    → n ≡ wanted ns → k ≤ length (take n ns) → length (take n ns) ≤ k → filled (take n ns) xs m v k ≡ put_where (wanting ns m) (Some v) xs
unfolding filled
all-filled ns n xs m v k few below above = rw few (put_same (Some v) _ _ xs same)
  where
    whole : k ≡ wanted ns
    whole = omega (arith, length-take n ns)

    same : (i : ℕ) → wants k (take (wanted ns) ns) m i ≡ wants (wanted ns) ns m i
    same i = rw whole (go (ltb i (wanted ns)) refl)
      where
        go : (b : Bool) → ltb i (wanted ns) ≡ b → (b && eqb m (get_or (take (wanted ns) ns) i 0)) ≡ (b && eqb m (get_or ns i 0))
        go true z = ap (eqb m) (get_or-take (wanted ns) ns i 0 (ltb-true i (wanted ns) z))
        go false z = refl

pub ruleset putting = (filled_none, hit, miss, all-filled)
