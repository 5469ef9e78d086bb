-- Behind a padded list that grows there are zeros still.
use Rattle.std.proofs.Common.{ℕ, ◌+◌, ◌-◌, ◌≤◌, ◌≡◌, List, length, slice_set, ap, sym, ◌∙◌, arith}
use Rattle.std.specs.Prelude.{drop, replicate}
use Rattle.std.proofs.lemmas.List.{drop-drop, drop-replicate, drop-set-lt}
use Rattle.std.proofs.lemmas.Slice.{drop-put_mid}
use borrow.Rule.Slice.PartMut.{put_mid}

module _ {X : Type 0} (ws : List X) (n N : ℕ) (z : X) (zeros : drop n ws ≡ replicate (N - n) z) where
  -- behind k places more
  further : (k : ℕ) → drop (n + k) ws ≡ replicate (N - (n + k)) z
  further k = sym (drop-drop k n ws) ∙ ap (drop k) zeros ∙ drop-replicate k (N - n) z ∙ ap (λ (m : ℕ). replicate m z) (omega (arith))

  -- behind an item more
  pub pushed : (x : X) → drop (n + 1) (slice_set ws n x) ≡ replicate (N - (n + 1)) z
  pushed x = drop-set-lt (n + 1) ws n x (omega (arith)) ∙ further 1

  -- behind several
  pub extended : (k : ℕ) (xs : List X) → n ≤ length ws → length xs ≡ n + k - n → drop (n + k) (put_mid n (n + k - n) ws xs) ≡ replicate (N - (n + k)) z
  extended k xs low e = drop-put_mid n (n + k - n) ws xs (n + k) (omega (arith)) low e ∙ further k
