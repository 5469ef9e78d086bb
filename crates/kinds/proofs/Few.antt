-- A kind's words fit their array.
use Prim.Native.Nat.{ℕ, ◌+◌, ◌*◌, ◌≤◌}
use native.Mathlib.Nat.{mul-le-mul}
use native.Mathlib.Omega.{arith}
use mathlib.Core.Bool.{Bool, true, false, cond}
use mathlib.Core.List.{List}
use mathlib.Core.Path.{◌≡◌, sym, subst}
use lib.Dec.{eqb}
use lib.ListN.{length}
use Rattle.state.specs.View.{candidate_count, parent_count}
use Rattle.state.specs.declared.State.{State}
use Rattle.state.proofs.Measured.{Measured}
use Rattle.kinds.specs.Kinds.{Roomy, kind_words, count_words, parents_words, candidates_words}
use Rattle.kinds.specs.Rows.{setup_words}
use Rattle.kinds.proofs.Sectioned.{dims_length, trials_length, parents_length, candidates_length}

module _ (s : State) (m : Measured s) (r : Roomy s) where
  either : (b : Bool) (x y : List ℕ) → length x ≤ 3600 → length y ≤ 3600 → length (cond b x y) ≤ 3600
  either true x y h l = h
  either false x y h l = l

  few-1 : length (setup_words s.setup) ≤ 3600
  unfolding setup_words
  few-1 = omega arith

  few-2 : length (count_words s) ≤ 3600
  unfolding count_words
  few-2 = omega arith

  few-5 : length (parents_words s) ≤ 3600
  few-5 = omega (arith, parents_length s m r, mul-le-mul r.parents (wide r.dims))
    where
      wide : {n : ℕ} → n ≤ 16 → n + 1 ≤ 17
      wide h = omega arith

  few-6 : length (candidates_words s) ≤ 3600
  few-6 = omega (arith, candidates_length s m r, mul-le-mul r.candidates r.dims)

  pub few_words : (p c : ℕ) → p ≡ parent_count s → c ≡ candidate_count s → (p * (s.n_dims + 1) ≤ 2720) × (c * s.n_dims ≤ 3584)
  few_words p c e q =
      (mul-le-mul (subst (λ (n : ℕ). n ≤ 160) (sym e) r.parents) (wide r.dims), mul-le-mul (subst (λ (n : ℕ). n ≤ 224) (sym q) r.candidates) r.dims)
    where
      wide : {n : ℕ} → n ≤ 16 → n + 1 ≤ 17
      wide h = omega arith

  pub kind-few : (kind : ℕ) → length (kind_words s kind) ≤ 3600
  unfolding kind_words
  kind-few kind =
      either (eqb kind 1) _ _ few-1
      (either (eqb kind 2) _ _ few-2
      (either (eqb kind 3) _ _ (omega (arith, dims_length s m r, r.dims))
      (either (eqb kind 4) _ _ (omega (arith, trials_length s m r, r.trials))
      (either (eqb kind 5) _ _ few-5 (either (eqb kind 6) _ _ few-6 (omega arith))))))
