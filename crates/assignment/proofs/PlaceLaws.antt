-- The place of a trial is the first at which its number stands, or the count of trials.
use Rattle.std.proofs.Common.{◌≡◌, arith, ℕ, suc, ◌+◌, length, List, map, position, ◌==◌, unwrap_or, refl}
use Rattle.std.proofs.lemmas.List.Recursion.{is_position_or_len}
use Rattle.std.proofs.lemmas.List.Sums.{prefix_len-le-length}
use Rattle.std.proofs.lemmas.Bool.Decides.{nat_tests}
use Rattle.std.specs.List.{position_or_len}
use Rattle.ledger.specs.Assignment.{place_in}
use Rattle.state.specs.declared.TrialProgress.{TrialProgress}
use Rattle.assignment.specs.Raw.{number_in}

place-first : (n : ℕ) (ts : List TrialProgress) → place_in (map number_in ts) n ≡ position_or_len (λ t. t.number == n) ts
unfolding place_in
place-first n = is_position_or_len (λ ts. place_in (map number_in ts) n) (λ t. t.number == n) refl (λ t ts. let e : suc (place_in (map number_in ts) n) ≡ 1 + place_in (map number_in ts) n = omega arith in rw e)

pub place-position : (ts : List TrialProgress) (n : ℕ) → place_in (map number_in ts) n ≡ unwrap_or (position (λ t. t.number == n) ts) (length ts)
place-position ts n = grind (arith, nat_tests, place-first, prefix_len-le-length)

pub ruleset positions = (place-position)
