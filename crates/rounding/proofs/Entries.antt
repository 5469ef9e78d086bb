-- What the one test of the table of powers of two says of each entry.
use Rattle.std.proofs.Common.{◌≡◌, ℕ, ◌^◌, ◌<◌, Bool, T, eqb, List, length, get_or, sym, subst, eqb→eq}
use lib.Ieee.Fits.{and_l, and_r}
use Rattle.rounding.specs.Powers.{powers_of_two}
use Rattle.rounding.specs.Table.{every}
use Rattle.rounding.proofs.Table.{at}

pub entry-is-power : (table : List ℕ) → T (powers_of_two table) → (k : ℕ) → k < 64 → get_or table k 0 ≡ 2 ^ k
unfolding powers_of_two
entry-is-power table t k h =
    let sized : Bool = eqb (length table) 64 in
    let ruled : Bool = every (λ i x. eqb x (2 ^ i)) 0 table in
    let n : length table ≡ 64 = eqb→eq (length table) 64 (and_l sized ruled t) in
    eqb→eq (get_or table k 0) (2 ^ k) (at (λ i x. eqb x (2 ^ i)) table (and_r sized ruled t) k (subst (λ (m : ℕ). k < m) (sym n) h))

pub ruleset entries = (entry-is-power)
