-- What the one test of the table says of each entry: it is R(7,936 + i). And the table never falls, since R does not.
use Rattle.std.proofs.Common.{◌≡◌, ℕ, ◌+◌, ◌^◌, ◌<◌, T, Bool, eqb, leb, ltb, leb→le, ltb→lt, List, length, get_or, sym, subst, eqb→eq}
use lib.Ieee.Fits.{and_l, and_r}
use Rattle.rounding.specs.Table.{every}
use Rattle.rounding.proofs.Table.{at}
use Rattle.ladder.specs.Rungs.{WholePart, rung}
use Rattle.ladder.specs.Table.{has_rule, is_ladder_table}
use Rattle.ladder.proofs.Rungs.{only}

module _ (table : List ℕ) (t : T (is_ladder_table table)) where
  pub long : length table ≡ 256
  unfolding is_ladder_table
  long = let sized : Bool = eqb (length table) 256 in let ruled : Bool = every has_rule 0 table in eqb→eq (length table) 256 (and_l sized ruled t)

  pub entry-whole : (i : ℕ) → i < 256 → WholePart (7936 + i) (get_or table i 0)
  unfolding is_ladder_table
  entry-whole i h =
      let sized : Bool = eqb (length table) 256 in
      let ruled : Bool = every has_rule 0 table in
      let e : ℕ = get_or table i 0 in
      let most : Bool = leb (e ^ 256) (2 ^ (7936 + i)) in
      let least : Bool = ltb (2 ^ (7936 + i)) ((e + 1) ^ 256) in
      let holds : T (has_rule i e) = at has_rule table (and_r sized ruled t) i (subst (λ (n : ℕ). i < n) (sym long) h) in
      record { at_most = leb→le _ _ (and_l most least holds); below = ltb→lt _ _ (and_r most least holds) }

  pub entry-is : (i : ℕ) → i < 256 → get_or table i 0 ≡ rung (7936 + i)
  entry-is i h = only (7936 + i) (get_or table i 0) (entry-whole i h)
