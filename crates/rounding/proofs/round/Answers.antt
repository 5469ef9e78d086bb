-- `round` meets its contract: a NaN and what is whole already stay; of the rest the size is rounded, and the pattern's sign goes back on.
use Rattle.std.proofs.Common.{◌≡◌, ℕ, ◌-◌, ◌^◌, ◌<◌, min, Bool, true, sym, refl, ap, ◌∙◌, le-leb, rules}
use lib.Ieee.{Float, nan, inf, fin, is_nan, binary64, round, neg, to_bits, of_bits, of_int, fits}
use borrow.Author.Tests.{lt-leb}
use Rattle.rounding.specs.Round.{round_away, whole_size}
use Rattle.rounding.proofs.Negated.{neg-round}
use Rattle.rounding.proofs.Patterns.{sign, exponent, away-bits, keep-bits, under-bits, own, own-no-nan}
use Rattle.rounding.proofs.round.Goals as goal

nan-stays : (x : Float) → is_nan x ≡ true → x ≡ round_away x
unfolding is_nan round_away
nan-stays nan e = refl
nan-stays (inf s) e = cc
nan-stays (fin s m x) e = cc

-- what is rounded, with the sign of the pattern's highest digit
rounded : (x : Float) (r : ℕ) → fits binary64 x ≡ true → exponent (to_bits binary64 x) < 1075 → r ≡ min (whole_size (of_bits binary64 (to_bits binary64 x))) (2 ^ 64 - 1) → round_away x ≡ round binary64 (sign (to_bits binary64 x)) r 1
rounded x r f h e =
    let b = to_bits binary64 x in
    ap round_away (own x f)
    ∙ away-bits b h
    ∙ ap (λ (n : ℕ). round binary64 (sign b) n 1) (sym (e ∙ under-bits b h))

pub returns-then-is_nan : goal.returns-then-is_nan
returns-then-is_nan c = nan-stays c.args.x (search rules)

pub returns-then-bits-ge1075 : goal.returns-then-bits-ge1075
returns-then-bits-ge1075 c =
    let x = c.args.x in
    let o = own x c.well_formed.0.1 in
    o ∙ sym (keep-bits (to_bits binary64 x) c.if-bits-ge1075.true) ∙ ap round_away (sym o)

pub size_of-requires : goal.size_of-requires
size_of-requires c = own-no-nan _ c.well_formed.0.1 (search rules)

pub returns-then-bits-ge-SIGN : goal.returns-then-bits-ge-SIGN
unfolding of_int
returns-then-bits-ge-SIGN c =
    ap neg c.nearest_u64_to_f64-r.ensures
    ∙ neg-round binary64 c.size_of.result 1
    ∙ ap (λ (b : Bool). round binary64 b c.size_of.result 1) (sym (le-leb _ _ c.if-bits-ge-SIGN.true))
    ∙ sym (rounded c.args.x c.size_of.result c.well_formed.0.1 c.if-bits-ge1075.false c.size_of.ensures)

pub returns-else-bits-ge-SIGN : goal.returns-else-bits-ge-SIGN
unfolding of_int
returns-else-bits-ge-SIGN c =
    c.nearest_u64_to_f64-r.ensures
    ∙ ap (λ (b : Bool). round binary64 b c.size_of.result 1) (sym (lt-leb _ _ c.if-bits-ge-SIGN.false))
    ∙ sym (rounded c.args.x c.size_of.result c.well_formed.0.1 c.if-bits-ge1075.false c.size_of.ensures)
