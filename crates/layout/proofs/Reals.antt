-- The doubles of the marks: a literal has the bits of its whole number.
use Rattle.std.proofs.Common.{◌≡◌, refl}
use lib.Ieee.{of_bits, of_int, binary64}
use Rattle.layout.specs.Marks.{real}

pub one-is : of_bits binary64 4607182418800017408 ≡ real 1
unfolding of_bits of_int
one-is = refl

pub two-is : of_bits binary64 4611686018427387904 ≡ real 2
unfolding of_bits of_int
two-is = refl

pub three-is : of_bits binary64 4613937818241073152 ≡ real 3
unfolding of_bits of_int
three-is = refl

pub seven-is : of_bits binary64 4619567317775286272 ≡ real 7
unfolding of_bits of_int
seven-is = refl

pub eight-is : of_bits binary64 4620693217682128896 ≡ real 8
unfolding of_bits of_int
eight-is = refl

pub ruleset reals = (one-is, two-is, three-is, seven-is, eight-is)
