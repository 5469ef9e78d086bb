-- The minus is the definition's test.
use Rattle.std.proofs.Common.{◌≡◌, ◌≢◌, ℕ, List, [], ◌∷◌, get_or, refl, ne_eqb, arith, option_and_then}
use Prim.Native.Char.{code}
use Rattle.std.proofs.lemmas.Grind.{common_steps}
use Rattle.numbers.specs.Numbers.{int_of, whole_of, plain}
use Rattle.numbers.proofs.read_int.Goals as goal
use Rattle.numbers.proofs.read_int.Goals.{in_default-via-then-s-lt1, in_default-via-else-s-lt1+in_default-1}

int-plain : (s : List ℕ) → get_or s 0 0 ≢ code "-" → int_of s ≡ option_and_then plain (whole_of s)
unfolding int_of whole_of
int-plain [] h = refl
int-plain (b ∷ bs) h = rw (ne_eqb b (code "-") h) refl

pub returns-in_ok-read_whole-in_default : goal.returns-in_ok-read_whole-in_default
returns-in_ok-read_whole-in_default c =
    elim c.in_default.branch [
      | in_default-via-then-s-lt1 w ↦ grind (arith, common_steps, int-plain)
      | in_default-via-else-s-lt1+in_default-1 w ↦ grind (arith, common_steps, int-plain)
    ]
