-- What the code keeps of the dimensions as they come in: what 4 to 7 say so far, and the first 17. With 17 of them 16 applies, whatever the rest are.
use Rattle.std.specs.Prelude.{ℕ, List, [], ◌∷◌, ◌++◌, take, length, ℤ, Result, Ok, ◌≡◌, All}
use Rattle.std.specs.Result.{result_and}
use Rattle.distribution.specs.declared.Distribution.{Distribution}
use Rattle.distribution.specs.Validate.{verdict_of}
use Rattle.sweep.specs.Sweep.{first_verdict, after_verdict, counted, numbers_of, left_after}
use Rattle.sweep.specs.declared.SweepRefusal.{SweepRefusal}
use Rattle.sweep.specs.declared.gathered.Gathered.{Gathered}

unfoldable pub gathered : List Distribution → Gathered
gathered ds = record { verdict = first_verdict ds; kept = take 17 ds }

-- one dimension more
unfoldable pub absorbed : Gathered → Distribution → Gathered
absorbed g d = record { verdict = result_and g.verdict (verdict_of d); kept = take 17 (g.kept ++ d ∷ []) }

-- 4 to 7 pass each dimension
abbrev pub AllValid : List Distribution → Type 0
AllValid ds = All (λ d. verdict_of d ≡ Ok tt) ds

-- where no dimension so far has a refusal, 4 to 7 pass each that is kept
abbrev pub Judged : Gathered → Type 0
Judged g = g.verdict ≡ Ok tt → AllValid g.kept

-- what is answered, and what is then in lent memory
abbrev pub answer_of : Gathered → ℕ → Result ℕ SweepRefusal
answer_of g places = after_verdict g.verdict (counted g.kept places)

abbrev pub left_by : Gathered → List ℤ → List ℤ
left_by g lent = left_after (answer_of g (length lent)) (numbers_of g.kept) lent
