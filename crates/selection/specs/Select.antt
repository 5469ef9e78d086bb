-- Step 6: what each slot holds after a closing.
use Rattle.std.specs.Prelude.{cond, List, [], ◌∷◌, Float}
use Rattle.std.specs.Float.Ieee.{le}
use Rattle.candidates.specs.declared.Candidate.{Candidate}
use Rattle.evolution.specs.declared.Member.{Member}

-- "The leaf that judges hands back whichever of the two lent rows stays": the trial's where its result is at most the parent's
unfoldable pub judged : List Float → List Float → Float → Float → List Float
judged parent trial parent_value trial_value = cond (le trial_value parent_value) trial parent

-- "a later one replaces the parent when the result is at most the parent's (the paper: smaller)": vector, choices and value
unfoldable pub survivor_of : Member → Candidate → Float → Member
survivor_of p c r = cond (le r p.value) (record { candidate = c; value = r }) p

-- slot by slot
unfoldable pub selected : List Member → List Candidate → List Float → List Member
selected [] cs rs = []
selected (p ∷ ps) [] rs = []
selected (p ∷ ps) (c ∷ cs) [] = []
selected (p ∷ ps) (c ∷ cs) (r ∷ rs) = survivor_of p c r ∷ selected ps cs rs

-- "The first closing stores candidates and values"
unfoldable pub stored : List Candidate → List Float → List Member
stored [] rs = []
stored (c ∷ cs) [] = []
stored (c ∷ cs) (r ∷ rs) = record { candidate = c; value = r } ∷ stored cs rs
