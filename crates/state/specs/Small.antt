-- W8: "show that .. no sample call on a sound state .. makes a NaN entry", and "a state with an entry over 4e300 in size is no longer sound". It is said of all
-- entries that a state has, in use or not.
use Rattle.std.specs.Prelude.{Bool, ◌||◌, List, ◌++◌, map, Float, T}
use mathlib.Core.List.{Memᴰ}
use Rattle.std.specs.Float.Ieee.{neg, le, lt}
use Rattle.distribution.specs.Validate.{is_finite}
use Rattle.candidates.specs.declared.Candidate.{Candidate}
use Rattle.evolution.specs.declared.Member.{Member}
use Rattle.ledger.specs.Words.{All}
use Rattle.kernel.specs.Fits.{entry_limit}
use Rattle.state.specs.declared.State.{State}

-- the candidates of a state: those that trials get, and those that slots hold
abbrev pub all_candidates : State → List Candidate
all_candidates s = s.candidates ++ map (λ (p : Member). p.candidate) s.parents

-- an entry is small: no NaN, no infinity, and at most 4e300 in size
pub record Small (x : Float) : Type 0 where
  pub finite : T (is_finite x)
  pub at_least : T (le (neg entry_limit) x)
  pub at_most : T (le x entry_limit)

-- each entry of each candidate is
abbrev pub SmallEntries : State → Type 0
SmallEntries s = All (λ (c : Candidate). All Small c.x) (all_candidates s)

-- "over 4e300 in size"; NaN is over no limit, and is unsound by `sound-small` (proofs/Small)
abbrev pub over_limit : Float → Bool
over_limit x = lt entry_limit x || lt x (neg entry_limit)

-- an entry of one of the candidates is
pub record LargeEntry (s : State) : Type 0 where
  pub candidate : Candidate
  pub of : Memᴰ candidate (all_candidates s)
  pub entry : Float
  pub at : Memᴰ entry candidate.x
  pub over : T (over_limit entry)
