-- Whether each number that stands for a case names one, and what is opened where it does.
use Rattle.std.specs.Prelude.{Bool, ◌&&◌, ◌||◌, cond, eqb, leb, Result, Ok, Err}
use Rattle.distribution.specs.declared.Refusal.{Refusal}
use Rattle.distribution.specs.declared.Refusal.TheVariants.{StateNotSound}
use Rattle.ledger.specs.Words.{all}
use Rattle.state.specs.declared.State.{State}
use Rattle.edge.specs.declared.flat.Unnamed.{Unnamed}
use Rattle.edge.specs.declared.flat.DeSetup.{DeSetup}
use Rattle.edge.specs.declared.flat.DeDistribution.{DeDistribution}
use Rattle.edge.specs.declared.flat.DeState.{DeState}
use Rattle.edge.specs.declared.flat.Opened.{Opened}
use Rattle.edge.specs.Flat.{opened_of, open_of}

-- what numbers stand for, where they name cases
abbrev pub named : {A : Type 0} → Bool → A → Result A Unnamed
named known x = cond known (Ok x) (Err (record {}))

unfoldable pub known_setup : DeSetup → Bool
known_setup s = leb s.strategy 2 && leb s.sized 1 && leb s.bounds_rule 1

-- a choice has neither scale nor step
unfoldable pub known_distribution : DeDistribution → Bool
known_distribution d = eqb d.kind 3 || ((eqb d.kind 1 || eqb d.kind 2) && (leb d.log_scale 1 && leb d.stepped 1))

-- the state, with whether its dimensions are known
unfoldable pub known_with : DeState → Bool → Bool
known_with s dims = known_setup s.setup && leb s.named 1 && leb s.discovered 1 && dims

abbrev pub known_state : DeState → Bool
known_state s = known_with s (all known_distribution s.dims)

-- what the numbers of a state stand for; one with a number that names no case is not sound, which is refusal 0
unfoldable pub opened_in : DeState → Result Opened Refusal
opened_in f = cond (known_state f) (Ok (opened_of f)) (Err StateNotSound)

-- the state that a memory stands for, likewise
unfoldable pub opened_state : DeState → Result State Refusal
opened_state f = cond (known_state f) (Ok (open_of f)) (Err StateNotSound)
