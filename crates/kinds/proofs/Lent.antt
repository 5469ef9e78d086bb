-- What the types say of a State that a function is lent, by a reference.
use mathlib.Core.List.{List}
use borrow.Author.Rules.{rules}
use borrow.Struct.Parts.{StructFacts}
use mir.Val.{Val}
use denote.Laws.{Is}
use Rattle.candidates.specs.contracts.Candidate as C
use Rattle.candidates.specs.declared.Candidate.{Candidate}
use Rattle.evolution.specs.contracts.Member as M
use Rattle.evolution.specs.declared.Member.{Member}
use Rattle.state.specs.declared.State.{State}
use Rattle.state.specs.contracts.State as S
use Rattle.state.proofs.State.TheLaws as L
use Rattle.state.proofs.Measured.{Sized, Measured}
use Rattle.kinds.proofs.Types.{each-field}

sized : (c : Candidate) (vs : List Val) → Is C.the_row c vs → Sized c
sized c vs p = record { x = search rules; choices = search rules }

pub measured-lent : (s : State) → StructFacts S.the_type L.the_maybe s → Measured s
measured-lent s f =
    let candidates = f.1.1.1.1.1.1 in
    let parents = candidates.1 in
    record {
      dims = search rules;
      candidates = search rules;
      parents = search rules;
      trials = search rules;
      candidates_sized = each-field C.the_row Sized sized s.candidates _ candidates.0.1.1;
      parents_sized = each-field M.the_row (λ (m : Member). Sized m.candidate) (λ m us q. sized m.candidate _ q.1.1.0) s.parents _ parents.0.1.1;
      closed = search rules;
      idle = search rules;
    }
