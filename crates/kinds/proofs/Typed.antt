-- What the types say, as the crate state has it: arrays of their length.
use native.Mathlib.Omega.{arith}
use Rattle.candidates.specs.declared.Candidate.{Candidate}
use Rattle.state.specs.declared.State.{State}
use Rattle.state.proofs.Measured.{Measured, Sized}
use Rattle.kinds.specs.Typed.{TypedCandidate, TypedState}

pub sized_of : (c : Candidate) → TypedCandidate c → Sized c
sized_of c t = record { x = t.x; choices = t.choices }

pub measured-of : (s : State) → TypedState s → Measured s
measured-of s p =
    record {
      dims = p.dims_length;
      candidates = p.candidates_length;
      parents = p.parents_length;
      trials = p.trials_length;
      candidates_sized = λ c m. sized_of c (p.candidates c m);
      parents_sized = λ y m. sized_of y.candidate (p.parents y m).0;
      closed = let h = p.closed in omega arith;
      idle = let h = p.idle in omega arith;
    }
