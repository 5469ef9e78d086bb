-- What the candidates so far write.
use Rattle.std.proofs.Common.{take}
use Rattle.std.specs.List.{flat_map}
use Rattle.std.specs.Fmt.{HasWritten, IsPlainFormatter}
use Rattle.printed.specs.Whole.{dims_in, candidate_text}
use Rattle.printed.proofs.whole.put_candidates.Given as goal

abbrev pub invariant-loop-candidate : goal.invariant-loop-candidate
invariant-loop-candidate g l =
    IsPlainFormatter l.initial.f → HasWritten g.W.Write.write_str_gives l.initial.f (flat_map (candidate_text (dims_in l.state)) (take l.candidate-index l.candidate-items)) l.f
