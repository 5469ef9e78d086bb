-- One write, of all the words.
use Rattle.std.proofs.Common.{append_assoc}
use Rattle.std.proofs.Output.{has_written_of_eq}
use Rattle.printed.specs.Whole.{head_text}
use Rattle.printed.proofs.whole.put_head.Goals as goal

pub returns : goal.returns
unfolding head_text
returns g c = λ p o. has_written_of_eq _ _ _ _ _ (simp append_assoc) (c.writeln.ensures.writes p o)
