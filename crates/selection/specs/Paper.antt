-- The paper first: R. Storn and K. Price, Differential Evolution, 1997, its selection. Step 6's follows the Rust; proofs/Paper says where the two part.
use Rattle.std.specs.Prelude.{cond, Float}
use Rattle.std.specs.Float.Ieee.{lt}
use Rattle.candidates.specs.declared.Candidate.{Candidate}
use Rattle.evolution.specs.declared.Member.{Member}

-- the trial vector c with the result r takes its parent's place if it "yields a smaller cost function value"
unfoldable pub paper_survivor : Member → Candidate → Float → Member
paper_survivor p c r = cond (lt r p.value) (record { candidate = c; value = r }) p
