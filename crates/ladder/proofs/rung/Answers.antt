-- `rung` meets its contract: p and 31 - p / 256 octaves are 7,936 and p's place in its octave.
use Rattle.std.proofs.Common.{◌≡◌, ℕ, ◌+◌, ◌-◌, ◌*◌, ◌/◌, ◌%◌, ◌^◌, ap, ◌∙◌, arith}
use Rattle.ladder.specs.Rungs.{rung}
use Rattle.ladder.proofs.Entries.{entry-is}
use Rattle.ladder.proofs.Octaves.{rung-less}
use Rattle.ladder.proofs.rung.Goals as goal

pub returns : goal.returns
returns c =
    let p = c.args.p in
    let k = 31 - p / 256 in
    let place : 7936 + p % 256 ≡ p + 256 * k = omega (arith, c.requires) in
    let entry = entry-is c.table.result.now c.table.ensures (p % 256) (omega arith) in
    ap (λ (r : ℕ). r / 2 ^ k) (c.from.ensures ∙ entry ∙ ap rung place) ∙ rung-less p k
