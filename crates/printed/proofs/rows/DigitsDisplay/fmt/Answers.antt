use Rattle.std.proofs.Common.{◌≡◌, ℕ, List, Option, Some, subst}
use Rattle.std.specs.Fmt.{DisplaysOnOk, styled_digits_output}
use Rattle.printed.proofs.Padded.{padded-hex}
use Rattle.printed.specs.Rows.{hex_text}
use Rattle.printed.proofs.rows.DigitsDisplay.fmt.Goals as goal

pub returns-clause-writes : goal.returns-clause-writes
returns-clause-writes g c =
    let e : styled_digits_output c.in_radix.result c.laid_out.result ≡ Some (hex_text g.row.N c.args.self.now.0) = rw (c.laid_out.ensures, c.in_radix.ensures, padded-hex) in
    subst (λ (text : Option (List ℕ)). DisplaysOnOk g.W.Write.write_str_gives c.args.f.now c.write.result text c.write.new.self) e c.write.ensures.writes
