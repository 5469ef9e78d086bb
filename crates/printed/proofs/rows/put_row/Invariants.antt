-- What the parts so far write, and what is left.
use Rattle.std.proofs.Common.{◌≡◌, ◌++◌, map}
use Rattle.std.specs.List.{concat, flat_map}
use Rattle.std.specs.Fmt.{HasWritten, IsPlainFormatter}
use Rattle.printed.specs.Rows.{hex_text}
use Rattle.printed.proofs.rows.put_row.Given as goal

abbrev pub invariant-loop-part : goal.invariant-loop-part
invariant-loop-part g l =
    let come = concat (map (λ part. part.now) l.yielded) in record {
      size : l.part-iterator.size ≡ 32;
      cut : come ++ l.part-iterator.rest.now ≡ l.bytes;
      written : IsPlainFormatter l.initial.f → HasWritten g.W.Write.write_str_gives l.initial.f (flat_map (hex_text 2) come) l.f;
    }
