-- What the rows so far write, and what is left: the laws of `Chunks`.
use Rattle.std.proofs.Common.{◌≡◌, map}
use Rattle.std.specs.List.{flat_map}
use Rattle.std.specs.Fmt.{HasWritten, IsPlainFormatter}
use Rattle.printed.specs.Rows.{row_text}
use Rattle.printed.proofs.Chunks.{Cut}
use Rattle.printed.proofs.rows.RowsDisplay.fmt.Given as goal

abbrev pub invariant-loop-row : goal.invariant-loop-row
invariant-loop-row g l =
    let rows = map (λ row. row.now) l.yielded in record {
      size : l.row-iterator.size ≡ 32;
      cut : Cut l.self.0.now rows l.row-iterator.rest.now;
      written : IsPlainFormatter l.initial.f → HasWritten g.W.Write.write_str_gives l.initial.f (flat_map row_text rows) l.f;
    }
