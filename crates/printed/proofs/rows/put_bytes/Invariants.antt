-- What the bytes so far write.
use Rattle.std.proofs.Common.{◌≡◌, ◌*◌, length, take, IsAscii}
use Rattle.std.specs.List.{flat_map}
use Rattle.printed.specs.Rows.{hex_text}
use Rattle.printed.proofs.rows.put_bytes.Given as goal

abbrev pub invariant-loop-i : goal.invariant-loop-i
invariant-loop-i g l = record {
  size : length l.text ≡ 64;
  text : take (l.i * 2) l.text ≡ flat_map (hex_text 2) (take l.i l.bytes);
  ascii : IsAscii (take (l.i * 2) l.text);
}
