-- `read` meets its contract: the bytes of a part of the file, with zeros up to eight.
use Rattle.std.proofs.Common.{arith, sym, ◌∙◌, subst, ◌<◌, ◌^◌, ℕ}
use Rattle.records.proofs.Reading.{read_field, field_small}
use Rattle.records.proofs.bytes.read.Goals as goal

pub returns : goal.returns
returns c =
    let is = c.from_le_bytes.ensures ∙ read_field c.args.file.now _ c.args.at c.args.width _ c.requires.0 c.requires.1 (omega arith) c.copy_from_slice.ensures.after in
    (is, subst (λ (n : ℕ). n < 256 ^ c.args.width) (sym is) (field_small c.args.file.now c.args.at c.args.width (λ i. omega (arith, c.type_inv.file i))))
