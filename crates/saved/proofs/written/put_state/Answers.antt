use Rattle.std.proofs.Common.{ℕ, sym, ap, ◌+◌, ◌∙◌, subst, arith}
use Rattle.kinds.specs.Kinds.{kind_words}
use Rattle.saved.proofs.Wrote.{Sofar, numbered, sofar-first, sofar-room, sofar-length, sofar-next, sofar-last}
use Rattle.saved.proofs.written.put_state.Goals as goal

pub loop-kind-init : goal.loop-kind-init
loop-kind-init c = sofar-first c.args.state.now c.args.count c.args.file.now c.requires.1 c.requires.2

pub put_section-requires : goal.put_section-requires
put_section-requires c =
    let n = numbered c.loop-kind.kind-index _ (omega arith) in
    let ws = c.as_slice-words.ensures ∙ c.section_of-section.ensures ∙ ap (kind_words c.args.state.now) n in
    let long = sofar-length c.args.state.now c.args.count c.args.file.now c.requires.1 c.requires.2 (c.loop-kind.kind-index + 1) c.loop-kind.k _ _ (omega arith) c.loop-kind.invariant ws in
    let room = sofar-room c.args.state.now c.args.count c.args.file.now c.requires.1 c.requires.2 (c.loop-kind.kind-index + 1) c.loop-kind.k _ _ (omega arith) c.loop-kind.invariant ws in
    omega (arith, long, room, c.requires.2)

pub overflow_add-k : goal.overflow_add-k
overflow_add-k c =
    let n = numbered c.loop-kind.kind-index _ (omega arith) in
    let ws = c.as_slice-words.ensures ∙ c.section_of-section.ensures ∙ ap (kind_words c.args.state.now) n in
    let room = sofar-room c.args.state.now c.args.count c.args.file.now c.requires.1 c.requires.2 (c.loop-kind.kind-index + 1) c.loop-kind.k _ _ (omega arith) c.loop-kind.invariant ws in
    omega (arith, room, c.requires.2)

pub loop-kind-preserved : goal.loop-kind-preserved
loop-kind-preserved c =
    let n = numbered c.loop-kind.kind-index _ (omega arith) in
    let ws = c.as_slice-words.ensures ∙ c.section_of-section.ensures ∙ ap (kind_words c.args.state.now) n in
    let next = sofar-next c.args.state.now c.args.count c.args.file.now c.requires.1 c.requires.2 (c.loop-kind.kind-index + 1) c.loop-kind.k _ _ (omega arith) c.loop-kind.invariant ws _ _ (c.number.ensures ∙ n) c.put_section.ensures in
    subst (λ (m : ℕ). Sofar c.args.state.now c.args.count c.args.file.now (c.loop-kind.kind-index + 1 + 1) (c.loop-kind.k + m) c.put_section.new.file) (sym c.records_for-k.ensures) next

pub returns : goal.returns
returns c = sofar-last c.args.state.now c.args.count c.args.file.now c.requires.1 c.requires.2 (c.loop-kind.kind-index + 1) c.loop-kind.k _ (omega arith) c.loop-kind.invariant
