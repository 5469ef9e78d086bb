use Rattle.std.proofs.Common.{◌≡◌, ℕ, ◌+◌, ◌-◌, sym, ap, ◌∙◌, subst, arith}
use Rattle.records.specs.Chain.{walk, Walks}
use Rattle.records.specs.Tables.{lay, laid_on}
use Rattle.records.proofs.Following.{left, walks-on, lays, done}
use Rattle.records.proofs.chain.collect.Goals as goal

pub loop-init : goal.loop-init
loop-init c =
    let z : c.args.count - 0 ≡ c.args.count = omega arith in
    (subst (λ (n : ℕ). Walks c.args.file.now n 0) (sym z) c.requires, λ i. laid_on c.args.kind (c.new-table.ensures i) (walk c.args.file.now (z i) 0))

pub piece_at-requires : goal.piece_at-requires
piece_at-requires c = (walks-on _ _ _ _ (left _ c.loop.counter (omega arith)) c.loop.invariant.0).0

pub next_at-k-requires : goal.next_at-k-requires
next_at-k-requires c = (walks-on _ _ _ _ (left _ c.loop.counter (omega arith)) c.loop.invariant.0).0

pub loop-preserved : goal.loop-preserved
loop-preserved c =
    let one = left c.args.count c.loop.counter (omega arith) in
    let f = c.args.file.now in (
      subst (λ (k : ℕ). Walks f (c.args.count - (c.loop.counter + 1)) k) (sym c.next_at-k.ensures) (walks-on f _ _ _ one c.loop.invariant.0).1,
      lays f _ _ _ one c.args.kind _ c.loop.table _ _ c.next_at-k.ensures (c.lay.ensures ∙ ap (lay c.args.kind c.loop.table) c.piece_at.ensures) c.loop.invariant.1,
    )

pub returns : goal.returns
returns c = done _ _ _ _ _ (omega arith) c.loop.invariant.1
