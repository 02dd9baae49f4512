-- By the cell, and by the answer that its words give.
use Rattle.std.proofs.Common.{ap, sym, ◌∙◌, true, false, arith}
use Rattle.worker.specs.declared.registers.Block.{Block}
use Rattle.step.proofs.Bounds.{roomy}
use Rattle.poll.proofs.Answering.{batch_fits, asked, unasked}
use Rattle.poll.proofs.poll.Goals as goal

pub overflow_add-r : goal.overflow_add-r
overflow_add-r c =
    let x = c.requires.1 in
    let e = c.load-r.ensures in
    omega (
      arith,
      c.min-batch.ensures,
      ap (λ (r : Block). r.since) e,
      ap (λ (r : Block). r.carried) e,
      batch_fits x.scene x.holds c.args.step.entry.worker x.here.is,
    )

pub moved-requires : goal.moved-requires
moved-requires c =
    let x = c.requires.1 in
    (roomy x.scene x.holds, omega arith, omega arith)

pub returns-then-cell-eq0 : goal.returns-then-cell-eq0
returns-then-cell-eq0 c =
    let z = rw c.load-r.ensures at c.if-cell-eq0.true in
    λ marks v x.
    rw (c.begin.ensures, c.min-batch.ensures, c.load-r.ensures, c.moved.ensures) (unasked c.args.step.entry.worker v z x)

pub share-requires-clause-by_index : goal.share-requires-clause-by_index
share-requires-clause-by_index c =
    let n = rw c.load-r.ensures at c.if-cell-eq0.false in
    let q = rw c.load-r.ensures at (sym c.shares.ensures ∙ c.if-shares.true) in
    (_, asked c.args.step.entry.worker true n q c.requires.1)

pub returns-then-shares : goal.returns-then-shares
returns-then-shares c =
    let n = rw c.load-r.ensures at c.if-cell-eq0.false in
    let q = rw c.load-r.ensures at (sym c.shares.ensures ∙ c.if-shares.true) in
    λ marks v x. c.share.ensures marks v (asked c.args.step.entry.worker true n q x)

pub refuse-requires-clause-by_index : goal.refuse-requires-clause-by_index
refuse-requires-clause-by_index c =
    let n = rw c.load-r.ensures at c.if-cell-eq0.false in
    let q = rw c.load-r.ensures at (sym c.shares.ensures ∙ c.if-shares.false) in
    (_, (c.args.work.now, (c.args.tallies.now, asked c.args.step.entry.worker false n q c.requires.1)))

pub returns : goal.returns
returns c =
    let n = rw c.load-r.ensures at c.if-cell-eq0.false in
    let q = rw c.load-r.ensures at (sym c.shares.ensures ∙ c.if-shares.false) in
    λ marks v x. c.refuse.ensures marks _ _ v (asked c.args.step.entry.worker false n q x)
