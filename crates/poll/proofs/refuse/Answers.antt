-- The cell empties, a batch begins, and the asker is denied.
use Rattle.std.proofs.Common.{ap, arith}
use Rattle.worker.specs.declared.registers.Block.{Block}
use Rattle.step.proofs.Bounds.{block_room, roomy}
use Rattle.poll.proofs.Answering.{batch_fits, asker_low, asker_word, holds_refused}
use Rattle.poll.proofs.refuse.Goals as goal

pub overflow_add-r : goal.overflow_add-r
overflow_add-r c =
    let x = c.requires.by_index.1.1.1 in
    let e = c.requires.r_value in
    omega (
      arith,
      c.min-batch.ensures,
      ap (λ (r : Block). r.since) e,
      ap (λ (r : Block). r.carried) e,
      batch_fits x.scene x.holds c.args.step.entry.worker x.here.is,
    )

pub overflow_sub-r : goal.overflow_sub-r
overflow_sub-r c =
    let x = c.requires.by_index.1.1.1 in
    omega (arith, ap (λ (r : Block). r.cell) c.requires.r_value, asker_word x.scene x.holds c.args.step.entry.worker x.here.is)

pub put-requires-2 : goal.put-requires-2
put-requires-2 c =
    let b = c.args.step.entry.worker in
    let x = c.requires.by_index.1.1.1 in
    let i = asker_word x.scene x.holds b x.here.is in
    let r = block_room x.scene x.holds x.here.asker (asker_low x.scene x.holds b x.here.is) in
    let e = ap (λ (r : Block). r.cell) c.requires.r_value in (
      record { low = omega (arith, e, i, r.low); long = omega (arith, e, i, r.long, c.put.auto.regs, c.begin.auto.regs) },
      omega arith,
    )

pub moved-requires : goal.moved-requires
moved-requires c =
    let x = c.requires.by_index.1.1.1 in
    (roomy x.scene x.holds, omega arith, omega arith)

pub returns : goal.returns
returns c =
    λ marks work tallies v x.
    rw (c.put-2.ensures, c.begin.ensures, c.put.ensures, c.min-batch.ensures, c.requires.r_value, c.moved.ensures)
    (holds_refused x.scene x.holds c.args.step.entry.worker x.here.is x.here.answers v)
