-- The work memory is divided, and both blocks are written.
use Rattle.poll.proofs.Answering.{poll_low, poll_is, asker_low, asker_word, dividing_words, sharing_words, holds_shared}
use native.Mathlib.Omega.{arith}
use mathlib.Core.Path.{refl, ap}
use Rattle.worker.specs.declared.registers.Block.{Block}
use Rattle.step.proofs.Raising.{raisable}
use Rattle.theorems.proofs.Facts.{busy_carried_limit}
use Rattle.step.proofs.Bounds.{block_room, roomy, ring_at}
use Rattle.poll.proofs.share.Goals as goal

pub overflow_sub-asker : goal.overflow_sub-asker
overflow_sub-asker c =
    let b = c.args.step.entry.worker in
    let x = c.requires.by_index.1 in
    omega (arith, ap (λ (r : Block). r.cell) c.requires.r_value, asker_word x.scene x.holds b x.here.is)

pub overflow_add-half : goal.overflow_add-half
overflow_add-half c =
    let b = c.args.step.entry.worker in
    let x = c.requires.by_index.1 in
    let n = ap (λ (r : Block). r.carried) c.requires.r_value in
    omega (
      arith,
      n,
      (poll_is x.scene x.holds b x.here.is).carrying.number,
      busy_carried_limit x.scene.accepted x.scene.sound b x.here.is,
      x.scene.references_limit,
    )

pub divide-parts-requires : goal.divide-parts-requires
divide-parts-requires c =
    let b = c.args.step.entry.worker in
    let x = c.requires.by_index.1 in
    rw c.requires.r_value (
      dividing_words x.scene x.holds b x.here.is x.here.answers,
      sharing_words x.scene x.holds b x.here.is x.here.answers,
    )

pub store-requires : goal.store-requires
store-requires c =
    let b = c.args.step.entry.worker in
    let x = c.requires.by_index.1 in
    block_room x.scene x.holds b (poll_low x.scene x.holds b x.here.is)

pub store-requires-2 : goal.store-requires-2
store-requires-2 c =
    let b = c.args.step.entry.worker in
    let x = c.requires.by_index.1 in
    let i = asker_word x.scene x.holds b x.here.is in
    let r = block_room x.scene x.holds x.here.asker (asker_low x.scene x.holds b x.here.is) in
    let e = ap (λ (r : Block). r.cell) c.requires.r_value in
    record { low = omega (arith, e, i, r.low); long = omega (arith, e, i, r.long, c.store.auto.regs) }

pub raise-requires : goal.raise-requires
raise-requires c =
    let b = c.args.step.entry.worker in
    let x = c.requires.by_index.1 in
    let low = poll_low x.scene x.holds b x.here.is in
    raisable x.scene x.holds b low _ (omega arith) (omega arith) (omega arith) (omega arith)

pub handed-requires : goal.handed-requires
handed-requires c =
    let b = c.args.step.entry.worker in
    let x = c.requires.by_index.1 in
    (roomy x.scene x.holds, ring_at x.scene x.holds b (poll_low x.scene x.holds b x.here.is))

pub returns : goal.returns
returns c =
    let b = c.args.step.entry.worker in
    let d = rw c.requires.r_value at c.divide-parts.ensures.divided in
    λ marks v x.
    let r = ring_at x.scene x.holds b (poll_low x.scene x.holds b x.here.is) in
    rw (c.raise.ensures, c.store-2.ensures, c.store.ensures, c.shared.ensures, c.given.ensures)
    (rw (c.requires.r_value, c.handed.ensures r)
    (holds_shared x.scene x.holds b x.here.is x.here.answers v _ _ _ refl d))
