use Rattle.std.proofs.Common.{arith}
use Rattle.changes.proofs.Gathering.{gathered_none, gathered_low, gathered_out, gathered_new, gathered_again, gathered_end}
use Rattle.remove.proofs.gather.Goals as goal
use Rattle.remove.proofs.gather.Goals.{then-base-e+then-e-end+then-insert, else-base-e, else-base-e-via-then-base-e+then-e-end+else-insert, else-base-e-via-then-base-e+else-e-end, else-base-e-via-else-base-e}

pub loop-e-init : goal.loop-e-init
loop-e-init c = gathered_none _ _ _ (c.fill.ensures.after (λ y e. e))

pub overflow_add-count : goal.overflow_add-count
overflow_add-count c = omega (arith, gathered_low c.loop-e.invariant, c.ranges)

pub loop-e-preserved : goal.loop-e-preserved
loop-e-preserved c =
    let a = c.loop-e.invariant in
    let h = c.loop-e-test.true in
    elim c.if-base-e.branch [
      | then-base-e+then-e-end+then-insert w ↦
          rw (w.taken-is, w.count-is) (gathered_new a h w.if-base-e.true w.if-e-end.true w.insert.auto.words w.insert.ensures w.if-insert.true)
      | else-base-e w ↦
          rw (w.taken-is, w.count-is)
          (elim w.else-base-e.branch [
            | else-base-e-via-then-base-e+then-e-end+else-insert v ↦
                rw v.taken-is (gathered_again a h v.if-base-e.true v.if-e-end.true v.insert.auto.words v.insert.ensures v.if-insert.false)
            | else-base-e-via-then-base-e+else-e-end v ↦ rw v.taken-is (gathered_out a h (λ p q. omega (arith, v.if-e-end.false)))
            | else-base-e-via-else-base-e v ↦ rw v.taken-is (gathered_out a h (λ p q. omega (arith, v.if-base-e.false)))
          ])
    ]

pub returns : goal.returns
returns c = gathered_end c.loop-e.invariant c.loop-e-test.false c.requires.0
