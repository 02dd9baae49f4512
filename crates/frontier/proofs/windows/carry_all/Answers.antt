use Rattle.std.proofs.Common.{arith}
use Rattle.frontier.proofs.LoadLaws.{stretch_is}
use Rattle.frontier.proofs.WindowLaws.{all_start, all_idle, all_next, all_twice, all_stop}
use Rattle.frontier.proofs.windows.carry_all.Goals as goal
use Rattle.frontier.proofs.windows.carry_all.Goals.{else-of-ge-GIVEN-via-then-of-ge-GIVEN+else-not-carry_runs, else-of-ge-GIVEN-via-else-of-ge-GIVEN}

pub loop-b-init : goal.loop-b-init
loop-b-init c = all_start c.requires.none

pub returns-then-not-carry_runs : goal.returns-then-not-carry_runs
returns-then-not-carry_runs c =
    let is = stretch_is _ _ c.loop-b.b _ c.marks.ensures c.stretch-len.ensures in
    all_stop
    (all_twice c.loop-b.invariant c.loop-b-test.true (omega (arith, c.of.ensures.status, c.if-of-ge-GIVEN.true)) is
    c.carry_runs.ensures c.if-not-carry_runs.true)

pub loop-b-preserved : goal.loop-b-preserved
loop-b-preserved c =
    let l = c.loop-b in
    let is = stretch_is _ _ l.b _ c.marks.ensures c.stretch-len.ensures in
    elim c.else-of-ge-GIVEN.branch [
      | else-of-ge-GIVEN-via-then-of-ge-GIVEN+else-not-carry_runs t ↦
          rw t.carried-is
          (all_next l.invariant c.loop-b-test.true (omega (arith, c.of.ensures.status, t.if-of-ge-GIVEN.true)) is t.carry_runs.ensures
          t.if-not-carry_runs.false t.carry_runs.auto.carried)
      | else-of-ge-GIVEN-via-else-of-ge-GIVEN t ↦
          rw t.carried-is (all_idle l.invariant c.loop-b-test.true (omega (arith, c.of.ensures.status, t.if-of-ge-GIVEN.false)))
    ]
