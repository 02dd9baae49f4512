use Rattle.std.proofs.Common.{arith}
use Rattle.marks.proofs.MarkLaws.{starts_start, start_next}
use Rattle.marks.proofs.count_starts.Goals as goal

pub loop-start-init : goal.loop-start-init
loop-start-init c = starts_start c.requires

pub loop-start-preserved : goal.loop-start-preserved
loop-start-preserved c =
    let l = c.loop-start in
    let h = c.loop-start-test.true in
    start_next l.invariant h (c.requires.below l.start-index h) (omega (arith, c.if-marks-start-eq0.false)) c.insert.auto.words c.insert.ensures c.from-distinct.ensures
