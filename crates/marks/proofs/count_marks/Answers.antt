use Rattle.std.proofs.Common.{refl}
use Rattle.marks.proofs.MarkLaws.{marks_start, mark_next, marks_end}
use Rattle.marks.proofs.count_marks.Goals as goal

pub loop-v-init : goal.loop-v-init
loop-v-init c = marks_start

pub loop-v-preserved : goal.loop-v-preserved
loop-v-preserved c =
    let h = c.loop-v-test.true in
    mark_next c.loop-v.invariant h (c.requires.rises c.loop-v.v h) c.from-none.ensures refl refl

pub returns : goal.returns
returns c = rw (c.from.ensures, c.from-2.ensures) (marks_end c.loop-v.invariant c.loop-v-test.false)
