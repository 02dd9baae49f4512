use Rattle.frontier.proofs.LoadLaws.{loads_start, loads_next, stretch_is, stretch_short}
use Rattle.frontier.proofs.runs.check_stretches.Goals as goal

pub loop-b-init : goal.loop-b-init
loop-b-init c = loads_start

pub loop-b-preserved : goal.loop-b-preserved
loop-b-preserved c =
    let place = c.marks.ensures in
    let size = c.stretch-len.ensures in
    let head = c.of-head.ensures in
    loads_next c.loop-b.invariant c.loop-b-test.true c.in_ok-own.ensures head.status head.batch
    (stretch_is _ _ c.loop-b.b _ place size) c.from-carrying.ensures (stretch_short _ size c.requires.objects_limit _ _)
