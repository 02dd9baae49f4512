use Rattle.std.proofs.Common.{◌+◌, ◌*◌, arith}
use Rattle.protocol.proofs.HeadLaws.{heads_start, heads_next, counted}
use Rattle.protocol.proofs.heads.check_heads.Goals as goal

pub loop-b-init : goal.loop-b-init
loop-b-init c = heads_start

pub loop-b-preserved : goal.loop-b-preserved
loop-b-preserved c =
    let head = c.of-head.ensures in
    let since = c.from-since.ensures in
    let all = c.type_inv.saved (16 + 4 * c.loop-b.b + 2) in
    rw since (heads_next c.loop-b.invariant c.loop-b-test.true (c.head_sound.ensures.right c.if-not-head_sound.false)
    head.status head.cell head.since head.batch (counted c.loop-b.ended 3 c.from-ended.ensures head.status) (omega arith))
