use Rattle.std.proofs.Common.{arith}
use Rattle.changes.proofs.Following.{following_start, last_of, follow_room, follow_below, following_next, following_end}
use Rattle.changes.proofs.marking.follow.Goals as goal

pub loop-count-init : goal.loop-count-init
loop-count-init c = following_start c.requires

pub bounds-list-count : goal.bounds-list-count
bounds-list-count c = omega (arith, c.loop-count.invariant.followable.roomy.room)

pub touch_all-count-requires : goal.touch_all-count-requires
touch_all-count-requires c =
    let f = last_of c.loop-count.invariant (omega arith) in
    (follow_room f, rw c.references-part.ensures (follow_below f), omega arith)

pub loop-count-smaller : goal.loop-count-smaller
loop-count-smaller c = omega (arith, c.touch_all-count.ensures.sized)

pub loop-count-preserved : goal.loop-count-preserved
loop-count-preserved c = following_next c.loop-count.invariant (omega arith) (rw c.references-part.ensures at c.touch_all-count.ensures)

pub returns : goal.returns
returns c = following_end c.loop-count.invariant (omega arith)
