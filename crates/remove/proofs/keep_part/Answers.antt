use Rattle.std.proofs.Common.{sym}
use Rattle.changes.proofs.Keeping.{part_room, part_more, part_over}
use Rattle.remove.proofs.keep_part.Goals as goal
use Rattle.remove.proofs.keep_part.Goals.{then-not-contains, else-not-contains}

pub bounds-places-at : goal.bounds-places-at
bounds-places-at c = part_room c.loop-e.invariant c.loop-e-test.true (sym c.if-not-contains.ensures) c.requires

pub loop-e-preserved : goal.loop-e-preserved
loop-e-preserved c =
    elim c.if-not-contains.branch [
      | then-not-contains w ↦ rw (w.places-is, w.at-is) (part_more c.loop-e.invariant c.loop-e-test.true (sym w.if-not-contains.ensures))
      | else-not-contains w ↦ rw (w.places-is, w.at-is) (part_over c.loop-e.invariant c.loop-e-test.true (sym w.if-not-contains.ensures))
    ]
