-- `print::put_object`: one line more.
use Rattle.std.proofs.Common.{arith}
use Rattle.matrix.proofs.Texts.{object_start, target_small, object_room, object_next}
use Rattle.print.proofs.put_object.Goals as goal

pub loop-target-init : goal.loop-target-init
loop-target-init c = object_start c.requires

pub put_line-end-requires : goal.put_line-end-requires
put_line-end-requires c =
    let a = c.loop-target.invariant in
    let h = c.loop-target-test.true in
    rw (c.from.ensures, c.from-in-loop-target.ensures) (omega (arith, a.able.listable.few), (omega (arith, target_small a h), object_room a h))

pub loop-target-preserved : goal.loop-target-preserved
loop-target-preserved c =
    object_next c.loop-target.invariant c.loop-target-test.true (rw (c.from.ensures, c.from-in-loop-target.ensures) at c.put_line-end.ensures)
