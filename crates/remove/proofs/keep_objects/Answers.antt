use Rattle.std.proofs.Common.{arith}
use Rattle.changes.proofs.Keeping.{objects_stop, place_low, objects_next}
use Rattle.remove.proofs.keep_objects.Goals as goal

pub returns-then-end-next : goal.returns-then-end-next
returns-then-end-next c =
    objects_stop c.loop-v.invariant c.loop-v-test.true c.keep_part-place.auto.places c.if-end-next.true c.keep_part-place.ensures

pub overflow_cast-bounds : goal.overflow_cast-bounds
overflow_cast-bounds c =
    omega (arith, place_low c.loop-v.invariant c.loop-v-test.true c.if-end-next.false c.keep_part-at.ensures c.requires)

pub loop-v-preserved : goal.loop-v-preserved
loop-v-preserved c =
    objects_next c.loop-v.invariant c.loop-v-test.true c.if-end-next.false c.keep_part-at.ensures c.requires c.keep_part-at.auto.places
