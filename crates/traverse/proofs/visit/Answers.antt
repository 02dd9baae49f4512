use Rattle.std.proofs.Common.{refl}
use Rattle.layers.proofs.Visiting.{part_inside, part_is, visiting_start, visiting_ready, visiting_next}
use Rattle.traverse.proofs.visit.Goals as goal

pub slice_bounds-v-items-end : goal.slice_bounds-v-items-end
slice_bounds-v-items-end c = (part_inside c.requires.0 c.requires.1).2

pub find-requires : goal.find-requires
find-requires c =
    let e = part_is c.requires.0 c.requires.1 refl in
    rw e (visiting_ready c.requires.0 c.requires.1 c.loop-v.invariant (rw e at c.loop-v-test.true))

pub loop-v-preserved : goal.loop-v-preserved
loop-v-preserved c =
    let e = part_is c.requires.0 c.requires.1 refl in
    visiting_next c.requires.0 c.requires.1 c.loop-v.invariant (rw e at c.loop-v-test.true) (rw e at c.find.ensures)

pub loop-v-init : goal.loop-v-init
loop-v-init c = visiting_start c.requires.0 c.requires.1
