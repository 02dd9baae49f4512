-- The stretches of the workers passed are written out, and the others are as they were.
use Rattle.std.proofs.Common.{refl, ap, ◌∙◌, arith}
use Rattle.marker.specs.Stages.{top_for}
use Rattle.marker.proofs.Settling.{part_room, part_small, settled_none, block_room, top_room, settled_next, settled_all}
use Rattle.marker.proofs.settle.Goals as goal

pub loop-b-init : goal.loop-b-init
loop-b-init c = λ x. settled_none x

pub load-requires : goal.load-requires
load-requires c = block_room c.requires c.loop-b.b (omega arith)

pub overflow_mul-from : goal.overflow_mul-from
overflow_mul-from c = omega (arith, part_small c.requires c.loop-b.b (omega arith))

pub overflow_add-from : goal.overflow_add-from
overflow_add-from c = omega (arith, part_small c.requires c.loop-b.b (omega arith))

pub offset_bounds-work-from : goal.offset_bounds-work-from
offset_bounds-work-from c = omega (arith, part_small c.requires c.loop-b.b (omega arith))

pub slice_bounds-settle-end : goal.slice_bounds-settle-end
slice_bounds-settle-end c =
    let x = c.requires in
    omega (arith, part_room x c.loop-b.b (omega arith), (c.loop-b.invariant x).long)

pub settle-requires : goal.settle-requires
settle-requires c =
    let x = c.requires in
    top_room x (c.loop-b.invariant x) (omega arith) refl (c.top_of-top.ensures ∙ ap top_for c.load.ensures)

pub loop-b-preserved : goal.loop-b-preserved
loop-b-preserved c = λ x.
    settled_next x (c.loop-b.invariant x) (omega arith) refl (c.top_of-top.ensures ∙ ap top_for c.load.ensures) c.settle.ensures

pub returns : goal.returns
returns c = λ x. settled_all x (c.loop-b.invariant x) (omega arith)
