use Rattle.std.proofs.Common.{◌+◌, arith}
use Rattle.text.proofs.Pages.{blank, then, room, as_page}
use Rattle.lines.specs.Rooms.{dead_room}
use Rattle.lines.specs.Lines.{dead_lines}
use Rattle.lines.proofs.Listing.{lines_more}
use Rattle.lines.proofs.put_dead_list.Goals as goal

pub loop-object-init : goal.loop-object-init
unfolding dead_lines
loop-object-init c = blank _ (omega arith)

pub put_dead-requires : goal.put_dead-requires
put_dead-requires c = room c.loop-object.invariant 47 (omega arith)

pub loop-object-preserved : goal.loop-object-preserved
loop-object-preserved c =
    let a = c.args in
    let i = c.loop-object.object-index in
    as_page (then c.loop-object.invariant (dead_room (i + 1)) (omega arith) c.put_dead.ensures) (lines_more a.sizes.now a.list.now i (omega arith))
