-- A loop: the lines of the objects before this one are written.
use Rattle.std.proofs.Common.{take}
use Rattle.text.specs.Pages.{Wrote}
use Rattle.lines.specs.Rooms.{dead_room}
use Rattle.lines.specs.Lines.{dead_lines}
use Rattle.lines.proofs.put_dead_list.Given as goal

abbrev pub invariant-loop-object : goal.invariant-loop-object
invariant-loop-object l =
    Wrote (dead_room l.object-index) (dead_lines l.sizes (take l.object-index l.list)) l.initial.page l.page
