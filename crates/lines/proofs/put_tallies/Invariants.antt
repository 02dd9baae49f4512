-- A loop: the lines of the workers before this one are written.
use Rattle.text.specs.Pages.{Wrote}
use Rattle.lines.specs.Rooms.{tally_room}
use Rattle.lines.specs.Lines.{word_lines}
use Rattle.lines.proofs.put_tallies.Given as goal

abbrev pub invariant-loop-worker : goal.invariant-loop-worker
invariant-loop-worker l = Wrote (tally_room l.worker) (word_lines l.tallies l.worker) l.initial.page l.page
