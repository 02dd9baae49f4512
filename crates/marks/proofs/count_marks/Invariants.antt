-- What is left makes up the whole.
use Rattle.marks.proofs.MarkLaws.{MarksAt}
use Rattle.marks.proofs.count_marks.Given as goal

abbrev pub invariant-loop-v : goal.invariant-loop-v
invariant-loop-v l = MarksAt l.offsets l.marks l.live l.leaving l.v
