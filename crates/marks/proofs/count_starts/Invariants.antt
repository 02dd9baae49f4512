-- The set holds the starts passed.
use Rattle.marks.proofs.MarkLaws.{StartsAt}
use Rattle.marks.proofs.count_starts.Given as goal

abbrev pub invariant-loop-start : goal.invariant-loop-start
invariant-loop-start l = StartsAt l.starts l.marks l.initial.seen l.seen l.distinct l.start-index
