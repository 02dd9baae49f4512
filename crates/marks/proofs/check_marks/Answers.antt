use Rattle.std.proofs.Common.{sym, ◌∙◌}
use Rattle.marks.proofs.MarkLaws.{marks_low, marks_high}
use Rattle.marks.proofs.check_marks.Goals as goal

pub returns-then-not-is_below : goal.returns-then-not-is_below
returns-then-not-is_below c = marks_high _ _ (sym c.is_below.ensures ∙ c.if-not-is_below.true)

pub returns : goal.returns
returns c =
    record { right = marks_low _ _ (sym c.is_below.ensures ∙ c.if-not-is_below.false); counted = c.count_marks.ensures }
