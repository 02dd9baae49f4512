-- `parse::skip_lines`: a line that begins with % is passed, and at any other byte, and at the end, nothing more is skipped.
use Rattle.std.proofs.Common.{sym, ◌∙◌}
use Rattle.matrix.proofs.Heads.{skip_percent, skip_none, skip_end}
use Rattle.parse.proofs.skip_lines.Goals as goal

pub loop-at-preserved : goal.loop-at-preserved
loop-at-preserved c =
    let b = c.behind_line-at.ensures in
    record { there = b.there; same = c.loop-at.invariant.same ∙ skip_percent _ _ c.loop-at-test.true c.if-text-at-eq-PERCENT.true ∙ b.behind_is }

pub returns-else-text-at-eq-PERCENT-clause-text_value : goal.returns-else-text-at-eq-PERCENT-clause-text_value
returns-else-text-at-eq-PERCENT-clause-text_value c =
    sym (c.loop-at.invariant.same ∙ skip_none _ _ c.loop-at-test.true c.if-text-at-eq-PERCENT.false)

pub returns-after-loop-at-clause-text_value : goal.returns-after-loop-at-clause-text_value
returns-after-loop-at-clause-text_value c = sym (c.loop-at.invariant.same ∙ skip_end _ _ c.loop-at-test.false)
