use Rattle.std.proofs.Common.{sym, ◌∙◌}
use Rattle.names.proofs.Texts.{ends_step, ends_stop, ends_end}
use Rattle.scan.proofs.ends_right.Goals as goal

pub returns-then-end-start : goal.returns-then-end-start
returns-then-end-start c = sym (ends_stop _ _ _ _ c.loop-end-test.true c.if-end-start.true) ∙ c.loop-end.invariant

pub loop-end-preserved : goal.loop-end-preserved
loop-end-preserved c = ends_step _ _ _ _ c.loop-end-test.true c.if-end-start.false ∙ c.loop-end.invariant

pub returns : goal.returns
returns c = sym (ends_end _ _ _ _ c.loop-end-test.false) ∙ c.loop-end.invariant
