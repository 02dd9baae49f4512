use Rattle.std.proofs.Common.{◌∙◌, sym}
use Rattle.sweep.proofs.Dead.{fit_step, fit_stop, fit_end}
use Rattle.sweep.proofs.sizes_fit.Goals as goal

pub returns-then-size-gt-LARGEST_SIZE : goal.returns-then-size-gt-LARGEST_SIZE
returns-then-size-gt-LARGEST_SIZE c = sym (fit_stop _ _ c.loop-size-test.true c.if-size-gt-LARGEST_SIZE.true) ∙ c.loop-size.invariant

pub loop-size-preserved : goal.loop-size-preserved
loop-size-preserved c = fit_step _ _ c.loop-size-test.true c.if-size-gt-LARGEST_SIZE.false ∙ c.loop-size.invariant

pub returns : goal.returns
returns c = sym (fit_end _ _ c.loop-size-test.false) ∙ c.loop-size.invariant
