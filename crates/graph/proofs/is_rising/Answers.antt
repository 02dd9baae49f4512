use Rattle.laws.proofs.Scan.{pass_next, pass_end}
use Rattle.graph.proofs.Scan.{rising_at, rising_start, rising_end}
use Rattle.graph.proofs.is_rising.Goals as goal

pub loop-offset-init : goal.loop-offset-init
loop-offset-init c = rising_start _

pub loop-offset-preserved : goal.loop-offset-preserved
loop-offset-preserved c = pass_next _ _ _ (rising_at _ _ _ c.loop-offset-test.true) c.loop-offset.invariant

pub returns : goal.returns
returns c = pass_end _ (rising_end _ _ _ c.loop-offset-test.false) c.loop-offset.invariant
