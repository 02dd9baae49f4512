use Rattle.laws.proofs.Scan.{pass_next, pass_end}
use Rattle.graph.proofs.Scan.{below_at, below_end}
use Rattle.graph.proofs.is_at_most.Goals as goal

pub loop-x-preserved : goal.loop-x-preserved
loop-x-preserved c = pass_next _ _ _ (below_at _ _ _ c.loop-x-test.true) c.loop-x.invariant

pub returns : goal.returns
returns c = pass_end _ (below_end _ _ _ c.loop-x-test.false) c.loop-x.invariant
