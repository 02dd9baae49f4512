use Rattle.laws.proofs.Scan.{pass_next, pass_end}
use Rattle.graph.proofs.Scan.{below_at, below_end}
use Rattle.checks.proofs.is_at_most.Goals as goal

pub loop-b-preserved : goal.loop-b-preserved
loop-b-preserved c = pass_next _ _ _ (below_at _ _ _ c.loop-b-test.true) c.loop-b.invariant

pub returns : goal.returns
returns c = pass_end _ (below_end _ _ _ c.loop-b-test.false) c.loop-b.invariant
