use Rattle.seed_deal.proofs.Drawing.{at_start, at_ready, at_next, at_end}
use Rattle.seed_deal.proofs.put_draws.Goals as goal

pub loop-init : goal.loop-init
loop-init g c = at_start

pub put_round-at-requires-clause-roomy : goal.put_round-at-requires-clause-roomy
put_round-at-requires-clause-roomy g c = at_ready c.requires.drawing c.loop.invariant c.loop-test.true c.step-left.result c.card.ensures

pub loop-preserved : goal.loop-preserved
loop-preserved g c = at_next c.requires.drawing c.loop.invariant c.loop-test.true c.step-left.ensures c.card.ensures c.put_round-at.ensures

pub returns : goal.returns
returns g c = at_end c.requires.drawing c.loop.invariant c.loop-test.false
