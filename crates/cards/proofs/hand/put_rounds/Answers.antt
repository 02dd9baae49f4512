use Rattle.seats.proofs.Dealing.{at_start, at_ready, at_next, at_end}
use Rattle.cards.proofs.hand.put_rounds.Goals as goal

pub loop-card-init : goal.loop-card-init
loop-card-init g c = at_start

pub put_round-at-requires-clause-roomy : goal.put_round-at-requires-clause-roomy
put_round-at-requires-clause-roomy g c = at_ready c.requires.dealing c.loop-card.invariant c.loop-card-test.true

pub loop-card-preserved : goal.loop-card-preserved
loop-card-preserved g c = at_next c.requires.dealing c.loop-card.invariant c.loop-card-test.true c.put_round-at.ensures

pub returns : goal.returns
returns g c = at_end c.requires.dealing c.loop-card.invariant c.loop-card-test.false
