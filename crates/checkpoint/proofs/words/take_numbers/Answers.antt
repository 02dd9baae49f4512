use Rattle.checkpoint.proofs.Numbers.{taking_none, taking_next, taking_all}
use Rattle.checkpoint.proofs.words.take_numbers.Goals as goal

pub loop-i-init : goal.loop-i-init
loop-i-init c = taking_none c.requires

pub loop-i-preserved : goal.loop-i-preserved
loop-i-preserved c = rw c.number.ensures (taking_next c.loop-i.invariant c.loop-i-test.true)

pub returns : goal.returns
returns c = taking_all c.loop-i.invariant c.loop-i-test.false
